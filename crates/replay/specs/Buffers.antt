-- What a buffer holds before a call and what it is judged by after it: words of the case, and behind them paint or zeros.
-- A buffer's numbers are known by `word`, the word that one is stored as, `number`, the number that a word stands for, and `mark`, the word of the paint at
-- a place.
use Rattle.std.specs.Prelude.{Bool, true, false, cond, ◌&&◌, List, [], ◌∷◌, ℕ, zero, suc, ◌+◌, ◌-◌, ◌*◌, ◌%◌, eqb, ltb, Float, length, slice_index}
use Rattle.std.specs.Float.{binary32}
use Rattle.std.specs.Float.Ieee.{to_bits}
use Rattle.words.specs.Words.{word_at}
use Rattle.replay.specs.Place.{place_of}
use Rattle.replay.specs.declared.buffers.Fill.{Fill}
use Rattle.replay.specs.declared.buffers.Fill.TheVariants.{Paint, Zeros}

-- a list whose first n elements are those of f from i on
unfoldable pub over : {A : Type 0} → (ℕ → A) → ℕ → ℕ → List A → List A
over f i zero l = l
over f i (suc n) [] = []
over f i (suc n) (x ∷ l) = f i ∷ over f (suc i) n l

-- a test of each element and its place
unfoldable pub every_at : {A : Type 0} → (ℕ → A → Bool) → ℕ → List A → Bool
every_at p i [] = true
every_at p i (x ∷ l) = cond (p i x) (every_at p (suc i) l) false

-- p at i and at the n - 1 that follow
unfoldable pub every : (ℕ → Bool) → ℕ → ℕ → Bool
every p i zero = true
every p i (suc n) = cond (p i) (every p (suc i) n) false

-- ---- paint: the bits of numbers from 1.5 up, and small numbers
abbrev pub mark_of : ℕ → ℕ
mark_of i = 0x3fc0_0000 + i % 999

abbrev pub scratch_mark : ℕ → ℕ
scratch_mark i = i % 999 + 1

abbrev pub byte_mark : ℕ → ℕ
byte_mark i = i % 250 + 3

-- a whole number out of a word
abbrev pub lowest : ℕ → ℕ → ℕ
lowest limit word = word % limit

-- ---- a buffer
abbrev pub fill_of : (ℕ → ℕ) → Fill → ℕ → ℕ
fill_of mark Paint i = mark i
fill_of mark Zeros i = 0

abbrev pub wanted_of : (ℕ → ℕ) → List ℕ → ℕ → ℕ → Fill → ℕ → ℕ
wanted_of mark case at n fill i = cond (ltb i n) (word_at case (place_of at i)) (fill_of mark fill i)

abbrev pub lent_of : {A : Type 0} → (ℕ → A) → (ℕ → ℕ) → List ℕ → ℕ → ℕ → Fill → List A → List A
lent_of number mark case at n fill l = over (λ i. number (wanted_of mark case at n fill i)) 0 (length l) l

abbrev pub painted_of : {A : Type 0} → (ℕ → A) → (ℕ → ℕ) → List A → List A
painted_of number mark l = over (λ i. number (mark i)) 0 (length l) l

abbrev pub stands_in : {A : Type 0} → (A → ℕ) → (ℕ → ℕ) → List ℕ → ℕ → ℕ → Fill → List A → Bool
stands_in word mark case at n fill l = cond (ltb (length l) n) false (every_at (λ i x. eqb (word x) (wanted_of mark case at n fill i)) 0 l)

-- ---- bytes: those that are given, from a place on, and zeros behind them; n of these are judged, and the others are paint
abbrev pub given_byte : List ℕ → ℕ → ℕ → ℕ → ℕ
given_byte case at given i = cond (ltb i given) (slice_index case (at + i)) 0

abbrev pub loaded_of : List ℕ → ℕ → ℕ → List ℕ → List ℕ
loaded_of case at given l = over (given_byte case at given) 0 (length l) l

abbrev pub wanted_byte : List ℕ → ℕ → ℕ → ℕ → ℕ → ℕ
wanted_byte case at given n i = cond (ltb i n) (given_byte case at given i) (byte_mark i)

abbrev pub bytes_stand_in : List ℕ → ℕ → ℕ → ℕ → List ℕ → Bool
bytes_stand_in case at given n l = cond (ltb (length l) n) false (every_at (λ i x. eqb x (wanted_byte case at given n i)) 0 l)

-- ---- a number handed out beside the answer: the stored one; where the call is refused 0 is stored and it is still paint
abbrev pub counts_as : ℕ → ℕ → ℕ → Bool
counts_as number stored count = cond (eqb number 0) (eqb count stored) (eqb stored 0 && eqb count (mark_of 0))

-- an answer of a number, two words that are not ours to answer, a count and that many corners
abbrev pub corners_stand : List ℕ → ℕ → ℕ → ℕ → List Float → Bool
corners_stand case at number count out =
    eqb number (word_at case (place_of at 0))
    && counts_as number (word_at case (place_of at 3)) count
    && stands_in (to_bits binary32) mark_of case (place_of at 4) (3 * word_at case (place_of at 3)) Paint out

-- ---- words that are 0, from one number up to another
abbrev pub zeros_in : List ℕ → ℕ → ℕ → ℕ → Bool
zeros_in case at from to = every (λ i. eqb (word_at case (place_of at i)) 0) from (to - from)

-- What is spoilt: which of several things is taken at a turn, a word with one bit the other way, an element that is another one.
use Rattle.std.specs.Prelude.{cond, List, [], ◌∷◌, ℕ, zero, suc, ◌+◌, ◌-◌, ◌*◌, ◌/◌, ◌%◌, ◌^◌, eqb, leb, get_or, set, Option, None, Some}
use Rattle.std.specs.Int.Bits.{bit_xor}
use Rattle.words.specs.Words.{word_at}
use Rattle.replay.specs.Place.{place_of}
use Rattle.replay.specs.declared.spoiling.Spoilt.{Spoilt}
use Rattle.replay.specs.declared.spoiling.Judged.{Judged}

-- ---- a turn's choice among n, and a number for its bit
abbrev pub pick_of : ℕ → ℕ → ℕ
pick_of turn n = cond (eqb n 0) 0 (turn % n)

abbrev pub round_of : ℕ → ℕ → ℕ
round_of turn n = cond (eqb n 0) 0 (turn / n + 5 * (turn % n))

-- of a NaN, also of the high word of a wide one, a bit without which it is none; else any
abbrev pub bit_of : ℕ → ℕ → ℕ
bit_of word round = cond (eqb word 0x7fc0_0000) (22 + round % 9) (cond (eqb word 0x7ff8_0000) (19 + round % 12) (round % 32))

-- ---- a bit of a case
abbrev pub mask_of : ℕ → ℕ
mask_of bit = 2 ^ (bit % 8)

-- the byte that has the bit
abbrev pub byte_of : ℕ → ℕ → ℕ
byte_of place bit = place + bit / 8

unfoldable pub flipped : List ℕ → ℕ → ℕ → List ℕ
flipped l place bit = set l (byte_of place bit) (bit_xor (get_or l (byte_of place bit) 0) (mask_of bit))

-- the judged words: the answer's number, and those from `next` on
abbrev pub judged_at : ℕ → ℕ → ℕ → ℕ
judged_at number next i = cond (eqb i 0) number (place_of next (i - 1))

abbrev pub judged_in : ℕ → ℕ → ℕ → ℕ → Judged
judged_in at words number next = record { words = words; number = place_of at number; next = place_of at next }

-- no bit below `low`
abbrev pub raised_of : ℕ → ℕ → ℕ
raised_of bit low = cond (leb low bit) bit low

abbrev pub spoilt_at : List ℕ → ℕ → ℕ → ℕ → ℕ → Spoilt
spoilt_at case turn n place low = record { place = place; bit = raised_of (bit_of (word_at case place) (round_of turn n)) low }

-- ---- an element of what was written
abbrev pub other_of : ℕ → ℕ
other_of word = cond (eqb word 0) 1 0

-- another number, where `word` is the word that a number is stored as and `number` the number that a word stands for
abbrev pub other_in : {A : Type 0} → (A → ℕ) → (ℕ → A) → A → A
other_in word number x = number (other_of (word x))

-- the element at a place by another one
unfoldable pub changed_at : {A : Type 0} → (A → A) → ℕ → List A → List A
changed_at f i [] = []
changed_at f zero (x ∷ l) = f x ∷ l
changed_at f (suc i) (x ∷ l) = x ∷ changed_at f i l

abbrev pub hit_of : {A : Type 0} → (A → A) → Option ℕ → List A → List A
hit_of f None l = l
hit_of f (Some i) l = changed_at f i l

abbrev pub hit_number : ℕ → Option ℕ → ℕ
hit_number n None = n
hit_number n (Some i) = cond (eqb i 0) (other_of n) n

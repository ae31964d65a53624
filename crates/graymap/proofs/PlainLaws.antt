-- The plain form read back: a number written in decimal, the header of such numbers, and the samples.
use mathlib.Core.Path.{◌≡◌, refl, sym, ap, ◌∙◌, subst}
use mathlib.Core.Logic.{⊎_elim}
use mathlib.Core.Bool.{Bool, true, false, not, ◌||◌, cond}
use mathlib.Core.List.{List, [], ◌∷◌, ◌++◌, append_assoc}
use Prim.Native.Nat.{ℕ, zero, suc, ◌+◌, ◌*◌, ◌/◌, ◌%◌, ◌^◌, ◌≤◌, ◌<◌}
use native.Mathlib.Nat.{div-add-mod, div-lt_iff_lt-mul, mod-lt, pow-suc}
use native.Mathlib.Omega.{arith}
use lib.Dec.{eqb}
use lib.ListN.{length, get_or}
use borrow.Author.Tests.{lt-ltb, le-ltb, le-leb, ne_eqb}
use Rattle.shapes.proofs.TestLaws.{both}
use Rattle.graymap.specs.Grammar.{is_space, is_digit, gap, digits, missing, number, number_in, header, with_maximum, with_height, with_width, header_in}
use Rattle.graymap.specs.Call.{bytes_of, sample_in}
use Rattle.graymap.specs.Claims.{decimal_in, decimal, bytes_in}
use Rattle.graymap.specs.Steps.{ends_gap}
use Rattle.graymap.proofs.CutLaws.{sides}
use Rattle.graymap.proofs.GapLaws.{ended}
use Rattle.graymap.proofs.DigitLaws.{one_more, no_more}

-- ---- one digit
is_digit_lem : (d : ℕ) → d < 10 → is_digit (48 + d) ≡ true
is_digit_lem d h = both (le-leb 48 (48 + d) (omega arith)) (le-leb (48 + d) 57 (omega arith))

other : (d k : ℕ) → k < 48 → eqb (48 + d) k ≡ false
other d k h = ne_eqb (48 + d) k (λ e. omega arith)

digit-ends : (d : ℕ) → ends_gap false (48 + d) ≡ true
digit-ends d =
    by (eqb (48 + d) 32) (eqb (48 + d) 9) (eqb (48 + d) 10) (eqb (48 + d) 13) (eqb (48 + d) 35) (other d 32 (omega arith)) (other d 9 (omega arith)) (other d 10 (omega arith))
    (other d 13 (omega arith)) (other d 35 (omega arith))
  where
    by : (a b c d e : Bool) → a ≡ false → b ≡ false → c ≡ false → d ≡ false → e ≡ false → not (a || b || c || d || e) ≡ true
    by a b c d e p q r s t = rw (p, q, r, s, t)

digit_on : (v d : ℕ) (some : Bool) (rest : List ℕ) → d < 10 → digits v some ((48 + d) ∷ rest) ≡ digits (10 * v + d) true rest
digit_on v d some rest h = one_more v some (48 + d) rest (is_digit_lem d h) ∙ ap (λ (n : ℕ). digits n true rest) (omega arith)

-- ---- a number: below ten one digit, else the last digit behind those of a tenth
single : (k n : ℕ) (rest : List ℕ) → n < 10 → decimal_in (suc k) n ++ rest ≡ (48 + n) ∷ rest
single k n rest h = ap (λ (b : Bool). cond b ((48 + n) ∷ []) (decimal_in k (n / 10) ++ ((48 + n % 10) ∷ [])) ++ rest) (lt-ltb n 10 h)

parted : (k n : ℕ) (rest : List ℕ) → 10 ≤ n → decimal_in (suc k) n ++ rest ≡ decimal_in k (n / 10) ++ ((48 + n % 10) ∷ rest)
parted k n rest h =
    ap (λ (b : Bool). cond b ((48 + n) ∷ []) (decimal_in k (n / 10) ++ ((48 + n % 10) ∷ [])) ++ rest) (le-ltb n 10 h)
    ∙ append_assoc (decimal_in k (n / 10)) ((48 + n % 10) ∷ []) rest

digits-read : (k n : ℕ) (some : Bool) (rest : List ℕ) → n < 10 ^ suc k → digits 0 some (decimal_in (suc k) n ++ rest) ≡ digits n true rest
digits-read zero n some rest h = ap (digits 0 some) (single zero n rest h) ∙ digit_on 0 n some rest h ∙ ap (λ (v : ℕ). digits v true rest) (omega arith)
digits-read (suc k) n some rest h =
    ⊎_elim
    (λ l. ap (digits 0 some) (single (suc k) n rest l) ∙ digit_on 0 n some rest l ∙ ap (λ (v : ℕ). digits v true rest) (omega arith))
    (λ l. ap (digits 0 some) (parted (suc k) n rest l)
    ∙ digits-read k (n / 10) some ((48 + n % 10) ∷ rest) ((div-lt_iff_lt-mul (omega arith)).1 (subst (λ (x : ℕ). n < x) (pow-suc 10 (suc k)) h))
    ∙ digit_on (n / 10) (n % 10) true rest (mod-lt n (omega arith))
    ∙ ap (λ (v : ℕ). digits v true rest) (div-add-mod n 10))
    (sides n 10)

starts : (d : ℕ) (rest l : List ℕ) → l ≡ (48 + d) ∷ rest → gap false l ≡ l
starts d rest l e = ap (gap false) e ∙ ended false (48 + d) rest (digit-ends d) ∙ sym e

gap-read : (k n : ℕ) (rest : List ℕ) → gap false (decimal_in (suc k) n ++ rest) ≡ decimal_in (suc k) n ++ rest
gap-read zero n rest =
    ⊎_elim (λ l. starts n rest (decimal_in 1 n ++ rest) (single zero n rest l)) (λ l. starts (n % 10) rest (decimal_in 1 n ++ rest) (parted zero n rest l)) (sides n 10)
gap-read (suc k) n rest =
    ⊎_elim (λ l. starts n rest (decimal_in (suc (suc k)) n ++ rest) (single (suc k) n rest l))
    (λ l. ap (gap false) (parted (suc k) n rest l) ∙ gap-read k (n / 10) ((48 + n % 10) ∷ rest) ∙ sym (parted (suc k) n rest l))
    (sides n 10)

number_read : (n sep : ℕ) (rest : List ℕ) → n < 10000 → is_digit sep ≡ false → is_space sep ≡ true → number_in (decimal n ++ (sep ∷ rest)) ≡ number n rest
unfolding number_in
number_read n sep rest h d s =
    ap (digits 0 false) (gap-read 3 n (sep ∷ rest))
    ∙ digits-read 3 n false (sep ∷ rest) h
    ∙ no_more n true sep rest d
    ∙ ap (λ (b : Bool). cond b (number n rest) missing) s

-- ---- the header
pub header_read : (w h m : ℕ) (samples : List ℕ) → w < 10000 → h < 10000 → m < 10000
    → header_in (decimal w ++ (32 ∷ (decimal h ++ (32 ∷ (decimal m ++ (10 ∷ samples)))))) ≡ header w h m samples
unfolding header_in
header_read w h m samples a b c =
    ap with_width (number_read w 32 (decimal h ++ (32 ∷ (decimal m ++ (10 ∷ samples)))) a refl refl)
    ∙ ap (with_height w) (number_read h 32 (decimal m ++ (10 ∷ samples)) b refl refl)
    ∙ ap (with_maximum w h) (number_read m 10 samples c refl refl)

-- ---- the samples
pub bytes_count : (deep : Bool) (samples : List ℕ) → length (bytes_in deep samples) ≡ bytes_of deep (length samples)
unfolding bytes_in
bytes_count true [] = refl
bytes_count false [] = refl
bytes_count true (v ∷ l) = let e = bytes_count true l in omega arith
bytes_count false (v ∷ l) = ap suc (bytes_count false l)

-- a sample further on, behind the two bytes of the first
sample-on : (a b i : ℕ) (l : List ℕ) → sample_in true (a ∷ b ∷ l) (suc i) ≡ sample_in true l i
sample-on a b i l =
    let p : 2 * suc i ≡ suc (suc (2 * i)) = omega arith in
    let q : 2 * suc i + 1 ≡ suc (suc (2 * i + 1)) = omega arith in
    ap (λ (k : ℕ). 256 * get_or (a ∷ b ∷ l) k 0 + get_or (a ∷ b ∷ l) (2 * suc i + 1) 0) p ∙ ap (λ (k : ℕ). 256 * get_or l (2 * i) 0 + get_or (a ∷ b ∷ l) k 0) q

bytes_same : (samples : List ℕ) → bytes_in false samples ≡ samples
unfolding bytes_in
bytes_same [] = refl
bytes_same (v ∷ l) = ap (λ (k : List ℕ). v ∷ k) (bytes_same l)

pub samples-read : (deep : Bool) (samples : List ℕ) (i : ℕ) → sample_in deep (bytes_in deep samples) i ≡ get_or samples i 0
unfolding bytes_in
samples-read true [] i = refl
samples-read false samples i = ap (λ (l : List ℕ). get_or l i 0) (bytes_same samples)
samples-read true (v ∷ l) zero = div-add-mod v 256
samples-read true (v ∷ l) (suc i) = sample-on (v / 256) (v % 256) i (bytes_in true l) ∙ samples-read true l i

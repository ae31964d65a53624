-- Digit after digit: the size of a word from here on is that of the whole word, and cutting what was read so far does not change it.
use mathlib.Core.Path.{◌≡◌, refl, sym, ap, ◌∙◌}
use mathlib.Core.Bool.{Bool, true, false, ◌&&◌, cond}
use mathlib.Core.List.{List, [], ◌∷◌}
use Prim.Native.Nat.{ℕ, suc, ◌+◌, ◌-◌, ◌*◌, ◌≤◌, ◌<◌, min}
use native.Mathlib.Numerals.{add-one}
use native.Mathlib.Omega.{arith}
use lib.Dec.{leb}
use lib.ListN.{length, get_or, drop}
use lib.Seq.{drop-cons, drop-length}
use borrow.Author.Tests.{leb-true}
use Rattle.shapes.proofs.TestLaws.{first_of}
use Rattle.std.specs.Prelude.{Option, None, Some}
use Rattle.salvage_text.specs.Sizes.{most, is_digit, are_digits, value_from, size_of}

-- n was read, and l is left
unfoldable pub size_from : ℕ → List ℕ → Option ℕ
size_from n l = cond (are_digits l) (Some (min most (value_from n l))) None

pub from_digit : (b : ℕ) → is_digit b ≡ true → 48 ≤ b
from_digit b e = leb-true 48 b (first_of (leb 48 b) (leb b 57) e)

-- ---- the first byte and the last
pub no_word : (word : List ℕ) → length word ≡ 0 → None ≡ size_of word
unfolding size_of
no_word [] e = refl
no_word (b ∷ l) e = absurd (let z : ⊥ = omega arith in z)

pub whole_word : (word : List ℕ) → (length word ≡ 0 → ⊥) → size_from 0 (drop 0 word) ≡ size_of word
unfolding size_of size_from
whole_word [] e = absurd (e refl)
whole_word (b ∷ l) e = refl

nothing_left : (n : ℕ) → size_from n [] ≡ Some (min most n)
unfolding size_from are_digits value_from
nothing_left n = refl

pub at_end : (word : List ℕ) (n i : ℕ) → i ≡ length word → n ≤ most → Some n ≡ size_from n (drop i word)
at_end word n i e h =
    sym (ap (λ (k : ℕ). size_from n (drop k word)) e
    ∙ ap (size_from n) (drop-length word)
    ∙ nothing_left n
    ∙ ap Some (let m : min most n ≡ n = omega arith in m))

-- ---- a byte between
cut : (l : List ℕ) (m : ℕ) → min most (value_from (min most m) l) ≡ min most (value_from m l)
unfolding value_from
cut [] m = omega arith
cut (b ∷ l) m =
    sym (cut l (min most m * 10 + (b - 48)))
    ∙ ap (λ (k : ℕ). min most (value_from k l)) (same m (b - 48))
    ∙ cut l (m * 10 + (b - 48))
  where
    same : (m d : ℕ) → min most (min most m * 10 + d) ≡ min most (m * 10 + d)
    same m d = omega arith

tested : (n b : ℕ) (l : List ℕ) (t : Bool) → is_digit b ≡ t → size_from n (b ∷ l) ≡ cond (t && are_digits l) (Some (min most (value_from (n * 10 + (b - 48)) l))) None
unfolding size_from are_digits value_from
tested n b l t e = ap (λ (z : Bool). cond (z && are_digits l) (Some (min most (value_from (n * 10 + (b - 48)) l))) None) e

cut-before : (m : ℕ) (l : List ℕ) → cond (are_digits l) (Some (min most (value_from m l))) None ≡ size_from (min most m) l
unfolding size_from
cut-before m l = sym (ap (λ (k : ℕ). cond (are_digits l) (Some k) None) (cut l m))

module _ (word : List ℕ) (n i : ℕ) (h : i < length word) where
  abbrev byte : ℕ
  byte = get_or word i 0

  pub no_digit : is_digit byte ≡ false → size_from n (drop i word) ≡ None
  no_digit e = ap (size_from n) (drop-cons word i 0 h) ∙ tested n byte (drop (suc i) word) false e

  pub one_digit : is_digit byte ≡ true → size_from n (drop i word) ≡ size_from (min most (n * 10 + (byte - 48))) (drop (i + 1) word)
  one_digit e =
      ap (size_from n) (drop-cons word i 0 h)
      ∙ tested n byte (drop (suc i) word) true e
      ∙ cut-before (n * 10 + (byte - 48)) (drop (suc i) word)
      ∙ ap (λ (k : ℕ). size_from (min most (n * 10 + (byte - 48))) (drop k word)) (sym (add-one i))

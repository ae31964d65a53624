-- A number digit by digit, cut on the way, at a place of a file.
use mathlib.Core.Path.{◌≡◌, refl, sym, ap, ◌∙◌}
use mathlib.Core.Bool.{Bool, true, false, ◌&&◌, cond}
use mathlib.Core.List.{List, [], ◌∷◌}
use Prim.Native.Nat.{ℕ, ◌+◌, ◌-◌, ◌*◌, ◌≤◌, ◌<◌}
use native.Mathlib.Omega.{arith}
use lib.ListN.{length, get_or, drop, length-drop, drop_of_length-le}
use Rattle.std.specs.Prelude.{Some, None}
use Rattle.graymap.specs.Grammar.{is_space, is_digit, digits, missing, number}
use Rattle.graymap.specs.Steps.{cut, number_found, ended_of, found_of}
use Rattle.graymap.proofs.CutLaws.{cut_cut, cut_digit}
use Rattle.graymap.proofs.GapLaws.{at_place}

pub one_more : (v : ℕ) (some : Bool) (b : ℕ) (l : List ℕ) → is_digit b ≡ true → digits v some (b ∷ l) ≡ digits (10 * v + (b - 48)) true l
unfolding digits
one_more v some b l e = ap (λ (d : Bool). cond d (digits (10 * v + (b - 48)) true l) (cond (some && is_space b) (number v l) missing)) e

pub no_more : (v : ℕ) (some : Bool) (b : ℕ) (l : List ℕ) → is_digit b ≡ false → digits v some (b ∷ l) ≡ cond (some && is_space b) (number v l) missing
unfolding digits
no_more v some b l e = ap (λ (d : Bool). cond d (digits (10 * v + (b - 48)) true l) (cond (some && is_space b) (number v l) missing)) e

-- cutting the digits read so far does not change the cut number
cut-free : (count v : ℕ) (some : Bool) (l : List ℕ) → found_of count (digits (cut v) some l) ≡ found_of count (digits v some l)
unfolding digits
cut-free count v some [] = refl
cut-free count v some (b ∷ l) =
    by (is_digit b) (some && is_space b)
    (sym (cut-free count (10 * cut v + (b - 48)) true l)
    ∙ ap (λ (k : ℕ). found_of count (digits k true l)) (cut_digit v (b - 48))
    ∙ cut-free count (10 * v + (b - 48)) true l)
  where
    by : (d s : Bool)
        → found_of count (digits (10 * cut v + (b - 48)) true l) ≡ found_of count (digits (10 * v + (b - 48)) true l)
        → found_of count (cond d (digits (10 * cut v + (b - 48)) true l) (cond s (number (cut v) l) missing))
        ≡ found_of count (cond d (digits (10 * v + (b - 48)) true l) (cond s (number v l) missing))
    by true s e = e
    by false true e = ap (λ (k : ℕ). Some (number_found k (count - length l))) (cut_cut v)
    by false false e = refl

module _ (file : List ℕ) (from i value : ℕ) (some : Bool)
    (same : found_of (length file) (digits value some (drop i file)) ≡ found_of (length file) (digits 0 false (drop from file))) where
  pub digit_on : i < length file → is_digit (get_or file i 0) ≡ true
      → found_of (length file) (digits (cut (10 * value + (get_or file i 0 - 48))) true (drop (i + 1) file)) ≡ found_of (length file) (digits 0 false (drop from file))
  digit_on h e =
      cut-free (length file) (10 * value + (get_or file i 0 - 48)) true (drop (i + 1) file)
      ∙ ap (found_of (length file)) (sym (one_more value some (get_or file i 0) (drop (i + 1) file) e) ∙ ap (digits value some) (sym (at_place file i h)))
      ∙ same

  pub digit_ended : cut value ≡ value → i < length file → is_digit (get_or file i 0) ≡ false
      → ended_of value some (get_or file i 0) (i + 1) ≡ found_of (length file) (digits 0 false (drop from file))
  digit_ended c h e =
      by (some && is_space (get_or file i 0))
      ∙ ap (found_of (length file)) (sym (no_more value some (get_or file i 0) (drop (i + 1) file) e) ∙ ap (digits value some) (sym (at_place file i h)))
      ∙ same
    where
      place : i + 1 ≡ length file - length (drop (i + 1) file)
      place = let n = length-drop (i + 1) file in omega arith

      by : (s : Bool) → cond s (Some (number_found value (i + 1))) None ≡ found_of (length file) (cond s (number value (drop (i + 1) file)) missing)
      by true = ap (λ (k : ℕ). Some (number_found k (i + 1))) (sym c) ∙ ap (λ (k : ℕ). Some (number_found (cut value) k)) place
      by false = refl

  pub digit_out : length file ≤ i → None ≡ found_of (length file) (digits 0 false (drop from file))
  unfolding digits
  digit_out h = ap (λ (l : List ℕ). found_of (length file) (digits value some l)) (sym (drop_of_length-le file h)) ∙ same

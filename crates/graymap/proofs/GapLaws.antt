-- A gap byte by byte, at a place of a file.
use mathlib.Core.Path.{◌≡◌, refl, sym, ap, ◌∙◌}
use mathlib.Core.Bool.{Bool, true, false, not, ◌||◌, cond, false≢true}
use mathlib.Core.List.{List, ◌∷◌}
use Prim.Native.Nat.{ℕ, ◌+◌, ◌≤◌, ◌<◌}
use native.Mathlib.Numerals.{add-one}
use lib.Dec.{eqb}
use lib.ListN.{length, get_or, drop, drop_of_length-le}
use lib.Seq.{drop-cons}
use Rattle.graymap.specs.Grammar.{is_space, ends_line, gap}
use Rattle.graymap.specs.Steps.{ends_gap, hides}

-- what is left of a file at a place within it
pub at_place : (file : List ℕ) (i : ℕ) → i < length file → drop i file ≡ get_or file i 0 ∷ drop (i + 1) file
at_place file i h = drop-cons file i 0 h ∙ ap (λ (k : ℕ). get_or file i 0 ∷ drop k file) (sym (add-one i))

pub ended : (hidden : Bool) (b : ℕ) (l : List ℕ) → ends_gap hidden b ≡ true → gap hidden (b ∷ l) ≡ b ∷ l
unfolding gap
ended true b l e = absurd (false≢true e)
ended false b l e = by (is_space b) (eqb b 35) e
  where
    by : (s h : Bool) → not (s || h) ≡ true → cond s (gap false l) (cond h (gap true l) (b ∷ l)) ≡ b ∷ l
    by true h e = absurd (false≢true e)
    by false true e = absurd (false≢true e)
    by false false e = refl

goes_on : (hidden : Bool) (b : ℕ) (l : List ℕ) → ends_gap hidden b ≡ false → gap hidden (b ∷ l) ≡ gap (hides hidden b) l
unfolding gap
goes_on true b l e = by (ends_line b)
  where
    by : (s : Bool) → gap (cond s false true) l ≡ gap (not s) l
    by true = refl
    by false = refl
goes_on false b l e = by (is_space b) (eqb b 35) e
  where
    by : (s h : Bool) → not (s || h) ≡ false → cond s (gap false l) (cond h (gap true l) (b ∷ l)) ≡ gap (not s) l
    by true h e = refl
    by false true e = refl
    by false false e = absurd (false≢true (sym e))

module _ (file : List ℕ) (from i : ℕ) (hidden : Bool) (same : gap hidden (drop i file) ≡ gap false (drop from file)) where
  pub gap_ended : i < length file → ends_gap hidden (get_or file i 0) ≡ true → gap false (drop from file) ≡ drop i file
  gap_ended h e =
      sym same ∙ ap (gap hidden) (at_place file i h) ∙ ended hidden (get_or file i 0) (drop (i + 1) file) e ∙ sym (at_place file i h)

  pub gap_on : i < length file → ends_gap hidden (get_or file i 0) ≡ false → gap (hides hidden (get_or file i 0)) (drop (i + 1) file) ≡ gap false (drop from file)
  gap_on h e = sym (goes_on hidden (get_or file i 0) (drop (i + 1) file) e) ∙ ap (gap hidden) (sym (at_place file i h)) ∙ same

  pub gap_out : length file ≤ i → gap false (drop from file) ≡ drop i file
  unfolding gap
  gap_out h = sym same ∙ ap (gap hidden) (drop_of_length-le file h) ∙ sym (drop_of_length-le file h)

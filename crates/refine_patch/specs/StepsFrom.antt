-- The fit on a patch that is given by the place of its first sample in the image's list: what `coefficient` (refine_fits) is of the patch about a pixel. Four of them stand
-- in a flat list of two blocks, coefficient by coefficient, the four patches side by side.
use Rattle.std.specs.Prelude.{◌≡◌, Bool, true, ◌&&◌, cond, List, ℕ, ◌+◌, ◌-◌, ◌*◌, ◌/◌, ◌%◌, ◌≤◌, ◌<◌, leb, ltb, pos, get_or, Float}
use Rattle.std.specs.Float.{binary32}
use Rattle.std.specs.Float.Ieee.{of_int}
use Rattle.shapes.specs.Lists.{tabulated}
use Rattle.shapes.specs.Numbers.{plus_zero, entry}
use Rattle.shapes.specs.Turns.{turns}
use Rattle.refine_operator.specs.Basis.{side, samples}
use Rattle.refine_formulas.specs.Numbers.{◌⊕◌, ◌⊖◌, ◌⊗◌}

-- the sample k of the patch whose first sample stands at `first`
unfoldable pub sample_from : List ℕ → ℕ → ℕ → ℕ → ℕ → Float
sample_from samples pitch radius first k = of_int binary32 (pos (get_or samples (first + k / side radius * pitch + k % side radius) 0))

unfoldable pub coefficient_from : List ℕ → ℕ → List Float → ℕ → ℕ → ℕ → Float
unfolding turns sample_from
coefficient_from list pitch columns radius first i =
    turns (samples radius) (λ k a. a ⊕ entry columns (5 * k + i) ⊗ (sample_from list pitch radius first k ⊖ sample_from list pitch radius first (samples radius / 2))) plus_zero

-- coefficient c of patch l stands at to + 4 · c + l; what lies elsewhere is as it was
unfoldable pub four_written : (ℕ → ℕ → Float) → ℕ → List Float → List Float
unfolding tabulated
four_written f to old = tabulated 40 (λ i. cond (leb to i && ltb i (to + 20)) (f ((i - to) / 4) ((i - to) % 4)) (entry old i))

-- columns that have each number once more, four times side by side from 624 on, where `fourfold` says so: the four patches are each multiplied by one of them
pub record Repeats (fourfold : Bool) (radius : ℕ) (columns : List Float) : Type 0 where
  pub few : fourfold ≡ true → radius ≤ 2
  pub each : fourfold ≡ true → (i l : ℕ) → i < 125 → l < 4 → entry columns (624 + 4 * i + l) ≡ entry columns i

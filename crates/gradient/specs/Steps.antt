-- What the steps of the call promise each other.
use Rattle.std.specs.Prelude.{◌≡◌, cond, Option, Some, None, List, ℕ, ◌+◌, ◌*◌, ◌<◌, ℤ, ◌-ℤ◌, get_or, Float}
use Rattle.std.specs.Float.{binary32}
use Rattle.std.specs.Float.Ieee.{of_int, mul}
use Rattle.shapes.specs.Turns.{turns}
use Rattle.response.specs.Region.{moved}
use Rattle.gradient.specs.declared.Scale.{Scale}
use Rattle.gradient.specs.Stencil.{stays_on}
use Rattle.gradient.specs.Coefficients.{mean_sign, coefficient}
use Rattle.gradient.specs.Call.{added_at, three_and_a_fifth, is_none}

-- ---- the cells
-- a coordinate moved by a component, where that stays on the tile
abbrev pub moved_by : ℕ → ℤ → ℕ → Option ℕ
moved_by at by side = cond (stays_on side at by) (Some (moved at by)) None

-- each cell is one of n
abbrev pub Within : List ℕ → ℕ → Type 0
Within cells n = (k : ℕ) → k < 21 → get_or cells k 0 < n

-- both numbers of each cell stand in the grid
abbrev pub Grid : List ℕ → ℕ → Type 0
Grid cells n = (k : ℕ) → k < 21 → 2 * get_or cells k 0 + 1 < n

abbrev pub Sampled : List ℕ → List ℕ → List ℕ → Type 0
Sampled tile cells samples = (k : ℕ) → k < 21 → get_or samples k 0 ≡ get_or tile (get_or cells k 0) 0

-- ---- the additions, over the samples of the places and their cells
unfoldable pub ring_step : (ℕ → ℕ) → ℤ → (ℕ → ℕ) → Scale → ℕ → List Float → List Float
unfolding added_at coefficient
ring_step s mean cell scale k = added_at scale (of_int binary32 (coefficient s k -ℤ mean)) (cell k)

unfoldable pub cross_step : ℤ → (ℕ → ℕ) → Scale → ℕ → List Float → List Float
unfolding added_at
cross_step mean cell scale k = added_at scale (mul binary32 three_and_a_fifth (of_int binary32 mean)) (cell (16 + k))

unfoldable pub all_by : (ℕ → ℕ) → ℤ → (ℕ → ℕ) → Scale → List Float → List Float
unfolding turns ring_step cross_step
all_by s mean cell scale grid =
    cond (is_none mean) (turns 16 (ring_step s mean cell scale) grid) (turns 5 (cross_step mean cell scale) (turns 16 (ring_step s mean cell scale) grid))

-- by the samples that the cells have in the tile
abbrev pub sample_at : List ℕ → (ℕ → ℕ) → ℕ → ℕ
sample_at tile cell k = get_or tile (cell k) 0

abbrev pub all_added : List ℕ → (ℕ → ℕ) → Scale → List Float → List Float
all_added tile cell scale grid = all_by (sample_at tile cell) (mean_sign (sample_at tile cell) (λ k. sample_at tile cell (16 + k))) cell scale grid

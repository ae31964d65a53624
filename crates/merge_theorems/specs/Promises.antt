-- For whoever relies on the public call: what is promised of a call that merged, on the grid (`GriddedPromised`) or by the plain scan (`ScannedPromised`).
-- The corners that were lent are `corners_of list`, and `kept` are those that the call leaves at the front of the list. The words are those of merge's
-- specs/Claims.antt: corners are named by their numbers from 0, and `place_at` is the number of the place that a corner went to.
use Rattle.std.specs.Prelude.{◌≡◌, Bool, true, List, ℕ, ◌<◌, length, Float, Ok}
use Rattle.std.specs.Float.{binary32}
use Rattle.std.specs.Float.Ieee.{mul}
use Rattle.corners.specs.declared.Corner.{Corner}
use Rattle.corners.specs.Corners.{corners_of, corner_at}
use Rattle.merge.specs.Meets.{Grid, near, neighbours, grid_of, plain_meets, grid_meets}
use Rattle.merge.specs.Fold.{merged}
use Rattle.merge.specs.Call.{Way, scanned, gridded, way_of, answer_of, packed, list_after}
use Rattle.merge.specs.Claims.{Separated, Local, Source, Ordered, Guarded}

-- the rules by which the corners of a call meet
abbrev pub grid_rule : List Float → Float → Corner → Corner → Bool
grid_rule list radius = grid_meets (grid_of radius (corners_of list)) (mul binary32 radius radius)

abbrev pub scan_rule : Float → Corner → Corner → Bool
scan_rule radius = plain_meets (mul binary32 radius radius)

-- corners that are near lie in cells that touch
abbrev pub Touching : Grid → Float → List Corner → Type 0
Touching g r2 l = (i j : ℕ) → i < length l → j < length l → near r2 (corner_at l i) (corner_at l j) ≡ true → neighbours g (corner_at l i) (corner_at l j) ≡ true

-- ---- the promises
pub record Promised (list : List Float) (way : Way) (meets : Corner → Corner → Bool) (kept : List Corner) : Type 0 where
  -- the call answers how many are kept, and leaves them at the front of the list, with zeros behind
  pub answers : answer_of list way ≡ Ok (length kept)
  pub leaves : list_after list way ≡ packed list kept
  -- the kept corners are the fold of specs/Fold.antt
  pub folded : kept ≡ merged meets (corners_of list)
  -- where no corner meets an earlier one, all are kept as they are
  pub stay : Separated meets (corners_of list) → kept ≡ corners_of list
  -- corners in one place are joined by a chain of lent corners, each meeting the next
  pub local : Local meets (corners_of list)
  -- every kept corner was lent, coordinates and strength together
  pub uninvented : (p : ℕ) → p < length kept → Source meets (corners_of list) kept p
  -- places are in the order of their first corners
  pub ordered : Ordered meets (corners_of list)
  -- every lent corner has a kept one in its place that is not weaker
  pub guarded : (i : ℕ) → i < length (corners_of list) → Guarded meets (corners_of list) kept i

-- ---- of a call that merged on the grid, and of one that merged by the plain scan
abbrev pub GriddedPromised : List Float → Float → ℕ → ℕ → List Corner → Type 0
GriddedPromised list radius heads links kept =
    way_of list radius heads links ≡ gridded kept → Promised list (way_of list radius heads links) (grid_rule list radius) kept

abbrev pub ScannedPromised : List Float → Float → ℕ → ℕ → List Corner → Type 0
ScannedPromised list radius heads links kept =
    way_of list radius heads links ≡ scanned kept → Promised list (way_of list radius heads links) (scan_rule radius) kept

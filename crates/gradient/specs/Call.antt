-- The public call: the tests of docs/RULES.md in their order, the answer, and what it leaves in the lent grid, two numbers a cell. No refusal writes.
use Rattle.std.specs.Prelude.{◌≡◌, Bool, true, false, not, cond, List, ℕ, zero, suc, ◌+◌, ◌*◌, eqb, ℤ, pos, negsuc, ◌-ℤ◌, length, set, Result, Ok, Err, Float}
use Rattle.std.specs.Float.{fin, binary32}
use Rattle.std.specs.Float.Ieee.{of_int, add, mul}
use Rattle.shapes.specs.Turns.{turns}
use Rattle.shapes.specs.Numbers.{entry}
use Rattle.refusals.specs.declared.Refusal.{Refusal}
use Rattle.refusals.specs.declared.Refusal.TheVariants.{BadImage, BadRing, BadOut}
use Rattle.refusals.specs.Numbers as Refusals
use Rattle.gradient.specs.declared.Scale.{Scale}
use Rattle.gradient.specs.Stencil.{stencil_stays, cell_of, ring_of, cross_of}
use Rattle.gradient.specs.Coefficients.{mean_sign, coefficient}

-- the number of each case; 0 is done
abbrev pub number_of : Result Unit Refusal → ℕ
number_of (Ok _) = 0
number_of (Err r) = Refusals.number_of r

-- what is asked: a tile, a ring, a place on it, and the two scales
pub record Asked : Type 0 where
  pub tile : List ℕ
  pub side : ℕ
  pub ring : List ℤ
  pub x : ℕ
  pub y : ℕ
  pub scale : Scale

abbrev pub asked_of : List ℕ → ℕ → List ℤ → ℕ → ℕ → Scale → Asked
asked_of tile side ring x y scale = record { tile = tile; side = side; ring = ring; x = x; y = y; scale = scale }

-- ---- the grid
-- scale times c added to both numbers of a cell: a rounding for the product, one for the sum
unfoldable pub added_at : Scale → Float → ℕ → List Float → List Float
added_at scale c cell grid =
    set (set grid (2 * cell) (add binary32 (entry grid (2 * cell)) (mul binary32 scale.x c))) (2 * cell + 1)
    (add binary32 (entry grid (2 * cell + 1)) (mul binary32 scale.y c))

abbrev pub cell_at : Asked → ℕ → ℕ
cell_at a k = cell_of a.side a.ring a.x a.y k

abbrev pub ring_at : Asked → ℕ → ℕ
ring_at a k = ring_of a.tile a.side a.ring a.x a.y k

abbrev pub cross_at : Asked → ℕ → ℕ
cross_at a k = cross_of a.tile a.side a.ring a.x a.y k

-- 3.2 in binary32
abbrev pub three_and_a_fifth : Float
three_and_a_fifth = fin false 13421773 (negsuc 21)

-- at ring place k its coefficient less the sign of the means
unfoldable pub ring_turn : Asked → ℕ → List Float → List Float
unfolding added_at
ring_turn a k = added_at a.scale (of_int binary32 (coefficient (ring_at a) k -ℤ mean_sign (ring_at a) (cross_at a))) (cell_at a k)

-- at each cross place 3.2 times that sign
unfoldable pub cross_turn : Asked → ℕ → List Float → List Float
unfolding added_at
cross_turn a k = added_at a.scale (mul binary32 three_and_a_fifth (of_int binary32 (mean_sign (ring_at a) (cross_at a)))) (cell_at a (16 + k))

abbrev pub is_none : ℤ → Bool
is_none (pos zero) = true
is_none (pos (suc n)) = false
is_none (negsuc n) = false

-- the ring's places in their order, and where the means are not equal the cross's
unfoldable pub grid_after : Asked → List Float → List Float
unfolding turns ring_turn cross_turn
grid_after a grid =
    cond (is_none (mean_sign (ring_at a) (cross_at a))) (turns 16 (ring_turn a) grid) (turns 5 (cross_turn a) (turns 16 (ring_turn a) grid))

-- ---- the call
-- the three tests in their order
unfoldable pub way_of : Asked → ℕ → Result Unit Refusal
unfolding stencil_stays
way_of a room =
    cond (not (eqb (length a.tile) (a.side * a.side))) (Err BadImage)
    (cond (not (stencil_stays a.side a.ring a.x a.y)) (Err BadRing)
    (cond (not (eqb room (2 * length a.tile))) (Err BadOut)
    (Ok tt)))

abbrev pub grid_left : Asked → List Float → Result Unit Refusal → List Float
grid_left a grid (Err r) = grid
grid_left a grid (Ok _) = grid_after a grid

pub record Done (a : Asked) (grid : List Float) (answer : Result Unit Refusal) (grid' : List Float) : Type 0 where
  pub answers : answer ≡ way_of a (length grid)
  pub leaves : grid' ≡ grid_left a grid (way_of a (length grid))

-- Which corners meet. `near` is the test of both routines: the squared distance is at most r².
-- The plain scan asks nothing else. The grid asks besides that the two lie in cells that touch: cells are squares with the radius for a side,
-- laid from the least x and y on, and a corner beyond the last cell counts to the last.
use Rattle.std.specs.Prelude.{Bool, true, false, ◌&&◌, List, [], ◌∷◌, ℕ, ◌+◌, ◌-◌, min, leb, Float}
use Rattle.std.specs.Float.{inf, binary32}
use Rattle.std.specs.Float.Ieee.{sub, mul, div, le, to_unsigned}
use Rattle.std.specs.Float.Ieee.Scale.{finite}
use Rattle.floats.specs.Whole.{floor}
use Rattle.shapes.specs.Numbers.{one, lesser, greater}
use Rattle.corners.specs.declared.Corner.{Corner}
use Rattle.corners.specs.Corners.{squared_distance}

-- a corner that comes, and one that is kept
unfoldable pub near : Float → Corner → Corner → Bool
unfolding squared_distance
near r2 c k = le (squared_distance c.x c.y k.x k.y) r2

-- ---- the box: the least and the greatest x and y. A NaN is neither less nor greater, so it does not stretch the box
pub record Box : Type 0 where
  pub min_x : Float
  pub min_y : Float
  pub max_x : Float
  pub max_y : Float

abbrev pub no_box : Box
no_box = record { min_x = inf false; min_y = inf false; max_x = inf true; max_y = inf true }

abbrev pub stretched : Corner → Box → Box
stretched c b = record { min_x = lesser c.x b.min_x; min_y = lesser c.y b.min_y; max_x = greater c.x b.max_x; max_y = greater c.y b.max_y }

unfoldable pub box_from : List Corner → Box → Box
box_from [] b = b
box_from (c ∷ l) b = box_from l (stretched c b)

unfoldable pub box_of : List Corner → Box
unfolding box_from
box_of l = box_from l no_box

abbrev pub finite_box : Box → Bool
finite_box b = finite b.min_x && finite b.min_y && finite b.max_x && finite b.max_y

-- ---- the cells: how many there are along an axis, and the one that a coordinate lies in
abbrev pub inverse : Float → Float
inverse radius = div binary32 one radius

unfoldable pub along : Float → Float → Float → ℕ
unfolding floor
along inv low high = to_unsigned 64 (floor binary32 (mul binary32 (sub binary32 high low) inv)) + 1

unfoldable pub cell_along : Float → Float → Float → Float → ℕ
unfolding along
cell_along inv low high v = min (to_unsigned 64 (mul binary32 (sub binary32 v low) inv)) (along inv low high - 1)

pub record Grid : Type 0 where
  pub box : Box
  pub inv : Float

abbrev pub grid_of : Float → List Corner → Grid
grid_of radius l = record { box = box_of l; inv = inverse radius }

abbrev pub cells_across : Grid → ℕ
cells_across g = along g.inv g.box.min_x g.box.max_x

abbrev pub cells_down : Grid → ℕ
cells_down g = along g.inv g.box.min_y g.box.max_y

abbrev pub column : Grid → Corner → ℕ
column g c = cell_along g.inv g.box.min_x g.box.max_x c.x

abbrev pub row : Grid → Corner → ℕ
row g c = cell_along g.inv g.box.min_y g.box.max_y c.y

-- two numbers that differ by at most one
abbrev pub touch : ℕ → ℕ → Bool
touch a b = leb a (b + 1) && leb b (a + 1)

unfoldable pub neighbours : Grid → Corner → Corner → Bool
unfolding cell_along
neighbours g c k = touch (column g c) (column g k) && touch (row g c) (row g k)

-- ---- the two rules
abbrev pub plain_meets : Float → Corner → Corner → Bool
plain_meets r2 = near r2

abbrev pub grid_meets : Grid → Float → Corner → Corner → Bool
grid_meets g r2 c k = neighbours g c k && near r2 c k

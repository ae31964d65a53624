-- The image cut into eight by eight tiles, counted by row from 0, and the tile of a corner; 64 is for a corner that lies in none: outside the image, or not finite.
use Rattle.std.specs.Prelude.{Bool, ◌&&◌, cond, List, ℕ, ◌+◌, ◌*◌, ◌/◌, pos, Float}
use Rattle.std.specs.Float.{binary32}
use Rattle.std.specs.Float.Ieee.{of_int, to_unsigned, lt, le}
use Rattle.floats.specs.Whole.{floor}
use Rattle.shapes.specs.Numbers.{plus_zero, entry}

-- a coordinate whose floor is a pixel's along an axis of n: -0.0 is one, -0.5 is none, n - 0.5 is one
abbrev pub on_axis : ℕ → Float → Bool
on_axis n v = le plus_zero (floor binary32 v) && lt (floor binary32 v) (of_int binary32 (pos n))

-- which eighth of the axis that pixel lies in
abbrev pub eighth : ℕ → Float → ℕ
eighth n v = to_unsigned 64 (floor binary32 v) * 8 / n

unfoldable pub tile_of : ℕ → ℕ → Float → Float → ℕ
unfolding floor
tile_of width height x y = cond (on_axis width x && on_axis height y) (8 * eighth height y + eighth width x) 64

-- the tile of corner i of a flat list
abbrev pub tile_at : ℕ → ℕ → List Float → ℕ → ℕ
tile_at width height list i = tile_of width height (entry list (3 * i)) (entry list (3 * i + 1))

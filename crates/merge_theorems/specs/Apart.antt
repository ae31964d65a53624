-- In exact numbers: two corners with finite coordinates whose exact squared distance is above radius² · (1 + 2 ^ -19) never meet, on the grid or in the plain
-- scan. The radius is at least 2 ^ -50, since smaller squares underflow, and its square in binary32 is finite: where it is infinite, every distance is within it.
use Rattle.std.specs.Prelude.{◌≡◌, true, false, List, ◌*◌, T, negsuc, Float}
use Rattle.std.specs.Float.{fin, binary32}
use Rattle.std.specs.Float.Ieee.{mul, le}
use Rattle.std.specs.Float.Ieee.Scale.{finite}
use Rattle.std.specs.Float.Ieee.Positive.{num, den}
use Rattle.corners.specs.declared.Corner.{Corner}
use Rattle.exact_distance.specs.Exact.{Number, Above}
use Rattle.merge_theorems.specs.Promises.{grid_rule, scan_rule}

abbrev pub FarNeverMeet : Type 0
FarNeverMeet =
    (list : List Float) (radius : Float) (c k : Corner)
    → Number c.x → Number c.y → Number k.x → Number k.y → Number radius
    → le (fin false 1 (negsuc 49)) radius ≡ true
    → T (finite (mul binary32 radius radius))
    → Above 19 c.x c.y k.x k.y (num radius * num radius) (den radius * den radius)
    → (grid_rule list radius c k ≡ false) × (scan_rule radius c k ≡ false)

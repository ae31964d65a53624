-- The corners that are left, merged into the kept ones, give what all of them give.
use mathlib.Core.Path.{◌≡◌}
use Prim.Native.Nat.{◌≤◌}
use lib.ListN.{length, take, drop}
use Rattle.corners.specs.Corners.{corners_of}
use Rattle.merge.specs.Meets.{plain_meets}
use Rattle.merge.specs.Fold.{merge_from, merged}
use Rattle.merge.proofs.scan.pass.Given as goal

abbrev pub invariant-loop-i : goal.invariant-loop-i
invariant-loop-i l = record {
  fewer : l.count ≤ l.i;
  same_length : length l.corners ≡ length l.initial.corners;
  so_far : merge_from (plain_meets l.r2) (take l.count (corners_of l.corners)) (drop l.i (corners_of l.corners)) ≡ merged (plain_meets l.r2) (corners_of l.initial.corners);
}

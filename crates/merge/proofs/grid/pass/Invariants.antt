-- The corners that are left, merged into the kept ones, give what all of them give, and the chains are those of the kept ones.
use mathlib.Core.Path.{◌≡◌}
use Prim.Native.Nat.{◌≤◌}
use lib.ListN.{length, take, drop}
use Rattle.corners.specs.Corners.{corners_of}
use Rattle.merge.specs.Fold.{merge_from, merged}
use Rattle.merge.specs.Steps.{Chained, StillLent, meets_in}
use Rattle.merge.proofs.grid.pass.Given as goal

abbrev pub invariant-loop-i : goal.invariant-loop-i
invariant-loop-i l = record {
  fewer : l.count ≤ l.i;
  same_length : length l.corners ≡ length l.initial.corners;
  lent : StillLent l.initial.chains l.chains;
  chained : Chained l.cells l.corners l.count l.chains.heads.now l.chains.links.now;
  so_far : merge_from (meets_in l.cells l.r2) (take l.count (corners_of l.corners)) (drop l.i (corners_of l.corners)) ≡ merged (meets_in l.cells l.r2) (corners_of l.initial.corners);
}

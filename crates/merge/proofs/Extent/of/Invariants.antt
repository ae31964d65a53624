-- The box so far, stretched by the corners that are left, is the box of all.
use mathlib.Core.Path.{◌≡◌}
use lib.ListN.{drop}
use Rattle.corners.specs.Corners.{corners_of}
use Rattle.merge.specs.Meets.{box_from, box_of}
use Rattle.merge.specs.Steps.{as_box}
use Rattle.merge.proofs.Extent.of.Given as goal

abbrev pub invariant-loop-i : goal.invariant-loop-i
invariant-loop-i l = box_from (drop l.i (corners_of l.corners)) (as_box l.extent) ≡ box_of (corners_of l.corners)

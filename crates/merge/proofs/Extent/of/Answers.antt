-- One corner more, and none left.
use mathlib.Core.Path.{refl, sym, ◌∙◌}
use lib.Ieee.{of_bits}
use native.Mathlib.Omega.{arith}
use Rattle.corners.specs.Corners.{corners_of}
use Rattle.corners.proofs.CornerLaws.{length-corners}
use Rattle.merge.specs.Meets.{box_from, box_of}
use Rattle.merge.specs.Steps.{as_box}
use Rattle.merge.proofs.BoxLaws.{box_turn, box_end}
use Rattle.merge.proofs.Extent.of.Goals as goal

pub loop-i-init : goal.loop-i-init
unfolding of_bits box_from box_of
loop-i-init c = refl

pub loop-i-preserved : goal.loop-i-preserved
loop-i-preserved c =
    let list = c.args.corners.now in
    box_turn (corners_of list) c.loop-i.i (as_box c.loop-i.extent) (as_box c.stretched-extent.result) (omega (arith, length-corners list)) (cc) ∙ c.loop-i.invariant

pub returns : goal.returns
returns c =
    let list = c.args.corners.now in
    sym (box_end (corners_of list) c.loop-i.i (as_box c.loop-i.extent) (omega (arith, length-corners list))) ∙ c.loop-i.invariant

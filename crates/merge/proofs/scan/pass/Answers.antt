-- One corner more, and none left.
use mathlib.Core.Path.{refl, ◌∙◌}
use native.Mathlib.Omega.{arith}
use Rattle.corners.proofs.CornerLaws.{length-corners}
use Rattle.corners.specs.Corners.{corners_of}
use Rattle.merge.specs.Meets.{plain_meets}
use Rattle.merge.proofs.StepLaws.{pass_start, pass_turn, pass_end}
use Rattle.merge.proofs.scan.pass.Goals as goal

pub loop-i-init : goal.loop-i-init
loop-i-init c = record { fewer = omega arith; same_length = refl; so_far = pass_start (plain_meets c.args.r2) (corners_of c.args.corners.now) }

pub loop-i-preserved : goal.loop-i-preserved
loop-i-preserved c =
    let i = c.loop-i.invariant in
    let step = c.step-count.ensures in
    record {
      fewer = step.no_more_than_read;
      same_length = c.step-count.auto.corners ∙ i.same_length;
      so_far = pass_turn (omega (arith, length-corners c.loop-i.corners)) step ∙ i.so_far;
    }

pub returns : goal.returns
returns c =
    let l = c.loop-i in
    record { kept = pass_end (plain_meets c.args.r2) l.i l.count (corners_of l.corners) (omega (arith, length-corners l.corners)) ∙ l.invariant.so_far; there = omega arith }

-- One corner more, and none left.
use mathlib.Core.Path.{refl, ◌∙◌}
use native.Mathlib.Omega.{arith}
use Rattle.corners.proofs.CornerLaws.{length-corners}
use Rattle.corners.specs.Corners.{corners_of}
use Rattle.merge.specs.Steps.{meets_in}
use Rattle.merge.proofs.StepLaws.{pass_start, pass_turn, pass_end}
use Rattle.merge.proofs.ChainLaws.{still_lent}
use Rattle.merge.proofs.grid.pass.Goals as goal

pub loop-i-init : goal.loop-i-init
loop-i-init c =
    let a = c.args in
    record { fewer = omega arith; same_length = refl; lent = record { same_heads = refl; same_links = refl; as_many_heads = refl; as_many_links = refl }; chained = c.requires.none_kept; so_far = pass_start (meets_in a.cells a.r2) (corners_of a.corners.now) }

pub loop-i-preserved : goal.loop-i-preserved
loop-i-preserved c =
    let i = c.loop-i.invariant in
    let step = c.step-count in
    record {
      fewer = step.ensures.stepped.no_more_than_read;
      same_length = step.auto.corners ∙ i.same_length;
      lent = still_lent step.ensures.lent i.lent;
      chained = step.ensures.chained;
      so_far = pass_turn (omega (arith, length-corners c.loop-i.corners)) step.ensures.stepped ∙ i.so_far;
    }

pub returns-clause-passed : goal.returns-clause-passed
returns-clause-passed c =
    let l = c.loop-i in
    let a = c.args in
    record { kept = pass_end (meets_in a.cells a.r2) l.i l.count (corners_of l.corners) (omega (arith, length-corners l.corners)) ∙ l.invariant.so_far; there = omega arith }

-- The first corner met, or none, decides.
use mathlib.Core.Path.{ap, ◌∙◌}
use native.Mathlib.Omega.{arith}
use lib.Ieee.{nan}
use Rattle.corners.specs.Corners.{corners_of}
use Rattle.corners.proofs.CornerLaws.{corners-recorded}
use Rattle.merge.specs.Meets.{near, plain_meets}
use Rattle.merge.specs.Steps.{within}
use Rattle.merge.proofs.StepLaws.{replaces, stays, adds}
use Rattle.merge.proofs.scan.step.Goals as goal

pub returns-then-corners-met : goal.returns-then-corners-met
unfolding near within
returns-then-corners-met c =
    let a = c.args in
    let new = c.corner-new.result in
    let met = c.first_near-met.result in
    replaces (plain_meets a.r2) a.corners.now a.i a.count met nan new c.corner-new.ensures c.requires.ordered c.requires.in_list c.first_near-met.ensures
    c.if-met-count.true c.if-corners-met.true (corners_of c.put.new.list) (ap corners_of c.put.ensures ∙ corners-recorded a.corners.now met new (omega arith))

pub returns-else-corners-met : goal.returns-else-corners-met
unfolding near within
returns-else-corners-met c =
    let a = c.args in
    stays (plain_meets a.r2) a.corners.now a.i a.count c.first_near-met.result nan c.corner-new.result c.corner-new.ensures c.requires.ordered c.requires.in_list c.first_near-met.ensures
    c.if-met-count.true c.if-corners-met.false

pub returns : goal.returns
unfolding near within
returns c =
    let a = c.args in
    let new = c.corner-new.result in
    adds (plain_meets a.r2) a.corners.now a.i a.count c.first_near-met.result nan new c.corner-new.ensures c.requires.ordered c.requires.in_list c.first_near-met.ensures
    c.if-met-count.false (corners_of c.put-2.new.list) (ap corners_of c.put-2.ensures ∙ corners-recorded a.corners.now a.count new (omega arith))

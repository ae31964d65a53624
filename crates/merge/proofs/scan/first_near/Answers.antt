-- The first that lies in the disc is the lowest.
use mathlib.Core.Path.{sym, ◌∙◌}
use Rattle.merge.specs.Steps.{within}
use Rattle.merge.proofs.LowestLaws.{first_found}
use Rattle.merge.proofs.scan.first_near.Goals as goal

pub returns-then-near : goal.returns-then-near
returns-then-near c =
    let a = c.args in
    first_found (within a.disc a.corners.now) a.count c.loop-j.j c.loop-j-test.true c.loop-j.invariant (sym c.near.ensures ∙ c.if-near.true)

-- `refine_operator::overlap::add_five` meets its contract. After s turns the first s products are added.
use Rattle.std.proofs.Common.{refl}
use Rattle.refine_operator.proofs.OverlapLaws.{five-more}
use Rattle.refine_operator.proofs.overlap.add_five.Goals as goal

pub loop-s-preserved : goal.loop-s-preserved
loop-s-preserved c =
    let l = c.loop-s in
    let a = c.args in
    five-more a.r l.s a.here.now a.there.now a.sums.now l.sums _ c.requires.0 c.loop-s-test.true l.invariant refl

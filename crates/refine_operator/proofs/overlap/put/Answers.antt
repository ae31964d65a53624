-- `refine_operator::overlap::put` meets its contract. After i turns the first i sums are written.
use Rattle.refine_operator.proofs.OverlapLaws.{put-more}
use Rattle.refine_operator.proofs.overlap.put.Goals as goal

pub loop-i-preserved : goal.loop-i-preserved
loop-i-preserved c =
    let l = c.loop-i in
    let a = c.args in
    let f = c.f64_to_f32 in
    put-more a.d l.i a.sums.now a.overlap.now l.overlap f.result c.loop-i-test.true l.invariant f.ensures

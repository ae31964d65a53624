-- `refine_operator::overlap::mirror` meets its contract. Up to i the overlaps are copied.
use Rattle.std.proofs.Common.{refl, arith}
use Rattle.refine_operator.proofs.MirrorLaws.{mirror-more, mirror-all}
use Rattle.refine_operator.proofs.overlap.mirror.Goals as goal

pub loop-i-preserved : goal.loop-i-preserved
loop-i-preserved c =
    let l = c.loop-i in
    mirror-more l.i c.args.overlap.now l.overlap _ c.requires (omega arith) c.loop-i-test.true l.invariant refl

pub returns : goal.returns
returns c = let l = c.loop-i in mirror-all l.i c.args.overlap.now l.overlap (omega arith) l.invariant

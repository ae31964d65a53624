-- `refine_operator::overlap::fill_overlap` meets its contract. After d turns the overlaps of d shifts are written; the others are copies.
use Rattle.std.proofs.Common.{arith}
use Rattle.refine_operator.proofs.OverlapLaws.{overlaps-all}
use Rattle.refine_operator.proofs.overlap.fill_overlap.Goals as goal

pub returns : goal.returns
returns c =
    let l = c.loop-d in
    let a = c.args in
    overlaps-all a.radius a.m.now a.overlap.now l.overlap c.mirror.new.overlap l.d c.requires.0 c.requires.1 (omega arith) l.invariant c.mirror.ensures

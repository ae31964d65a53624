-- `refine_operator::overlap::add_line` meets its contract. After x turns the sums have x samples of the row.
use Rattle.std.proofs.Common.{length, ap, ◌∙◌, arith}
use Rattle.refine_operator.proofs.OverlapLaws.{sums-length, sums-more}
use Rattle.refine_operator.proofs.overlap.add_line.Goals as goal

pub add_sample-requires : goal.add_sample-requires
add_sample-requires c = (c.requires.0, c.requires.1, omega arith, omega arith, ap length c.loop-x.invariant ∙ sums-length c.args.radius c.args.m.now c.args.d _)

pub loop-x-preserved : goal.loop-x-preserved
loop-x-preserved c =
    let l = c.loop-x in
    let a = c.args in
    sums-more a.radius a.m.now a.d l.x a.y c.loop-x-test.true l.sums c.add_sample.new.sums l.invariant c.add_sample.ensures

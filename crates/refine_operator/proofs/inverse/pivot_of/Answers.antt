-- `refine_operator::inverse::pivot_of` meets its contract. The rows that are left lead from the best so far to the pivot.
use Rattle.std.proofs.Common.{sym, ◌∙◌, arith}
use Rattle.refine_operator.proofs.InverseLaws.{pivot-none, pivot-more, pivot-all}
use Rattle.refine_operator.proofs.inverse.pivot_of.Goals as goal

pub loop-p-init : goal.loop-p-init
loop-p-init c = (omega arith, pivot-none c.args.m.now c.args.col)

pub loop-p-preserved : goal.loop-p-preserved
loop-p-preserved c =
    let l = c.loop-p in
    let a = c.args in
    (c.better_of-best.ensures.row, pivot-more a.m.now a.col l.best l.p c.better_of-best.result c.loop-p-test.true c.better_of-best.ensures.is ∙ l.invariant.1)

pub returns : goal.returns
returns c =
    let l = c.loop-p in
    let a = c.args in
    record {
      is = sym (pivot-all a.m.now a.col l.best l.p c.loop-p-test.false) ∙ l.invariant.1;
      row = l.invariant.0;
    }

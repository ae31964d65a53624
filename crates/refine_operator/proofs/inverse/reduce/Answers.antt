-- `refine_operator::inverse::reduce` meets its contract. The columns that are left lead from the matrix so far to the answer.
use Rattle.std.proofs.Common.{sym, ap, ◌∙◌}
use lib.Ieee.{Float, lt}
use Rattle.floats.specs.Magnitude.{magnitude}
use Rattle.refine_operator.specs.Inverse.{least_pivot}
use Rattle.refine_operator.proofs.InverseLaws.{reduce-stop, reduce-more, reduce-all}
use Rattle.refine_operator.proofs.inverse.reduce.Goals as goal

pub returns-then-is_below_least : goal.returns-then-is_below_least
returns-then-is_below_least c =
    let l = c.loop-col in
    sym l.invariant
    ∙ reduce-stop l.m l.col c.pivot_of-p.result c.loop-col-test.true c.pivot_of-p.ensures.is
    (ap (λ (x : Float). lt (magnitude x) least_pivot) (sym c.entry.ensures) ∙ sym c.is_below_least.ensures ∙ c.if-is_below_least.true)

pub loop-col-preserved : goal.loop-col-preserved
loop-col-preserved c =
    let l = c.loop-col in
    let p = c.pivot_of-p in
    reduce-more l.m l.col p.result c.loop-col-test.true p.ensures.is c.reduced_column.new.out
    (ap (λ (x : Float). lt (magnitude x) least_pivot) (sym c.entry.ensures) ∙ sym c.is_below_least.ensures ∙ c.if-is_below_least.false)
    c.reduced_column.ensures ∙ l.invariant

pub returns : goal.returns
returns c =
    let l = c.loop-col in
    sym l.invariant ∙ reduce-all l.m l.col c.loop-col-test.false

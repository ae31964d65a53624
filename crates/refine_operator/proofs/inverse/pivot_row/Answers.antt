-- `refine_operator::inverse::pivot_row` meets its contract. After j turns the first j entries of the row are written.
use Rattle.std.proofs.Common.{◌*◌}
use lib.Ieee.{of_bits}
use Rattle.refine_operator.specs.Steps.{reduced_at}
use Rattle.refine_operator.proofs.InverseLaws.{pivot-entry}
use Rattle.refine_operator.proofs.WrittenLaws.{continued-next}
use Rattle.refine_operator.proofs.inverse.pivot_row.Goals as goal

pub loop-j-preserved : goal.loop-j-preserved
unfolding of_bits
loop-j-preserved c =
    let l = c.loop-j in
    let a = c.args in
    continued-next (12 * a.col) l.j (reduced_at a.col a.pivot a.m.now) a.out.now l.out _ l.invariant (pivot-entry a.col a.pivot a.m.now c.requires.0 c.requires.1 l.j c.loop-j-test.true)

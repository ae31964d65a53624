-- `refine_operator::inverse::cleared_row` meets its contract. After j turns the first j entries of the row are written.
use Rattle.std.proofs.Common.{◌*◌}
use lib.Ieee.{of_bits}
use Rattle.refine_operator.specs.Steps.{reduced_at}
use Rattle.refine_operator.proofs.InverseLaws.{other-entry}
use Rattle.refine_operator.proofs.WrittenLaws.{continued-next}
use Rattle.refine_operator.proofs.inverse.cleared_row.Goals as goal

pub loop-j-preserved : goal.loop-j-preserved
unfolding of_bits
loop-j-preserved c =
    let l = c.loop-j in
    let a = c.args in
    continued-next (12 * a.row) l.j (reduced_at a.col a.pivot a.m.now) a.out.now l.out _ l.invariant (other-entry a.col a.pivot a.m.now c.requires.rows_in_bounds.0 c.requires.rows_in_bounds.1 a.row a.from l.j c.requires.rows_in_bounds.3 c.loop-j-test.true c.requires.exchanged.0 c.requires.exchanged.1)

-- `refine_operator::rows::five_of` meets its contract: the sums of the five rows.
use Rattle.refine_operator.proofs.RowLaws.{fives}
use Rattle.refine_operator.proofs.rows.five_of.Goals as goal

pub returns : goal.returns
returns c =
    let a = c.args in
    fives a.radius a.m.now a.x a.y _ _ _ _ _ _ c.phi_of-p.ensures c.row_sum.ensures c.row_sum-2.ensures c.row_sum-3.ensures c.row_sum-4.ensures c.row_sum-5.ensures

-- `refine_operator::inverse::inverse_of` meets its contract: the normal matrix, reduced.
use Rattle.refine_operator.proofs.CallLaws.{inverse-is}
use Rattle.refine_operator.proofs.inverse.inverse_of.Goals as goal

pub returns : goal.returns
returns c =
    let m = c.normal_matrix in
    inverse-is c.args.radius m.result _ c.reduce.result m.ensures c.reduce.ensures

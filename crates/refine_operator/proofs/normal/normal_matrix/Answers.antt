-- `refine_operator::normal::normal_matrix` meets its contract: the sums, and the identity beside them.
use lib.Ieee.{of_bits}
use Rattle.refine_operator.proofs.NormalLaws.{matrix-is}
use Rattle.refine_operator.proofs.normal.normal_matrix.Goals as goal

pub returns : goal.returns
unfolding of_bits
returns c = matrix-is c.args.radius c.sums_of-s.result c.sums_of-s.ensures

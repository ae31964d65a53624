-- `refine_operator::rows::row_sum` meets its contract: the sum as it is written.
use Rattle.std.proofs.Common.{refl}
use lib.Ieee.{of_bits, neg}
use Rattle.refine_operator.proofs.rows.row_sum.Goals as goal

pub returns : goal.returns
unfolding of_bits neg
returns c = refl

-- `refine_operator::inverse::is_below_least` meets its contract.
use Rattle.std.proofs.Common.{ap}
use lib.Ieee.{Float, lt}
use Rattle.refine_operator.specs.Inverse.{least_pivot}
use Rattle.refine_operator.proofs.inverse.is_below_least.Goals as goal

pub returns : goal.returns
returns c = ap (λ (x : Float). lt x least_pivot) c.magnitude_f64.ensures

-- `refine_formulas::noise::pair_weights` meets its contract: the nine sums written out.
use mathlib.Core.Path.{refl}
use lib.Ieee.{of_bits}
use Rattle.shapes.specs.Lists.{tabulated}
use Rattle.shapes.specs.Turns.{turns}
use Rattle.refine_formulas.specs.Covariance.{pair_weight}
use Rattle.refine_formulas.proofs.noise.pair_weights.Goals as goal

pub returns : goal.returns
unfolding tabulated turns pair_weight of_bits
returns c = refl

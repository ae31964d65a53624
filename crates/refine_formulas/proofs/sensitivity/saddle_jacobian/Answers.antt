-- `refine_formulas::sensitivity::saddle_jacobian` meets its contract: the two rows of five written out.
use mathlib.Core.Path.{refl}
use lib.Ieee.{of_bits, neg}
use Rattle.shapes.specs.Lists.{tabulated}
use Rattle.refine_formulas.specs.Sensitivity.{saddle_jacobian}
use Rattle.refine_formulas.proofs.sensitivity.saddle_jacobian.Goals as goal

pub returns : goal.returns
unfolding saddle_jacobian tabulated of_bits neg
returns c = refl

-- `refine_formulas::sensitivity::difference` meets its contract: the five entries written out.
use mathlib.Core.Path.{refl}
use lib.Ieee.{of_bits}
use Rattle.shapes.specs.Lists.{tabulated}
use Rattle.refine_formulas.proofs.sensitivity.difference.Goals as goal

pub returns : goal.returns
unfolding tabulated of_bits
returns c = refl

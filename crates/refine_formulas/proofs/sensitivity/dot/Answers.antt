-- `refine_formulas::sensitivity::dot` meets its contract: the five turns written out.
use mathlib.Core.Path.{refl}
use lib.Ieee.{of_bits, neg}
use Rattle.shapes.specs.Turns.{turns}
use Rattle.refine_formulas.specs.Sensitivity.{dot}
use Rattle.refine_formulas.proofs.sensitivity.dot.Goals as goal

pub returns : goal.returns
unfolding dot turns of_bits neg
returns c = refl

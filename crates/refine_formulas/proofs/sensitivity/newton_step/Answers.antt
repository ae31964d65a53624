-- `refine_formulas::sensitivity::newton_step` meets its contract, by its test.
use lib.Ieee.{of_bits}
use Rattle.refine_formulas.specs.Sensitivity.{newton_step}
use Rattle.refine_formulas.proofs.Choice.{where-true, where-false}
use Rattle.refine_formulas.proofs.sensitivity.newton_step.Goals as goal

pub returns-then-det-g00 : goal.returns-then-det-g00
unfolding newton_step of_bits
returns-then-det-g00 c = where-true _ _ _ c.if-det-g00.true

pub returns-else-det-g00 : goal.returns-else-det-g00
unfolding newton_step of_bits
returns-else-det-g00 c = where-false _ _ _ c.if-det-g00.false

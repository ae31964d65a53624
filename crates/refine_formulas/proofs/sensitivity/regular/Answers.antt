-- `refine_formulas::sensitivity::regular` meets its contract: its two tests.
use mathlib.Core.Path.{ap}
use mathlib.Core.Bool.{Bool, ◌&&◌, not}
use lib.Ieee.{of_bits, eq, ne}
use Rattle.shapes.specs.Numbers.{plus_zero}
use Rattle.refine_formulas.specs.Sensitivity.{matrix_det}
use Rattle.refine_formulas.proofs.sensitivity.regular.Goals as goal

pub returns : goal.returns
unfolding of_bits ne
returns c = let m = c.args.m in ap (λ (p : Bool). p && not (eq (matrix_det m) plus_zero)) c.is_finite_f32.ensures

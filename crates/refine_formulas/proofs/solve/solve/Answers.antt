-- `refine_formulas::solve::solve` meets its contract: each way out is a law.
use lib.Ieee.{of_bits}
use Rattle.refine_formulas.proofs.SolveLaws.{above-margin, too_small_lem, endless, saddle}
use Rattle.refine_formulas.proofs.solve.solve.Goals as goal

pub returns-then-cfg-det_h : goal.returns-then-cfg-det_h
unfolding of_bits
returns-then-cfg-det_h c = above-margin c.args.cfg c.args.coefs c.if-cfg-det_h.true

pub returns-then-magnitude_f32-cfg : goal.returns-then-magnitude_f32-cfg
unfolding of_bits
returns-then-magnitude_f32-cfg c = too_small_lem c.args.cfg c.args.coefs c.magnitude_f32.result c.magnitude_f32.ensures c.if-cfg-det_h.false c.if-magnitude_f32-cfg.true

pub returns-then-is_finite_f32 : goal.returns-then-is_finite_f32
unfolding of_bits
returns-then-is_finite_f32 c = saddle c.args.cfg c.args.coefs c.magnitude_f32.result c.magnitude_f32.ensures c.if-cfg-det_h.false c.if-magnitude_f32-cfg.false c.is_finite_f32.result c.is_finite_f32-2.result c.is_finite_f32.ensures c.is_finite_f32-2.ensures c.if-is_finite_f32.true

pub returns-else-is_finite_f32 : goal.returns-else-is_finite_f32
unfolding of_bits
returns-else-is_finite_f32 c = endless c.args.cfg c.args.coefs c.magnitude_f32.result c.magnitude_f32.ensures c.if-cfg-det_h.false c.if-magnitude_f32-cfg.false c.is_finite_f32.result c.is_finite_f32-2.result c.is_finite_f32.ensures c.is_finite_f32-2.ensures c.if-is_finite_f32.false

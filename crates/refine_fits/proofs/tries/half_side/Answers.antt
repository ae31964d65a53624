-- `refine_fits::tries::half_side` meets its contract: the lesser of two.
use mathlib.Core.Path.{sym, ap}
use mathlib.Core.Bool.{Bool, cond}
use lib.IntN.{pos}
use lib.Ieee.{binary32, of_bits, of_int}
use Rattle.refine_formulas.specs.Numbers.{◌⊕◌, half}
use Rattle.refine_fits.proofs.tries.half_side.Goals as goal

pub returns-then-cfg-edge : goal.returns-then-cfg-edge
unfolding of_bits
returns-then-cfg-edge c =
    let cfg = c.args.cfg in
    sym (ap (λ (b : Bool). cond b cfg.max_offset (of_int binary32 (pos cfg.radius) ⊕ half)) c.if-cfg-edge.true)

pub returns-else-cfg-edge : goal.returns-else-cfg-edge
unfolding of_bits
returns-else-cfg-edge c =
    let cfg = c.args.cfg in
    sym (ap (λ (b : Bool). cond b cfg.max_offset (of_int binary32 (pos cfg.radius) ⊕ half)) c.if-cfg-edge.false)

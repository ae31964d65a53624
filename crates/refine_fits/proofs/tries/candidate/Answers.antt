-- `refine_fits::tries::candidate` meets its contract: a saddle that is better is taken where it lies in the box.
use mathlib.Core.Path.{sym, subst}
use Rattle.std.specs.Prelude.{Option, Some, None, IfSome}
use Rattle.refine_formulas.specs.declared.Corners.{Corners}
use Rattle.refine_fits.specs.StepsTries.{Weighs}
use Rattle.refine_fits.proofs.TryLaws.{ok_is, takes, strays}
use Rattle.refine_fits.proofs.tries.candidate.Goals as goal

pub returns-then-near_seed-clause-weighs : goal.returns-then-near_seed-clause-weighs
returns-then-near_seed-clause-weighs c =
    let a = c.args in
    let g = c.in_ok-g in
    subst (λ (o : Option Corners). IfSome o (λ k. Weighs a.cfg a.seed a.f a.ox a.oy k a.tx a.ty (Some g.g))) (sym c.in_ok-corners.was)
    (takes a.cfg a.seed a.f a.ox a.oy c.in_ok-corners.corners a.tx a.ty c.blend.result c.solve.result c.blend.ensures c.solve.ensures g.g c.norm2.result c.norm2-2.result c.norm2.ensures c.norm2-2.ensures (ok_is c.solve.result c.ok.result g.g c.ok.ensures.value (g.was)) c.near_seed.result c.if-norm2.true c.near_seed.ensures c.if-near_seed.true)

pub returns-else-near_seed-clause-weighs : goal.returns-else-near_seed-clause-weighs
returns-else-near_seed-clause-weighs c =
    let a = c.args in
    let g = c.in_ok-g in
    subst (λ (o : Option Corners). IfSome o (λ k. Weighs a.cfg a.seed a.f a.ox a.oy k a.tx a.ty None)) (sym c.in_ok-corners.was)
    (strays a.cfg a.seed a.f a.ox a.oy c.in_ok-corners.corners a.tx a.ty c.blend.result c.solve.result c.blend.ensures c.solve.ensures g.g c.norm2.result c.norm2-2.result c.norm2.ensures c.norm2-2.ensures (ok_is c.solve.result c.ok.result g.g c.ok.ensures.value (g.was)) c.near_seed.result c.if-norm2.true c.near_seed.ensures c.if-near_seed.false)

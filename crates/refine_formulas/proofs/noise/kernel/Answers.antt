-- `refine_formulas::noise::kernel` meets its contract. After d shifts each entry is that of d shifts; within a shift the first i entries are those of one more.
use mathlib.Core.Path.{◌≡◌, refl, ap, ◌∙◌}
use Prim.Native.Nat.{ℕ}
use native.Mathlib.Omega.{arith}
use borrow.Author.Tests.{not-true, not-false}
use lib.Ieee.{of_bits, ne}
use Rattle.shapes.proofs.ListLaws.{overwritten-none}
use Rattle.shapes.specs.Lists.{tabulated, overwritten}
use Rattle.shapes.specs.Numbers.{entry}
use Rattle.shapes.specs.Turns.{turns}
use Rattle.refine_formulas.specs.Steps.{entry_after}
use Rattle.refine_formulas.proofs.KernelLaws.{plus, passed_over, entry_more, added}
use Rattle.refine_formulas.proofs.noise.kernel.Goals as goal
use Rattle.refine_formulas.proofs.noise.kernel.Goals.{then-w+else-loop-i-test, else-w}

pub loop-d-init : goal.loop-d-init
unfolding tabulated entry_after turns of_bits
loop-d-init c = refl

pub loop-i-init : goal.loop-i-init
loop-i-init c = overwritten-none _ _

pub loop-i-preserved : goal.loop-i-preserved
loop-i-preserved c =
    let e = c.loop-i in
    let l = c.loop-d in
    entry_more c.args.overlap.now c.args.weights l.d l.k l.invariant e.i (omega arith) e.k e.invariant

pub loop-d-preserved : goal.loop-d-preserved
unfolding of_bits ne
loop-d-preserved c =
    let a = c.args in
    let l = c.loop-d in
    elim c.if-w.branch [
      | then-w+else-loop-i-test w ↦
          w.k-is
          ∙ added a.overlap.now a.weights l.d l.k l.invariant (not-true _ w.if-w.true) w.loop-i.k
          (w.loop-i.invariant ∙ ap (λ (n : ℕ). overwritten n (plus a.overlap.now (entry a.weights l.d) l.d l.k) l.k) (let h : w.loop-i.i ≡ 25 = omega arith in h))
      | else-w w ↦ w.k-is ∙ passed_over a.overlap.now a.weights l.d (not-false _ w.if-w.false) l.k l.invariant
    ]

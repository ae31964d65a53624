-- `refine_formulas::noise::kernel` meets its contract. After d shifts each entry is that of d shifts; within a shift the first i entries are those of one more.
use mathlib.Core.Path.{◌≡◌}
use Rattle.shapes.specs.Lists.{overwritten}
use Rattle.refine_formulas.proofs.KernelLaws.{after, plus}
use Rattle.refine_formulas.proofs.noise.kernel.Given as goal

abbrev pub invariant-loop-i : goal.invariant-loop-i
invariant-loop-i l = l.k ≡ overwritten l.i (plus l.overlap l.w l.d l.initial.k) l.initial.k

abbrev pub invariant-loop-d : goal.invariant-loop-d
invariant-loop-d l = l.k ≡ after l.overlap l.weights l.d

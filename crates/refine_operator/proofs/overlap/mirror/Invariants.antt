-- `refine_operator::overlap::mirror` meets its contract. Up to i the overlaps are copied.
use Rattle.refine_operator.specs.Steps.{Mirrored}
use Rattle.refine_operator.proofs.overlap.mirror.Given as goal

abbrev pub invariant-loop-i : goal.invariant-loop-i
invariant-loop-i l = Mirrored l.i l.initial.overlap l.overlap

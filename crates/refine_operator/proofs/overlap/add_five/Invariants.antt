-- `refine_operator::overlap::add_five` meets its contract. After s turns the first s products are added.
use Rattle.refine_operator.specs.Steps.{FiveAdded}
use Rattle.refine_operator.proofs.overlap.add_five.Given as goal

abbrev pub invariant-loop-s : goal.invariant-loop-s
invariant-loop-s l = FiveAdded l.r l.s l.here l.there l.initial.sums l.sums

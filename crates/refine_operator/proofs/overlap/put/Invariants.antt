-- `refine_operator::overlap::put` meets its contract. After i turns the first i sums are written.
use Rattle.refine_operator.specs.Steps.{BlockPut}
use Rattle.refine_operator.proofs.overlap.put.Given as goal

abbrev pub invariant-loop-i : goal.invariant-loop-i
invariant-loop-i l = BlockPut l.d l.i l.sums l.initial.overlap l.overlap

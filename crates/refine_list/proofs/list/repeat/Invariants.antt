-- `refine_list::list::repeat`: the first k numbers are repeated.
use Rattle.refine_list.specs.Steps.{Repeating}
use Rattle.refine_list.proofs.list.repeat.Given as goal

abbrev pub invariant-loop-k : goal.invariant-loop-k
invariant-loop-k l = Repeating l.initial.columns l.k l.columns

-- `refine_operator::inverse::reduce` meets its contract. The columns that are left lead from the matrix so far to the answer.
use Rattle.std.proofs.Common.{◌≡◌, ◌-◌}
use Rattle.refine_operator.specs.Inverse.{reduce_from}
use Rattle.refine_operator.proofs.inverse.reduce.Given as goal

abbrev pub invariant-loop-col : goal.invariant-loop-col
invariant-loop-col l = (reduce_from (6 - l.col) l.col l.m ≡ reduce_from 6 0 l.initial.m)

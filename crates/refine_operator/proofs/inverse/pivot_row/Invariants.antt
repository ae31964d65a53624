-- `refine_operator::inverse::pivot_row` meets its contract. After j turns the first j entries of the row are written.
use Rattle.std.proofs.Common.{◌+◌, ◌*◌}
use Rattle.refine_operator.specs.Steps.{Continued, reduced_at}
use Rattle.refine_operator.proofs.inverse.pivot_row.Given as goal

abbrev pub invariant-loop-j : goal.invariant-loop-j
invariant-loop-j l = Continued (12 * l.col) (12 * l.col + l.j) (reduced_at l.col l.pivot l.m) l.initial.out l.out

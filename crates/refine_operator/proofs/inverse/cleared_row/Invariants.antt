-- `refine_operator::inverse::cleared_row` meets its contract. After j turns the first j entries of the row are written.
use Rattle.std.proofs.Common.{◌+◌, ◌*◌}
use Rattle.refine_operator.specs.Steps.{Continued, reduced_at}
use Rattle.refine_operator.proofs.inverse.cleared_row.Given as goal

abbrev pub invariant-loop-j : goal.invariant-loop-j
invariant-loop-j l = Continued (12 * l.row) (12 * l.row + l.j) (reduced_at l.col l.pivot l.m) l.initial.out l.out

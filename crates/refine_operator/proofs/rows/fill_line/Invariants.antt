-- `refine_operator::rows::fill_line` meets its contract. After x turns the columns of x samples of the row are written.
use Rattle.std.proofs.Common.{◌+◌, ◌*◌}
use Rattle.refine_operator.specs.Steps.{Continued, column_at}
use Rattle.refine_operator.proofs.rows.fill_line.Given as goal

abbrev pub invariant-loop-x : goal.invariant-loop-x
invariant-loop-x l = Continued (5 * l.from) (5 * (l.from + l.x)) (column_at l.radius l.m) l.initial.columns l.columns

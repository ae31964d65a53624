-- `refine_operator::rows::fill_columns` meets its contract. After y turns the columns of y rows are written.
use Rattle.std.proofs.Common.{◌*◌}
use Rattle.refine_operator.specs.Basis.{side}
use Rattle.refine_operator.specs.Steps.{Continued, column_at}
use Rattle.refine_operator.proofs.rows.fill_columns.Given as goal

abbrev pub invariant-loop-y : goal.invariant-loop-y
invariant-loop-y l = Continued 0 (5 * (l.y * side l.radius)) (column_at l.radius l.m) l.initial.columns l.columns

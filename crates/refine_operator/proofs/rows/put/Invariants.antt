-- `refine_operator::rows::put` meets its contract. After c turns the first c entries of the column are written.
use Rattle.std.proofs.Common.{◌+◌, ◌*◌}
use Rattle.refine_operator.specs.Steps.{Continued, column_at}
use Rattle.refine_operator.proofs.rows.put.Given as goal

abbrev pub invariant-loop-c : goal.invariant-loop-c
invariant-loop-c l = Continued (5 * l.k) (5 * l.k + l.c) (column_at l.radius l.m) l.initial.columns l.columns

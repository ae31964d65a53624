-- `refine_operator::inverse::reduced_column` meets its contract. After some rows these are written.
use Rattle.std.proofs.Common.{◌*◌}
use Rattle.refine_operator.specs.Steps.{Continued, reduced_at}
use Rattle.refine_operator.proofs.inverse.reduced_column.Given as goal

abbrev pub invariant-loop-row : goal.invariant-loop-row
invariant-loop-row l = Continued 0 (12 * l.row) (reduced_at l.col l.pivot l.m) l.initial.out l.out

-- `refine_operator::overlap::fill_shift` meets its contract. After y turns the sums have y rows.
use Rattle.std.proofs.Common.{◌≡◌, ◌*◌}
use Rattle.refine_operator.specs.Basis.{side}
use Rattle.refine_operator.specs.Steps.{sums_at}
use Rattle.refine_operator.proofs.overlap.fill_shift.Given as goal

abbrev pub invariant-loop-y : goal.invariant-loop-y
invariant-loop-y l = l.sums ≡ sums_at l.radius l.m l.d (l.y * side l.radius)

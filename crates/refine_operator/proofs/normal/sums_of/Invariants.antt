-- `refine_operator::normal::sums_of` meets its contract. After y turns the sums have y rows.
use Rattle.std.proofs.Common.{◌≡◌, ◌*◌}
use Rattle.refine_operator.specs.Basis.{side}
use Rattle.refine_operator.specs.Steps.{upper_at}
use Rattle.refine_operator.proofs.normal.sums_of.Given as goal

abbrev pub invariant-loop-y : goal.invariant-loop-y
invariant-loop-y l = l.sums ≡ upper_at l.radius (l.y * side l.radius)

-- `refine_operator::normal::add_line` meets its contract. After x turns the sums have x samples of the row.
use Rattle.std.proofs.Common.{◌≡◌, ◌+◌, ◌*◌}
use Rattle.refine_operator.specs.Basis.{side}
use Rattle.refine_operator.specs.Steps.{upper_at}
use Rattle.refine_operator.proofs.normal.add_line.Given as goal

abbrev pub invariant-loop-x : goal.invariant-loop-x
invariant-loop-x l = l.sums ≡ upper_at l.radius (l.y * side l.radius + l.x)

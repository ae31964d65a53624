-- `refine_operator::normal::sums_of` meets its contract. After y turns the sums have y rows.
use Rattle.std.proofs.Common.{◌≡◌, ℕ, ◌+◌, ◌*◌, ap, arith}
use lib.Ieee.{of_bits}
use Rattle.shapes.specs.Turns.{turns}
use Rattle.refine_operator.specs.Basis.{side}
use Rattle.refine_operator.proofs.NormalLaws.{upper-none, upper-to}
use Rattle.refine_operator.proofs.normal.sums_of.Goals as goal

pub loop-y-init : goal.loop-y-init
unfolding of_bits turns
loop-y-init c = upper-none c.args.radius

pub returns : goal.returns
returns c =
    let l = c.loop-y in
    let a = c.args in
    let e : l.y ≡ 2 * a.radius + 1 = omega arith in
    upper-to a.radius _ _ l.sums l.invariant (ap (λ (n : ℕ). n * side a.radius) e)

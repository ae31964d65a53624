-- `refine_operator::normal::add_line` meets its contract. After x turns the sums have x samples of the row.
use Rattle.std.proofs.Common.{◌≡◌, ℕ, ◌+◌, ◌*◌, sym, ap, ◌∙◌, add-zero, arith}
use Rattle.refine_operator.specs.Basis.{side}
use Rattle.refine_operator.proofs.NormalLaws.{upper-along, upper-to}
use Rattle.refine_operator.proofs.WrittenLaws.{more_rows}
use Rattle.refine_operator.proofs.normal.add_line.Goals as goal

pub loop-x-init : goal.loop-x-init
loop-x-init c = upper-to c.args.radius _ _ c.args.s c.requires.2 (sym (add-zero (c.args.y * side c.args.radius)))

pub loop-x-preserved : goal.loop-x-preserved
loop-x-preserved c =
    let l = c.loop-x in
    let a = c.args in
    upper-along a.radius l.x a.y l.sums c.add_sample-sums.result c.phi_of.result c.loop-x-test.true l.invariant c.phi_of.ensures c.add_sample-sums.ensures

pub returns : goal.returns
returns c =
    let l = c.loop-x in
    let a = c.args in
    let e : l.x ≡ 2 * a.radius + 1 = omega arith in
    upper-to a.radius _ _ l.sums l.invariant (ap (λ (n : ℕ). a.y * side a.radius + n) e ∙ more_rows a.y (side a.radius))

-- `refine_operator::rows::fill_columns` meets its contract. After y turns the columns of y rows are written.
use Rattle.std.proofs.Common.{◌≡◌, ℕ, ◌+◌, ◌*◌, ap, arith}
use Rattle.refine_operator.specs.Basis.{side, samples}
use Rattle.refine_operator.specs.Steps.{column_at}
use Rattle.refine_operator.proofs.BasisLaws.{samples-most}
use Rattle.refine_operator.proofs.WrittenLaws.{continued-to, continued-all}
use Rattle.refine_operator.proofs.rows.fill_columns.Goals as goal

pub returns : goal.returns
returns c =
    let l = c.loop-y in
    let a = c.args in
    continued-all (5 * samples a.radius) (column_at a.radius a.m.now) a.columns.now l.columns (omega (arith, samples-most a.radius c.requires.0))
    (continued-to 0 _ _ (column_at a.radius a.m.now) a.columns.now l.columns (ap (λ (n : ℕ). 5 * (n * side a.radius)) (let e : l.y ≡ 2 * a.radius + 1 = omega arith in e)) l.invariant)

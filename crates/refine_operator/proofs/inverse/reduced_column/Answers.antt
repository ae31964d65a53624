-- `refine_operator::inverse::reduced_column` meets its contract. After some rows these are written.
use Rattle.std.proofs.Common.{◌≡◌, ℕ, ◌*◌, ap, arith}
use Rattle.refine_operator.specs.Steps.{reduced_at}
use Rattle.refine_operator.proofs.InverseLaws.{column-done}
use Rattle.refine_operator.proofs.WrittenLaws.{continued-to}
use Rattle.refine_operator.proofs.inverse.reduced_column.Goals as goal

pub returns : goal.returns
returns c =
    let l = c.loop-row in
    let a = c.args in
    column-done a.col a.pivot a.m.now c.requires.0 c.requires.1 a.out.now l.out c.requires.2 (continued-to 0 _ _ (reduced_at a.col a.pivot a.m.now) a.out.now l.out (ap (λ (n : ℕ). 12 * n) (let e : l.row ≡ 6 = omega arith in e)) l.invariant)

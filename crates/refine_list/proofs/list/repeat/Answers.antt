-- `refine_list::list::repeat` meets its contract: after 125 turns all are repeated.
use Rattle.std.proofs.Common.{◌≡◌, subst, ℕ, arith}
use Rattle.refine_list.specs.Steps.{Repeating}
use Rattle.refine_list.proofs.RepeatLaws.{repeats-all}
use Rattle.refine_list.proofs.list.repeat.Goals as goal

pub returns : goal.returns
returns c =
    let l = c.loop-k in
    let e : l.k ≡ 125 = omega (arith, l.auto.k-end, c.loop-k-test.false) in
    repeats-all c.args.columns.now l.columns (subst (λ (n : ℕ). Repeating c.args.columns.now n l.columns) e l.invariant)

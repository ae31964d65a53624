-- `peaks::window::Response::run_passes` meets its contract.
use Rattle.std.proofs.Common.{◌≡◌, sym, ap, ◌∙◌, ℕ, ◌+◌, ◌*◌, ◌/◌, arith}
use Rattle.shapes.specs.Tests.{every}
use Rattle.peaks.specs.Steps.{run_at}
use Rattle.peaks.proofs.BlockLaws.{none-passed, four-more, run-more, run-lost}
use Rattle.peaks.proofs.Response.run_passes.Goals as goal

pub loop-r-init : goal.loop-r-init
loop-r-init g c = λ p t. none-passed c.args.self.now.values.now c.args.start p

pub returns-then-not-four : goal.returns-then-not-four
returns-then-not-four g c =
    let l = c.loop-r in
    let values = c.args.self.now.values.now in
    λ p t.
    run-lost values c.args.start p ((l.r + 1) * 4) c.args.n (omega (arith, c.loop-r-test.true))
    (four-more values c.args.start p l.r (t _ _ c.passes.ensures) (t _ _ c.passes-in-loop-r.ensures) (t _ _ c.passes-in-loop-r-2.ensures) (t _ _ c.passes-in-loop-r-3.ensures) (l.invariant p t) ∙ c.if-not-four.true)

pub loop-r-preserved : goal.loop-r-preserved
loop-r-preserved g c =
    let l = c.loop-r in
    let values = c.args.self.now.values.now in
    λ p t.
    four-more values c.args.start p l.r (t _ _ c.passes.ensures) (t _ _ c.passes-in-loop-r.ensures) (t _ _ c.passes-in-loop-r-2.ensures) (t _ _ c.passes-in-loop-r-3.ensures) (l.invariant p t) ∙ c.if-not-four.false

pub loop-i-init : goal.loop-i-init
loop-i-init g c =
    let l = c.loop-r in
    λ p t. ap (λ (n : ℕ). every n (λ i. p (run_at c.args.self.now.values.now c.args.start i))) (let e : c.args.n / 4 * 4 ≡ l.r * 4 = omega (arith, l.auto.r-end, c.loop-r-test.false) in e) ∙ l.invariant p t

pub returns-then-not-passes : goal.returns-then-not-passes
returns-then-not-passes g c =
    let l = c.loop-i in
    let values = c.args.self.now.values.now in
    λ p t. run-lost values c.args.start p (l.i + 1) c.args.n (omega (arith, c.loop-i-test.true)) (run-more values c.args.start p l.i (t _ _ c.passes-in-loop-i.ensures) (l.invariant p t) ∙ c.if-not-passes.true)

pub loop-i-preserved : goal.loop-i-preserved
loop-i-preserved g c =
    let l = c.loop-i in
    let values = c.args.self.now.values.now in
    λ p t. run-more values c.args.start p l.i (t _ _ c.passes-in-loop-i.ensures) (l.invariant p t) ∙ c.if-not-passes.false

pub returns : goal.returns
returns g c =
    let l = c.loop-i in
    λ p t. sym (ap (λ (n : ℕ). every n (λ i. p (run_at c.args.self.now.values.now c.args.start i))) (let e : c.args.n ≡ l.i = omega (arith, l.auto.i-end, c.loop-i-test.false) in e) ∙ l.invariant p t)

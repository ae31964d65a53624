-- `refine_seed::Nearby::candidate` meets its contract: without room, weighed and passed, or weighed and taken.
use Rattle.std.proofs.Common.{ℕ, subst, arith}
use Rattle.std.specs.Prelude.{Some, None}
use mathlib.Core.Path.{◌∙◌}
use Rattle.refine_fits.specs.Candidate.{task_at}
use Rattle.refine_fits.specs.StepsBases.{Stands, corners_in}
use Rattle.refine_fits.proofs.TryLaws.{tries, tries_lacking}
use Rattle.refine_seed.proofs.StepLaws.{weighed_none, weighed_some}
use Rattle.refine_seed.proofs.Nearby.candidate.Goals as goal

pub returns-in_err-to-clause-taken : goal.returns-in_err-to-clause-taken
returns-in_err-to-clause-taken g c =
    let a = c.args in
    let t = c.args.task.now in
    let w = c.window_at-w in
    let s = subst (λ (r : ℕ). Stands t.image.now t.columns.now.numbers.now r w.result.base None c.ready_with.new.self c.ready_with.new.flat) t.radius c.in_err-to.ensures.stands in
    let k = corners_in c.ready_with.new.flat 0 in
    c.from_residual.ensures ∙ weighed_none (task_at t.image.now t.columns.now.numbers.now t.cfg t.seed) a.fit a.ox a.oy k w.result w.ensures (tries_lacking _ _ _ _ _ _ _ _ _ _ (record { image = t.within.sound.image; small = omega (arith, t.within.sound.small, t.radius) }) w.ensures k s)

pub returns-in_err-fit-clause-taken : goal.returns-in_err-fit-clause-taken
returns-in_err-fit-clause-taken g c =
    let a = c.args in
    let t = c.args.task.now in
    let w = c.window_at-w in
    let s = subst (λ (r : ℕ). Stands t.image.now t.columns.now.numbers.now r w.result.base (Some c.in_ok-to.to) c.ready_with.new.self c.ready_with.new.flat) t.radius c.in_ok-to.ensures.stands in
    c.from_residual-in_err-fit.ensures ∙ weighed_none (task_at t.image.now t.columns.now.numbers.now t.cfg t.seed) a.fit a.ox a.oy c.corners_at-corners.result w.result w.ensures (tries _ _ _ _ _ _ _ _ _ _ (record { image = t.within.sound.image; small = omega (arith, t.within.sound.small, t.radius) }) w.ensures _ _ None s c.corners_at-corners.ensures c.in_err-fit.ensures.weighs)

pub returns-clause-taken : goal.returns-clause-taken
returns-clause-taken g c =
    let a = c.args in
    let t = c.args.task.now in
    let w = c.window_at-w in
    let s = subst (λ (r : ℕ). Stands t.image.now t.columns.now.numbers.now r w.result.base (Some c.in_ok-to.to) c.ready_with.new.self c.ready_with.new.flat) t.radius c.in_ok-to.ensures.stands in
    weighed_some (task_at t.image.now t.columns.now.numbers.now t.cfg t.seed) a.fit a.ox a.oy c.corners_at-corners.result w.result w.ensures c.in_ok-fit.fit (tries _ _ _ _ _ _ _ _ _ _ (record { image = t.within.sound.image; small = omega (arith, t.within.sound.small, t.radius) }) w.ensures _ _ (Some c.in_ok-fit.fit) s c.corners_at-corners.ensures c.in_ok-fit.ensures.weighs)

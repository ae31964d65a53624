-- `refine_seed::Task::run` meets its contract: each candidate is one law, and so is each way out.
use Rattle.std.proofs.Common.{◌≡◌, ◌+◌, ◌-◌, sym, arith}
use lib.Ieee.{of_bits}
use mathlib.Core.Path.{◌∙◌}
use Rattle.refine_fits.specs.Candidate.{task_at}
use Rattle.refine_seed.proofs.StepLaws.{first_step, goes_half, goes_on, ends_there, ends-unsettled}
use Rattle.refine_seed.proofs.Task.run.Goals as goal

pub steps-init : goal.steps-init
unfolding of_bits
steps-init g c =
    let a = c.args in
    record {
      holds = c.new-nearby.ensures.is a.self.now.image.now a.self.now.columns.now.numbers.now a.self.now.columns.now.radius;
      few = omega arith;
      is = first_step (task_at a.self.now.image.now a.self.now.columns.now.numbers.now a.self.now.cfg a.self.now.seed) a.first c.requires.unsettled;
    }

pub loop-half-preserved : goal.loop-half-preserved
unfolding of_bits
loop-half-preserved g c =
    let i = c.loop-half.invariant in
    record {
      holds = c.candidate.ensures.holds;
      few = omega (arith, i.few);
      is = goes_half _ _ _ _ _ _ _ _ _ _ i.is c.loop-half-test.true (sym c.in_default.is ∙ c.candidate.ensures.taken);
    }

pub returns-then-settled : goal.returns-then-settled
returns-then-settled g c = ends_there _ _ _ _ _ _ _ _ _ _ c.loop-half.invariant.is c.loop-half-test.true c.in-Some.taken (sym c.in-Some.is ∙ c.candidate.ensures.taken) (sym c.settled.ensures ∙ c.if-settled.true)

pub steps-preserved : goal.steps-preserved
steps-preserved g c =
    let i = c.loop-half.invariant in
    record {
      holds = c.candidate.ensures.holds;
      few = omega (arith, i.few);
      is = goes_on _ _ _ _ _ _ _ _ _ _ i.is c.loop-half-test.true c.in-Some.taken (sym c.in-Some.is ∙ c.candidate.ensures.taken) _ _ (sym c.settled.ensures ∙ c.if-settled.false) c.next_move-by.ensures (let e : 15 - c.steps.step ≡ 16 - (c.steps.step + 1) = omega arith in e);
    }

pub returns-after-loop-half : goal.returns-after-loop-half
returns-after-loop-half g c = ends-unsettled _ _ _ _ _ _ _ _ _ _ c.loop-half.invariant.is c.loop-half-test.false

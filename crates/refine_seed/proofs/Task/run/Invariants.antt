-- The loops of `refine_seed::Task::run` go on where the whole run would: before a step with the steps that are left, and within one before a candidate.
use Rattle.std.proofs.Common.{◌≡◌, ◌+◌, ◌-◌, ◌*◌, ◌≤◌}
use Rattle.refine_fits.specs.Candidate.{task_at}
use Rattle.refine_seed.specs.Run.{run_of}
use Rattle.refine_seed.specs.StepsEnding.{Holds, ended_of, from_candidate, from_step}
use Rattle.refine_seed.proofs.Task.run.Given as goal

abbrev pub invariant-steps : goal.invariant-steps
invariant-steps g l = record {
  holds : Holds l.self.image.now l.self.columns.now.numbers.now l.self.columns.now.radius l.nearby;
  few : l.tries ≤ 4 * l.step;
  is : ended_of (run_of (task_at l.self.image.now l.self.columns.now.numbers.now l.self.cfg l.self.seed) l.fn.first) ≡ from_step (task_at l.self.image.now l.self.columns.now.numbers.now l.self.cfg l.self.seed) (16 - l.step) l.fit l.ox l.oy l.by l.tries;
}

abbrev pub invariant-loop-half : goal.invariant-loop-half
invariant-loop-half g l = record {
  holds : Holds l.self.image.now l.self.columns.now.numbers.now l.self.columns.now.radius l.nearby;
  few : l.tries ≤ 4 * l.step + l.half;
  is : ended_of (run_of (task_at l.self.image.now l.self.columns.now.numbers.now l.self.cfg l.self.seed) l.fn.first) ≡ from_candidate (task_at l.self.image.now l.self.columns.now.numbers.now l.self.cfg l.self.seed) (15 - l.step) (4 - l.half) l.fit l.ox l.oy l.by l.scale l.tries;
}

-- `peaks::window::Response::positive_run`: those passed are counted.
use Rattle.std.proofs.Common.{◌≡◌}
use Rattle.std.specs.Float.Ieee.{lt}
use Rattle.shapes.specs.Numbers.{plus_zero}
use Rattle.peaks.specs.Peak.{count}
use Rattle.peaks.specs.Steps.{run_at}
use Rattle.peaks.proofs.Response.positive_run.Given as goal

abbrev pub invariant-loop-i : goal.invariant-loop-i
invariant-loop-i l = l.sum ≡ count l.i (λ i. lt plus_zero (run_at l.self.values.now l.start i))

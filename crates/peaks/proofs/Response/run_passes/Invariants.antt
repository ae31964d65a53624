-- `peaks::window::Response::run_passes`: all that are passed have p.
use Rattle.std.proofs.Common.{◌≡◌, Bool, true, ◌*◌}
use Rattle.std.specs.Prelude.{Float}
use Rattle.shapes.specs.Tests.{every}
use Rattle.peaks.specs.Steps.{run_at, TellsValue}
use Rattle.peaks.proofs.Response.run_passes.Given as goal

abbrev pub invariant-loop-r : goal.invariant-loop-r
invariant-loop-r g l = (p : Float → Bool) → TellsValue (goal.F-post g l.passes) p → every (l.r * 4) (λ i. p (run_at l.self.values.now l.start i)) ≡ true

abbrev pub invariant-loop-i : goal.invariant-loop-i
invariant-loop-i g l = (p : Float → Bool) → TellsValue (goal.F-post g l.passes) p → every l.i (λ i. p (run_at l.self.values.now l.start i)) ≡ true

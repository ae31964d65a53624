-- `peaks::window::Response::rows_pass`: all of the rows passed have p.
use Rattle.std.proofs.Common.{◌≡◌, Bool, true, ◌*◌}
use Rattle.std.specs.Prelude.{Float}
use Rattle.shapes.specs.Tests.{every}
use Rattle.peaks.specs.Peak.{side}
use Rattle.peaks.specs.Steps.{scan_of, block_at, TellsValue}
use Rattle.peaks.proofs.Response.rows_pass.Given as goal

abbrev pub invariant-loop-r : goal.invariant-loop-r
invariant-loop-r g l = (p : Float → Bool) → TellsValue (goal.F-post g l.passes) p → every (l.r * side (scan_of l.self)) (λ j. p (block_at l.self.values.now l.start l.self.width (side (scan_of l.self)) j)) ≡ true

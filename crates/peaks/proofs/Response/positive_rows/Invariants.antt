-- `peaks::window::Response::positive_rows`: those of the rows passed are counted.
use Rattle.std.proofs.Common.{◌≡◌, ◌*◌}
use Rattle.std.specs.Float.Ieee.{lt}
use Rattle.shapes.specs.Numbers.{plus_zero}
use Rattle.peaks.specs.Peak.{side, count}
use Rattle.peaks.specs.Steps.{scan_of, block_at}
use Rattle.peaks.proofs.Response.positive_rows.Given as goal

abbrev pub invariant-loop-r : goal.invariant-loop-r
invariant-loop-r l = l.sum ≡ count (l.r * side (scan_of l.self)) (λ j. lt plus_zero (block_at l.self.values.now l.start l.self.width (side (scan_of l.self)) j))

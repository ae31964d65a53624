-- `coverage::counts::count_corners` meets its contract: the counts are the summary so far.
use mathlib.Core.Path.{◌≡◌}
use Rattle.coverage.specs.Summary.{summary}
use Rattle.coverage.proofs.counts.count_corners.Given as goal

abbrev pub invariant-loop-i : goal.invariant-loop-i
invariant-loop-i l = l.counts ≡ summary l.tiles.width l.tiles.height l.list l.i

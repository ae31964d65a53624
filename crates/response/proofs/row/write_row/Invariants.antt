-- The pixels before `at` are written.
use Rattle.std.proofs.Common.{◌≡◌, ◌-◌, ◌≤◌, length}
use Rattle.shapes.specs.Numbers.{plus_zero}
use Rattle.pixel_response.specs.Steps.{Wrote}
use Rattle.response.specs.StepsStarts.{value_at}
use Rattle.response.proofs.row.write_row.Given as goal

abbrev pub invariant-loop-at : goal.invariant-loop-at
invariant-loop-at g l = record { within : l.at ≤ l.n; count : l.n ≡ length l.initial.out; written : Wrote plus_zero l.at 0 (value_at (g.S.Sample.levels l.img) l.starts) l.initial.out l.out }

abbrev pub decreases-loop-at : goal.decreases-loop-at
decreases-loop-at g l = l.n - l.at

-- `peaks::scan::Response::write`: the records of the peaks before the pixel `at` are written.
use Rattle.std.proofs.Common.{◌≡◌, List, ◌-◌, length}
use Rattle.std.specs.Float.{Float}
use Rattle.peaks.specs.Steps.{scan_of, Stands, Written}
use Rattle.peaks.proofs.Response.write.Given as goal

abbrev pub invariant-loop-at : goal.invariant-loop-at
invariant-loop-at l = record {
  room : length l.out ≡ length l.initial.out;
  stands : Stands (scan_of l.self) l.total l.at;
  written : (o : List Float) → length o ≡ length l.initial.out → Written (scan_of l.self) o l.n l.from l.initial.out → Written (scan_of l.self) o l.total l.at l.out;
}

abbrev pub decreases-loop-at : goal.decreases-loop-at
decreases-loop-at l = length l.self.values.now - l.at

-- `peaks::scan::Response::note`: the peaks before `at` are listed.
use Rattle.std.proofs.Common.{◌-◌, length}
use Rattle.peaks.specs.Steps.{scan_of, Noted}
use Rattle.peaks.proofs.Response.note.Given as goal

abbrev pub invariant-loop-at : goal.invariant-loop-at
invariant-loop-at l = Noted (scan_of l.self) l.list l.at

abbrev pub decreases-loop-at : goal.decreases-loop-at
decreases-loop-at l = length l.self.values.now - l.at

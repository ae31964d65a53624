-- `peaks::scan::Response::tally`: `count` peaks lie before the pixel `at`.
use Rattle.std.proofs.Common.{◌≡◌, ◌-◌, length}
use Rattle.peaks.specs.Steps.{scan_of, Stands}
use Rattle.peaks.proofs.Response.tally.Given as goal

abbrev pub invariant-loop-at : goal.invariant-loop-at
invariant-loop-at l = record { stands : Stands (scan_of l.self) l.count l.at; list_stays : l.list ≡ l.initial.list }

abbrev pub decreases-loop-at : goal.decreases-loop-at
decreases-loop-at l = length l.self.values.now - l.at

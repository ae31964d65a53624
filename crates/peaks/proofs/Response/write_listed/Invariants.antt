-- `peaks::scan::Response::write_listed`: the records of the first i pixels listed are written.
use Rattle.std.proofs.Common.{◌≡◌, length, take}
use Rattle.peaks.specs.Steps.{scan_of, Follow}
use Rattle.peaks.proofs.Response.write_listed.Given as goal

abbrev pub invariant-loop-i : goal.invariant-loop-i
invariant-loop-i l = record { room : length l.out ≡ length l.initial.out; written : Follow (scan_of l.self) (take l.i l.list) l.n l.initial.out l.out }

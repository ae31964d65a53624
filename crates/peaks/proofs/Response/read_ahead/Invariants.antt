-- `peaks::gather::Response::read_ahead`: no more are counted than were read.
use Rattle.std.proofs.Common.{◌≤◌}
use Rattle.peaks.proofs.Response.read_ahead.Given as goal

abbrev pub invariant-loop-i : goal.invariant-loop-i
invariant-loop-i l = l.count ≤ l.i

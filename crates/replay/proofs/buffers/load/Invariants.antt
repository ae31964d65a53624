-- The bytes up to i are those that are given, and the others as they were.
use Rattle.std.proofs.Common.{◌≡◌}
use Rattle.replay.specs.Buffers.{over, given_byte}
use Rattle.replay.proofs.buffers.load.Given as goal

abbrev pub invariant-loop-i : goal.invariant-loop-i
invariant-loop-i l = l.bytes ≡ over (given_byte l.part.case.now l.part.at l.given) 0 l.i l.initial.bytes

-- What is left to test decides as the whole does.
use Rattle.std.proofs.Common.{◌≡◌, drop}
use Rattle.std.specs.Prelude.{eqb}
use Rattle.replay.specs.Buffers.{every_at, wanted_byte}
use Rattle.replay.proofs.buffers.bytes_stand.Given as goal

abbrev pub invariant-loop-i : goal.invariant-loop-i
invariant-loop-i l =
    every_at (λ i x. eqb x (wanted_byte l.part.case.now l.part.at l.given l.n i)) l.i (drop l.i l.bytes)
    ≡ every_at (λ i x. eqb x (wanted_byte l.part.case.now l.part.at l.given l.n i)) 0 l.bytes

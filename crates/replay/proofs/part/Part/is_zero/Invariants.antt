-- What is left to test decides as the whole does.
use Rattle.std.proofs.Common.{◌≡◌, ◌-◌}
use Rattle.std.specs.Prelude.{eqb}
use Rattle.words.specs.Words.{word_at}
use Rattle.replay.specs.Place.{place_of}
use Rattle.replay.specs.Buffers.{every}
use Rattle.replay.proofs.part.Part.is_zero.Given as goal

abbrev pub invariant-loop-i : goal.invariant-loop-i
invariant-loop-i l =
    every (λ i. eqb (word_at l.self.case.now (place_of l.self.at i)) 0) l.i (l.to - l.i)
    ≡ every (λ i. eqb (word_at l.self.case.now (place_of l.self.at i)) 0) l.from (l.to - l.from)

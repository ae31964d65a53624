-- What is left to test decides as the whole does.
use Rattle.std.proofs.Common.{◌≡◌, drop}
use Rattle.std.specs.Prelude.{eqb}
use Rattle.replay.specs.Buffers.{every_at, wanted_of}
use Rattle.replay.proofs.buffers.stands.Given as goal

abbrev pub invariant-loop-k : goal.invariant-loop-k
invariant-loop-k g l =
    every_at (λ i x. eqb (g.T.Element.word_of x) (wanted_of g.T.Element.mark_at l.part.case.now l.part.at l.n l.fill i)) l.k (drop l.k l.list)
    ≡ every_at (λ i x. eqb (g.T.Element.word_of x) (wanted_of g.T.Element.mark_at l.part.case.now l.part.at l.n l.fill i)) 0 l.list

abbrev pub invariant-loop-i : goal.invariant-loop-i
invariant-loop-i g l =
    every_at (λ i x. eqb (g.T.Element.word_of x) (wanted_of g.T.Element.mark_at l.part.case.now l.part.at l.n l.fill i)) l.i (drop l.i l.list)
    ≡ every_at (λ i x. eqb (g.T.Element.word_of x) (wanted_of g.T.Element.mark_at l.part.case.now l.part.at l.n l.fill i)) 0 l.list

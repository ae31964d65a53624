-- The numbers up to i are paint, and the others as they were.
use Rattle.std.proofs.Common.{◌≡◌}
use Rattle.replay.specs.Buffers.{over}
use Rattle.replay.proofs.buffers.paint.Given as goal

abbrev pub invariant-loop-k : goal.invariant-loop-k
invariant-loop-k g l = l.list ≡ over (λ i. g.T.Element.of_word (g.T.Element.mark_at i)) 0 l.k l.fn.list

abbrev pub invariant-loop-i : goal.invariant-loop-i
invariant-loop-i g l = l.list ≡ over (λ i. g.T.Element.of_word (g.T.Element.mark_at i)) 0 l.i l.fn.list

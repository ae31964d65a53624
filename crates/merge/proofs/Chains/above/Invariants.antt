-- Each number on the way stands in the chain, and the last has no link above j.
use mathlib.Core.Path.{◌≡◌}
use mathlib.Core.List.{List}
use Prim.Native.Nat.{ℕ, ◌<◌}
use lib.ListN.{length, get_or}
use Rattle.merge.specs.Steps.{Nexts, top}
use Rattle.merge.proofs.Chains.above.Given as goal

abbrev pub invariant-loop-next : goal.invariant-loop-next
invariant-loop-next l = record {
  above : l.j < l.q;
  below : l.q < l.from;
  link : l.next ≡ get_or l.self.links.now l.q 0;
  on : (most c : ℕ) (cs : List ℕ) → Nexts most cs l.self.links.now → c < most → l.from ≡ top cs c (length cs) → get_or cs l.q 0 ≡ c;
}

abbrev pub decreases-loop-next : goal.decreases-loop-next
decreases-loop-next l = l.q

-- `merge::chains::walk` meets its contract: the chain from `p` on finds what the whole chain would.
use mathlib.Core.Path.{◌≡◌}
use mathlib.Core.List.{List}
use Prim.Native.Nat.{ℕ, ◌≤◌, ◌<◌}
use lib.ListN.{length}
use Rattle.merge.specs.Steps.{Nexts, lowest_below, top, in_cell, within}
use Rattle.merge.proofs.Chains.walk.Given as goal

abbrev pub invariant-loop-p : goal.invariant-loop-p
invariant-loop-p l =
    (l.p ≤ l.from)
    × ((most c : ℕ) (cs : List ℕ) → Nexts most cs l.self.links.now → c < most → l.from ≡ top cs c (length cs)
    → (l.p ≡ top cs c l.p) × (lowest_below (in_cell cs c (within l.disc l.corners)) l.p l.found ≡ lowest_below (in_cell cs c (within l.disc l.corners)) (length cs) l.best))

abbrev pub decreases-loop-p : goal.decreases-loop-p
decreases-loop-p l = l.p

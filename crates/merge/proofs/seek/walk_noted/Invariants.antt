-- `merge::seek::walk_noted` meets its contract: after i turns the first i noted cells are walked.
use mathlib.Core.Path.{◌≡◌}
use Prim.Native.Nat.{ℕ}
use Rattle.merge.specs.declared.Cells.{Cells}
use Rattle.merge.specs.Steps.{Chained, Noted, lowest_noted}
use Rattle.merge.proofs.seek.walk_noted.Given as goal

abbrev pub invariant-loop-i : goal.invariant-loop-i
invariant-loop-i l = (g : Cells) (m : ℕ) → Chained g l.corners m l.chains.heads.now l.chains.links.now → Noted g l.notes l.n → l.found ≡ lowest_noted g l.corners m l.disc l.notes l.i l.best

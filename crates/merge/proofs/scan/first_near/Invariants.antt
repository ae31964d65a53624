-- None of the corners passed lies in the disc.
use mathlib.Core.Path.{◌≡◌}
use mathlib.Core.Bool.{false}
use Prim.Native.Nat.{ℕ, ◌<◌}
use Rattle.merge.specs.Steps.{within}
use Rattle.merge.proofs.scan.first_near.Given as goal

abbrev pub invariant-loop-j : goal.invariant-loop-j
invariant-loop-j l = (k : ℕ) → k < l.j → within l.disc l.corners k ≡ false

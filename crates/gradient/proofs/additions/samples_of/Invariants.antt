-- `gradient::additions::samples_of` meets its contract. The invariant: the first k samples are those of their cells.
use mathlib.Core.Path.{◌≡◌}
use Prim.Native.Nat.{ℕ, ◌<◌}
use lib.ListN.{length, get_or}
use Rattle.gradient.proofs.additions.samples_of.Given as goal

abbrev pub invariant-loop-k : goal.invariant-loop-k
invariant-loop-k l = (length l.samples ≡ 21) × ((j : ℕ) → j < l.k → get_or l.samples j 0 ≡ get_or l.tile (get_or l.cells j 0) 0)

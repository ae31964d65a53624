-- `floats::whole_root` meets its contract. The loop's invariant: the root is at most r, which each of Newton's steps keeps (`newton`).
-- The measure is r: a step goes down while n / r is below r. Where it is not, r * r is at most n, and r is the root.
use Rattle.std.proofs.Common.{suc, ◌*◌, ◌<◌}
use Rattle.floats.proofs.whole_root.Given as goal

abbrev pub invariant-loop-r : goal.invariant-loop-r
invariant-loop-r l = (l.n < suc l.r * suc l.r) × (0 < l.r) × (l.r < 0x8000_0000_0000_0000)

abbrev pub decreases-loop-r : goal.decreases-loop-r
decreases-loop-r l = l.r

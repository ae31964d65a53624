-- `floats::small_root` meets its contract. The loop's invariant: n * 2 ^ (k + k) stays what the root is taken of, and n stays below 2 ^ 48.
-- The measure is k, which is above 0 while n is below 2 ^ 46.
use Rattle.std.proofs.Common.{◌≡◌, ◌+◌, ◌*◌, ◌^◌, ◌<◌}
use Rattle.floats.proofs.small_root.Given as goal

abbrev pub invariant-loop-n : goal.invariant-loop-n
invariant-loop-n l = (l.n * 2 ^ (l.k + l.k) ≡ l.bits * 2 ^ 149) × (l.n < 2 ^ 48) × (l.k < 64)

abbrev pub decreases-loop-n : goal.decreases-loop-n
decreases-loop-n l = l.k

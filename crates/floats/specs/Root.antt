-- The square root of a float, rounded once: `sqrt f x` is the value of the format f nearest to the exact root, a tie to the even one.
-- ±0 and +inf are their own roots; below zero there is none, and the answer is a NaN.
use Rattle.std.specs.Prelude.{ℕ, zero, suc, ◌+◌, ◌-◌, ◌*◌, ◌/◌, ◌^◌, false, cond, nat_le}
use Prim.Native.Nat.{compare}
use lib.Ieee.{Float, nan, inf, fin, Format, prec, low, up, down, size, nearest, units}

-- The whole root of n is r and d binary digits more: each, from the highest, is 1 where the square stays within n.
unfoldable pub root_from : ℕ → ℕ → ℕ → ℕ
root_from zero n r = r
root_from (suc d) n r = root_from d n (cond (nat_le ((r + 2 ^ d) * (r + 2 ^ d)) n) (r + 2 ^ d) r)

-- the greatest r with r * r at most n: it has no more digits than n
unfoldable pub root : ℕ → ℕ
unfolding root_from size
root n = root_from (size n) n 0

-- Of q and q + 1, times 2 ^ k units, the one that is nearer to the root of n / den units: how that root compares with the
-- middle of the two, (2 * q + 1) * 2 ^ k / 2, is asked of the squares.
unfoldable pub nearer_root : Format → ℕ → ℕ → ℕ → ℕ → Float
unfolding units
nearer_root f n den k q = units f false (nearest q (compare (n * 4) (den * ((2 * q + 1) * 2 ^ k * ((2 * q + 1) * 2 ^ k))))) k

-- The value of the format f nearest to the root of num / den. In units of f's smallest value it is the root of n / den.
-- Of its whole part the format keeps the `prec` leading digits and drops k, as `lib.Ieee.round` does.
unfoldable pub round_root : Format → ℕ → ℕ → Float
unfolding root nearer_root
round_root f num den =
    let n = num * 2 ^ (low f + low f) in
    let r = root (n / den) in
    let k = size r - prec f in
    nearer_root f n den k (r / 2 ^ k)

unfoldable pub sqrt : Format → Float → Float
unfolding round_root
sqrt f nan = nan
sqrt f (inf s) = cond s nan (inf false)
sqrt f (fin s zero e) = fin s zero e
sqrt f (fin s (suc m) e) = cond s nan (round_root f (suc m * up e) (down e))

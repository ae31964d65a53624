-- What the private steps give: bit patterns that stand for the narrowed value and for the root, and the digits of a root.
use Rattle.std.specs.Prelude.{◌≡◌, ℕ, suc, ◌+◌, ◌*◌, ◌≤◌, cond, from_bits, nat_le}
use Rattle.std.specs.Float.{binary32, binary64}
use Rattle.floats.specs.Convert.{convert}
use Rattle.floats.specs.Root.{sqrt, root}

pub record Narrowed (bits r : ℕ) : Type 0 where
  pub is : from_bits binary32 r ≡ convert binary32 (from_bits binary64 bits)
  pub number : r ≤ 0x7f80_0000

pub record Rooted (bits r : ℕ) : Type 0 where
  pub is : from_bits binary32 r ≡ sqrt binary32 (from_bits binary32 bits)
  pub number : r ≤ 0x7f80_0000

-- The whole number nearest to the root of n. There is no tie: the square of a middle, q * q + q and a quarter, is no whole number.
unfoldable pub nearest_root : ℕ → ℕ
unfolding root
nearest_root n = cond (nat_le n (root n * root n + root n)) (root n) (suc (root n))

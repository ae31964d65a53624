-- The rows a to e of the operator in binary64, from the reduced matrix, and what is kept of them, narrowed once: the columns, sample by sample,
-- and the nine shifted overlaps.
use Rattle.std.specs.Prelude.{ℕ, ◌+◌, ◌-◌, ◌*◌, ◌/◌, ◌%◌, Bool, cond, ◌&&◌, List, nat_le, nat_lt, Float}
use Rattle.std.specs.Float.{binary32, binary64}
use Rattle.std.specs.Float.Ieee.{add, mul}
use Rattle.floats.specs.Convert.{convert}
use Rattle.shapes.specs.Lists.{tabulated}
use Rattle.shapes.specs.Numbers.{entry, plus_zero, minus_zero}
use Rattle.shapes.specs.Turns.{turns}
use Rattle.refine_operator.specs.Basis.{side, samples, phi}

-- row c at the sample k: the inverse's row times the basis there; the Rust's sum starts from -0.0
unfoldable pub row_entry : ℕ → List Float → ℕ → ℕ → Float
unfolding turns phi
row_entry radius m c k = turns 6 (λ j a. add binary64 a (mul binary64 (entry m (12 * c + (6 + j))) (phi radius j k))) minus_zero

-- column k has the five entries at k
unfoldable pub columns_of : ℕ → List Float → List Float
unfolding tabulated row_entry
columns_of radius m = tabulated (5 * samples radius) (λ i. convert binary32 (row_entry radius m (i % 5) (i / 5)))

-- ---- shifts by (d % 3 - 1, d / 3 - 1)
-- the column or row i, shifted by s - 1, is one of the square's
abbrev pub stays : ℕ → ℕ → ℕ → Bool
stays radius i s = nat_le 1 (i + s) && nat_lt (i + s - 1) (side radius)

abbrev pub shifted : ℕ → ℕ → ℕ → ℕ
shifted radius d k = (k / side radius + d / 3 - 1) * side radius + (k % side radius + d % 3 - 1)

-- sum over the samples that stay in the square of row r here times row s there
unfoldable pub overlap_entry : ℕ → List Float → ℕ → ℕ → ℕ → Float
unfolding turns row_entry
overlap_entry radius m d r s =
    turns (samples radius)
    (λ k a. cond (stays radius (k % side radius) (d % 3) && stays radius (k / side radius) (d / 3))
    (add binary64 a (mul binary64 (row_entry radius m r k) (row_entry radius m s (shifted radius d k)))) a)
    plus_zero

unfoldable pub overlap_of : ℕ → List Float → List Float
unfolding tabulated overlap_entry
overlap_of radius m = tabulated 225 (λ i. convert binary32 (overlap_entry radius m (i / 25) (i % 25 / 5) (i % 5)))

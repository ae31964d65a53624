-- The quadratic basis x², xy, y², x, y, 1 over the offsets [-radius, radius]², row after row, worked out in binary32 as in the Rust; every value is whole.
use Rattle.std.specs.Prelude.{ℕ, zero, suc, ◌+◌, ◌*◌, ◌/◌, ◌%◌, Float}
use Rattle.std.proofs.Math.IntN.{sub_ℕ}
use Rattle.std.specs.Float.{binary32}
use Rattle.std.specs.Float.Ieee.{of_int, mul}
use Rattle.shapes.specs.Numbers.{one}

abbrev pub side : ℕ → ℕ
side radius = 2 * radius + 1

abbrev pub samples : ℕ → ℕ
samples radius = side radius * side radius

-- the offset of the column or row number i
abbrev pub offset : ℕ → ℕ → Float
offset radius i = of_int binary32 (sub_ℕ i radius)

abbrev pub quadratic_basis : ℕ → Float → Float → Float
quadratic_basis zero x y = mul binary32 x x
quadratic_basis (suc zero) x y = mul binary32 x y
quadratic_basis (suc (suc zero)) x y = mul binary32 y y
quadratic_basis (suc (suc (suc zero))) x y = x
quadratic_basis (suc (suc (suc (suc zero)))) x y = y
quadratic_basis (suc (suc (suc (suc (suc j))))) x y = one

-- the regressor number j at the sample number k
unfoldable pub phi : ℕ → ℕ → ℕ → Float
phi radius j k = quadratic_basis j (offset radius (k % side radius)) (offset radius (k / side radius))

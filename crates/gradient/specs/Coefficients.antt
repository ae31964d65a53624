-- The whole coefficients of the gradient. The response is a sum of magnitudes of thirteen differences of its samples: of four squares, eight edges, and the ring's mean and the
-- cross's. Each counts by its sign, and a zero difference counts as 0. Samples are functions of their number.
use Rattle.std.specs.Prelude.{Bool, true, false, cond, ℕ, ◌+◌, ◌*◌, ◌/◌, ◌%◌, ltb, eqb, ℤ, pos, negsuc, neg_ℤ, ◌+ℤ◌}
use Rattle.pixel_response.specs.Samples.{ring_sum, cross_sum}

-- the sign of a - b: 1, -1 or 0
abbrev pub sign_of : ℕ → ℕ → ℤ
sign_of a b = cond (ltb b a) (pos 1) (cond (ltb a b) (negsuc 0) (pos 0))

-- of quarter q, edge e, and 5 · ring sum - 16 · cross sum
unfoldable pub square_sign : (ℕ → ℕ) → ℕ → ℤ
square_sign s q = sign_of (s q + s (q + 8)) (s (q + 4) + s (q + 12))

unfoldable pub edge_sign : (ℕ → ℕ) → ℕ → ℤ
edge_sign s e = sign_of (s e) (s (e + 8))

unfoldable pub mean_sign : (ℕ → ℕ) → (ℕ → ℕ) → ℤ
unfolding ring_sum cross_sum
mean_sign s c = sign_of (5 * ring_sum s) (16 * cross_sum c)

abbrev pub minus_where : Bool → ℤ → ℤ
minus_where true z = neg_ℤ z
minus_where false z = z

-- the coefficient of ring place k before the mean term: the sign of its square, minus it on the second and fourth of a quarter; minus the sign of its edge on the
-- first end, plus it on the second
unfoldable pub coefficient : (ℕ → ℕ) → ℕ → ℤ
unfolding square_sign edge_sign
coefficient s k = minus_where (eqb (k / 4 % 2) 1) (square_sign s (k % 4)) +ℤ minus_where (ltb k 8) (edge_sign s (k % 8))

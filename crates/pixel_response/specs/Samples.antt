-- The response of sixteen ring samples and the five of the cross (Bennett and Lasenby): exactly, as a whole number of fifths, and as it is written,
-- in binary32 with one rounding an operation. Samples are functions of their number.
use Rattle.std.specs.Prelude.{ℕ, zero, suc, ◌+◌, ◌-◌, ◌*◌, false, pos, Float}
use Rattle.std.specs.Float.{fin, binary32}
use Rattle.std.specs.Float.Ieee.{of_int, sub, mul, div}
use Rattle.floats.specs.Magnitude.{magnitude}

-- f 0 + f 1 + .. + f (n - 1)
unfoldable pub total : ℕ → (ℕ → ℕ) → ℕ
total zero f = 0
total (suc n) f = total n f + f n

-- |a - b|
unfoldable pub apart : ℕ → ℕ → ℕ
apart a b = (a - b) + (b - a)

unfoldable pub square_sum : (ℕ → ℕ) → ℕ
unfolding total apart
square_sum s = total 4 (λ k. apart (s k + s (k + 8)) (s (k + 4) + s (k + 12)))

unfoldable pub edge_sum : (ℕ → ℕ) → ℕ
unfolding total apart
edge_sum s = total 8 (λ k. apart (s k) (s (k + 8)))

unfoldable pub ring_sum : (ℕ → ℕ) → ℕ
unfolding total
ring_sum s = total 16 s

unfoldable pub cross_sum : (ℕ → ℕ) → ℕ
unfolding total
cross_sum c = total 5 c

-- N, five times the exact response, is gain - loss
unfoldable pub gain : (ℕ → ℕ) → ℕ
unfolding square_sum
gain s = 5 * square_sum s

unfoldable pub loss : (ℕ → ℕ) → (ℕ → ℕ) → ℕ
unfolding edge_sum ring_sum cross_sum
loss s c = 5 * edge_sum s + apart (5 * ring_sum s) (16 * cross_sum c)

abbrev pub sixteen : Float
sixteen = fin false 1 (pos 4)

abbrev pub five : Float
five = fin false 5 (pos 0)

-- SR - DR - 16 · |ring sum / 16 - cross sum / 5|, in this order
unfoldable pub value_of : ℕ → ℕ → ℕ → ℕ → Float
value_of sr dr ring cross =
    sub binary32 (sub binary32 (of_int binary32 (pos sr)) (of_int binary32 (pos dr)))
    (mul binary32 sixteen (magnitude (sub binary32 (div binary32 (of_int binary32 (pos ring)) sixteen) (div binary32 (of_int binary32 (pos cross)) five))))

unfoldable pub response_of : (ℕ → ℕ) → (ℕ → ℕ) → Float
unfolding value_of
response_of s c = value_of (square_sum s) (edge_sum s) (ring_sum s) (cross_sum c)

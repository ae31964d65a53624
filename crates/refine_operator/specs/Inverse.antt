-- The inverse of the normal matrix in binary64, by Gauss-Jordan with partial pivoting on the matrix and the identity beside it: six rows of twelve, flat.
-- Of equal pivots the last row wins; a pivot below 1e-9 in magnitude ends it with none.
use Rattle.std.specs.Prelude.{ℕ, zero, suc, ◌+◌, ◌-◌, ◌*◌, ◌/◌, ◌%◌, cond, List, ◌==◌, from_bits, nat_lt, Float}
use Rattle.std.specs.Float.{binary64}
use Rattle.std.specs.Float.Ieee.{add, sub, mul, div, lt}
use Rattle.floats.specs.Magnitude.{magnitude}
use Rattle.floats.specs.TotalOrder.{total_cmp}
use Rattle.std.specs.declared.cmp.Ordering.{Ordering}
use Rattle.std.specs.declared.cmp.Ordering.TheVariants.{Less, Equal, Greater}
use Rattle.shapes.specs.Lists.{tabulated}
use Rattle.shapes.specs.Numbers.{entry, plus_zero, one}
use Rattle.shapes.specs.Turns.{turns}
use Rattle.refine_operator.specs.Basis.{samples, phi}

-- sum over the samples of phi row times phi col
unfoldable pub normal_entry : ℕ → ℕ → ℕ → Float
unfolding turns phi
normal_entry radius row col = turns (samples radius) (λ k a. add binary64 a (mul binary64 (phi radius row k) (phi radius col k))) plus_zero

unfoldable pub normal_matrix : ℕ → List Float
unfolding tabulated normal_entry
normal_matrix radius =
    tabulated 72 (λ i. cond (nat_lt (i % 12) 6) (normal_entry radius (i / 12) (i % 12)) (cond (i % 12 == 6 + i / 12) one plus_zero))

-- ---- one column
-- of the row best so far and the row p: p unless the best is greater
abbrev pub better : List Float → ℕ → ℕ → ℕ → Ordering → ℕ
better m col best p Less = p
better m col best p Equal = p
better m col best p Greater = best

-- the best of best, p, p + 1, .., as many as are left
unfoldable pub pivot_from : ℕ → List Float → ℕ → ℕ → ℕ → ℕ
pivot_from zero m col best p = best
pivot_from (suc left) m col best p = pivot_from left m col (better m col best p (total_cmp (entry m (12 * best + col)) (entry m (12 * p + col)))) (p + 1)

unfoldable pub pivot_of : List Float → ℕ → ℕ
unfolding pivot_from
pivot_of m col = pivot_from (5 - col) m col col (col + 1)

-- the other of two rows, or any other row as it is
abbrev pub exchanged : ℕ → ℕ → ℕ → ℕ
exchanged a b r = cond (r == a) b (cond (r == b) a r)

unfoldable pub swapped : ℕ → ℕ → List Float → List Float
unfolding tabulated
swapped a b m = tabulated 72 (λ i. entry m (12 * exchanged a b (i / 12) + i % 12))

unfoldable pub scaled : ℕ → List Float → List Float
unfolding tabulated
scaled col m = tabulated 72 (λ i. cond (i / 12 == col) (mul binary64 (entry m i) (div binary64 one (entry m (12 * col + col)))) (entry m i))

unfoldable pub cleared : ℕ → List Float → List Float
unfolding tabulated
cleared col m = tabulated 72 (λ i. cond (i / 12 == col) (entry m i) (sub binary64 (entry m i) (mul binary64 (entry m (12 * (i / 12) + col)) (entry m (12 * col + i % 12)))))

-- 1e-9
abbrev pub least_pivot : Float
least_pivot = from_bits binary64 0x3E112E0BE826D695

pub data Reduced : Type 0 where
  singular : Reduced
  reduced : List Float → Reduced

-- the columns that are left, from col on
unfoldable pub reduce_from : ℕ → ℕ → List Float → Reduced
reduce_from zero col m = reduced m
reduce_from (suc left) col m =
    let p = pivot_of m col in
    let r = reduce_from left (col + 1) (cleared col (scaled col (swapped col p m))) in
    cond (lt (magnitude (entry m (12 * p + col))) least_pivot) singular r

unfoldable pub inverse_normal_matrix : ℕ → Reduced
unfolding reduce_from normal_matrix
inverse_normal_matrix radius = reduce_from 6 0 (normal_matrix radius)

-- The covariance of a converged place for unit noise: A K Aᵀ with A = M⁻¹ J, where K sums the operator's shifted overlaps by the products of the window's weights.
-- There is none where an entry is not finite.
use Rattle.std.specs.Prelude.{◌&&◌, cond, List, ℕ, zero, suc, ◌+◌, ◌-◌, ◌*◌, ◌/◌, ◌%◌, eqb, Float, Option, Some, None}
use Rattle.std.specs.Float.Ieee.{eq, neg}
use Rattle.std.specs.Float.Ieee.Scale.{finite}
use Rattle.shapes.specs.Lists.{tabulated}
use Rattle.shapes.specs.Numbers.{plus_zero, one, entry}
use Rattle.shapes.specs.Turns.{turns}
use Rattle.refine_formulas.specs.declared.Jacobian.{Jacobian}
use Rattle.refine_formulas.specs.declared.Matrix.{Matrix}
use Rattle.refine_formulas.specs.declared.Covariance.{Covariance}
use Rattle.refine_formulas.specs.Numbers.{◌⊕◌, ◌⊗◌, ◌⊘◌}
use Rattle.refine_formulas.specs.Between.{weight00, weight10, weight01, weight11}
use Rattle.refine_formulas.specs.Sensitivity.{matrix_det, dot}

-- the weight of the pixel (i, j) of the four, by 2 · j + i
abbrev pub weight : Float → Float → ℕ → Float
weight tx ty zero = weight00 tx ty
weight tx ty (suc zero) = weight10 tx ty
weight tx ty (suc (suc zero)) = weight01 tx ty
weight tx ty (suc (suc (suc k))) = weight11 tx ty

-- the shift from pixel p to pixel q of the four, as 3 · (dy + 1) + dx + 1
abbrev pub shift_of : ℕ → ℕ → ℕ
shift_of p q = 3 * (1 + q / 2 - p / 2) + (1 + q % 2 - p % 2)

-- the sum of the products of the weights of two pixels that are d apart, pairs in order
unfoldable pub pair_weight : Float → Float → ℕ → Float
unfolding turns
pair_weight tx ty d = turns 16 (λ k a. cond (eqb (shift_of (k / 4) (k % 4)) d) (a ⊕ weight tx ty (k / 4) ⊗ weight tx ty (k % 4)) a) plus_zero

-- K, five by five, flat: overlaps whose weight is zero are passed over
unfoldable pub kernel_entry : List Float → Float → Float → ℕ → Float
unfolding pair_weight
kernel_entry overlap tx ty i = turns 9 (λ d a. cond (eq (pair_weight tx ty d) plus_zero) a (a ⊕ pair_weight tx ty d ⊗ entry overlap (25 * d + i))) plus_zero

unfoldable pub kernel : List Float → Float → Float → List Float
unfolding kernel_entry
kernel overlap tx ty = tabulated 25 (kernel_entry overlap tx ty)

-- ---- A, two rows of five
abbrev pub inverse_of : Matrix → Float
inverse_of m = one ⊘ matrix_det m

unfoldable pub gain_first : Jacobian → Matrix → List Float
unfolding tabulated
gain_first j m = tabulated 5 (λ k. (m.m11 ⊗ inverse_of m) ⊗ entry j.first k ⊕ (neg m.m01 ⊗ inverse_of m) ⊗ entry j.second k)

unfoldable pub gain_second : Jacobian → Matrix → List Float
unfolding tabulated
gain_second j m = tabulated 5 (λ k. (neg m.m10 ⊗ inverse_of m) ⊗ entry j.first k ⊕ (m.m00 ⊗ inverse_of m) ⊗ entry j.second k)

-- a row times the kernel: with its columns
unfoldable pub times_kernel : List Float → List Float → List Float
unfolding dot
times_kernel row k = tabulated 5 (λ s. dot row (tabulated 5 (λ r. entry k (5 * r + s))))

abbrev pub known : Float → Float → Float → Option Covariance
known xx xy yy = cond (finite xx && finite xy && finite yy) (Some (record { xx = xx; xy = xy; yy = yy })) None

unfoldable pub covariance_of : List Float → Float → Float → Jacobian → Matrix → Option Covariance
unfolding kernel times_kernel gain_first gain_second
covariance_of overlap tx ty j m =
    let k = kernel overlap tx ty in
    let a = gain_first j m in
    let b = gain_second j m in
    known (dot (times_kernel a k) a) (dot (times_kernel a k) b) (dot (times_kernel b k) b)

-- How the saddle moves with the window: the slope of the coefficients along each axis, the Jacobian of the saddle, their product, and the Newton step.
use Rattle.std.specs.Prelude.{Bool, ◌&&◌, not, cond, List, [], ◌∷◌, Float}
use Rattle.std.specs.Float.{binary32}
use Rattle.std.specs.Float.Ieee.{of_bits, lt, eq, neg}
use Rattle.std.specs.Float.Ieee.Scale.{finite}
use Rattle.shapes.specs.Lists.{tabulated}
use Rattle.shapes.specs.Numbers.{plus_zero, minus_zero, one, entry}
use Rattle.shapes.specs.Turns.{turns}
use Rattle.refine_formulas.specs.declared.PatchSaddle.{PatchSaddle}
use Rattle.refine_formulas.specs.declared.Corners.{Corners}
use Rattle.refine_formulas.specs.declared.Slope.{Slope}
use Rattle.refine_formulas.specs.declared.Jacobian.{Jacobian}
use Rattle.refine_formulas.specs.declared.Matrix.{Matrix}
use Rattle.refine_formulas.specs.declared.Move.{Move}
use Rattle.refine_formulas.specs.Numbers.{◌⊕◌, ◌⊖◌, ◌⊗◌, ◌⊘◌, two}

-- within four fits
unfoldable pub slope_within : Corners → Float → Float → Slope
unfolding tabulated
slope_within c tx ty = record {
  x = tabulated 5 (λ k. (one ⊖ ty) ⊗ (entry c.c10 k ⊖ entry c.c00 k) ⊕ ty ⊗ (entry c.c11 k ⊖ entry c.c01 k));
  y = tabulated 5 (λ k. (one ⊖ tx) ⊗ (entry c.c01 k ⊖ entry c.c00 k) ⊕ tx ⊗ (entry c.c11 k ⊖ entry c.c10 k));
}

-- ---- from one fit to the next
abbrev pub difference : List Float → List Float → List Float
difference high low = tabulated 5 (λ k. plus_zero ⊕ one ⊗ (entry high k ⊖ entry low k))

-- ---- the Jacobian of the saddle by the coefficients, two rows of five
abbrev pub row_x : PatchSaddle → List Float
row_x f = (two ⊗ f.ux) ∷ f.uy ∷ plus_zero ∷ one ∷ plus_zero ∷ []

abbrev pub row_y : PatchSaddle → List Float
row_y f = plus_zero ∷ f.ux ∷ (two ⊗ f.uy) ∷ plus_zero ∷ one ∷ []

-- minus the inverse of the Hessian
abbrev pub inverse_det : PatchSaddle → Float
inverse_det f = one ⊘ f.det_h

abbrev pub h00 : PatchSaddle → Float
h00 f = neg two ⊗ f.c ⊗ inverse_det f

abbrev pub h01 : PatchSaddle → Float
h01 f = f.b ⊗ inverse_det f

abbrev pub h11 : PatchSaddle → Float
h11 f = neg two ⊗ f.a ⊗ inverse_det f

unfoldable pub saddle_jacobian : PatchSaddle → Jacobian
unfolding tabulated
saddle_jacobian f = record {
  first = tabulated 5 (λ k. h00 f ⊗ entry (row_x f) k ⊕ h01 f ⊗ entry (row_y f) k);
  second = tabulated 5 (λ k. h01 f ⊗ entry (row_x f) k ⊕ h11 f ⊗ entry (row_y f) k);
}

-- a sum of five products, from -0.0 as the Rust's `sum` starts
unfoldable pub dot : List Float → List Float → Float
unfolding turns
dot l r = turns 5 (λ k a. a ⊕ entry l k ⊗ entry r k) minus_zero

-- the window sensitivity M, two by two
unfoldable pub sensitivity : Jacobian → Slope → Matrix
unfolding dot
sensitivity j s = record { m00 = dot j.first s.x; m01 = dot j.first s.y; m10 = dot j.second s.x; m11 = dot j.second s.y }

abbrev pub matrix_det : Matrix → Float
matrix_det m = m.m00 ⊗ m.m11 ⊖ m.m01 ⊗ m.m10

-- the determinant of the window sensitivity is finite and not zero
abbrev pub regular : Matrix → Bool
regular m = finite (matrix_det m) && not (eq (matrix_det m) plus_zero)

-- ---- the step toward the window in which the saddle lies at the centre
-- 0.05
abbrev pub least_gain : Float
least_gain = of_bits binary32 0x3D4CCCCD

-- of the gain G = -M where it is clearly positive, else the plain step u
unfoldable pub newton_step : Matrix → PatchSaddle → Move
newton_step m f =
    let g00 = neg m.m00 in
    let g01 = neg m.m01 in
    let g10 = neg m.m10 in
    let g11 = neg m.m11 in
    let det = g00 ⊗ g11 ⊖ g01 ⊗ g10 in
    cond (lt least_gain det && lt plus_zero (g00 ⊕ g11))
    (record { x = (g11 ⊗ f.ux ⊖ g01 ⊗ f.uy) ⊘ det; y = (g00 ⊗ f.uy ⊖ g10 ⊗ f.ux) ⊘ det })
    (record { x = f.ux; y = f.uy })

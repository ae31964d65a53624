-- A window between pixels: the pixel below and before it, how far on it lies, and the four fits about it.
use Rattle.std.specs.Prelude.{List, ℕ, ℤ, pos, ◌+ℤ◌, Float}
use Rattle.std.specs.Float.{binary32}
use Rattle.std.specs.Float.Ieee.{to_signed}
use Rattle.floats.specs.Whole.{floor}
use Rattle.imageview.specs.Image.{Image}
use Rattle.refine_formulas.specs.declared.Corners.{Corners}
use Rattle.refine_formulas.specs.Numbers.{◌⊖◌}
use Rattle.refine_fits.specs.Fit.{Fit, no_fit, fitted, fit_at}

-- the place of a window: the base in whole pixels, which need not fit 32 bits, and the fractions
pub record WindowPlace : Type 0 where
  pub base_x : ℤ
  pub base_y : ℤ
  pub tx : Float
  pub ty : Float

-- the base along an axis, from the centre and the offset, and the fraction
abbrev pub base_of : ℤ → Float → ℤ
base_of centre offset = centre +ℤ to_signed 31 (floor binary32 offset)

abbrev pub fraction_of : Float → Float
fraction_of offset = offset ⊖ floor binary32 offset

unfoldable pub window_place : ℤ → ℤ → Float → Float → WindowPlace
unfolding floor
window_place cx cy ox oy = record { base_x = base_of cx ox; base_y = base_of cy oy; tx = fraction_of ox; ty = fraction_of oy }

-- the four fits about a base: here, right, below, below right
pub data Fits : Type 0 where
  lacking : Fits
  four : Corners → Fits

abbrev pub fits4 : Fit → Fit → Fit → Fit → Fits
fits4 (fitted a) (fitted b) (fitted c) (fitted d) = four (record { c00 = a; c10 = b; c01 = c; c11 = d })
fits4 (fitted a) (fitted b) (fitted c) no_fit = lacking
fits4 (fitted a) (fitted b) no_fit d = lacking
fits4 (fitted a) no_fit c d = lacking
fits4 no_fit b c d = lacking

unfoldable pub corners_at : Image → List Float → ℕ → ℤ → ℤ → Fits
unfolding fit_at
corners_at img columns radius x y =
    fits4 (fit_at img columns radius x y) (fit_at img columns radius (x +ℤ pos 1) y) (fit_at img columns radius x (y +ℤ pos 1)) (fit_at img columns radius (x +ℤ pos 1) (y +ℤ pos 1))

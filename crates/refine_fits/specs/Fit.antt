-- The fit on the patch about a pixel: the operator's columns times the samples less the centre's, summed sample by sample from +0.0.
-- There is none where the patch leaves the image.
use Rattle.std.specs.Prelude.{cond, List, ℕ, ◌+◌, ◌-◌, ◌*◌, ◌/◌, ◌%◌, ℤ, pos, negsuc, Float}
use Rattle.std.specs.Float.{binary32}
use Rattle.std.specs.Float.Ieee.{of_int}
use Rattle.shapes.specs.Lists.{tabulated}
use Rattle.shapes.specs.Numbers.{plus_zero, entry}
use Rattle.shapes.specs.Turns.{turns}
use Rattle.imageview.specs.Image.{Image, pixel}
use Rattle.imageview.specs.Patch.{supports_patch}
use Rattle.refine_operator.specs.Basis.{side, samples}
use Rattle.refine_formulas.specs.Numbers.{◌⊕◌, ◌⊖◌, ◌⊗◌}

-- the sample k of the patch about (x, y), as a float; the patch lies in the image, so that x and y are at least the radius
unfoldable pub sample_of : Image → ℕ → ℕ → ℕ → ℕ → Float
unfolding pixel
sample_of img radius x y k = of_int binary32 (pos (pixel img (x - radius + k % side radius) (y - radius + k / side radius)))

unfoldable pub coefficient : Image → List Float → ℕ → ℕ → ℕ → ℕ → Float
unfolding turns sample_of
coefficient img columns radius x y i =
    turns (samples radius) (λ k a. a ⊕ entry columns (5 * k + i) ⊗ (sample_of img radius x y k ⊖ sample_of img radius x y (samples radius / 2))) plus_zero

-- the coefficients a, b, c, d, e
unfoldable pub coefficients : Image → List Float → ℕ → ℕ → ℕ → List Float
unfolding tabulated coefficient
coefficients img columns radius x y = tabulated 5 (coefficient img columns radius x y)

pub data Fit : Type 0 where
  no_fit : Fit
  fitted : List Float → Fit

abbrev pub fit_within : Image → List Float → ℕ → ℤ → ℤ → Fit
fit_within img columns radius (pos x) (pos y) = fitted (coefficients img columns radius x y)
fit_within img columns radius (pos x) (negsuc y) = no_fit
fit_within img columns radius (negsuc x) y = no_fit

unfoldable pub fit_at : Image → List Float → ℕ → ℤ → ℤ → Fit
unfolding supports_patch coefficients
fit_at img columns radius x y = cond (supports_patch img radius x y) (fit_within img columns radius x y) no_fit

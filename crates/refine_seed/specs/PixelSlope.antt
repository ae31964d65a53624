-- How the fit changes with the window at a pixel: the difference to the next fit, or from the one before where the next leaves the image.
use Rattle.std.specs.Prelude.{List, ℕ, ℤ, pos, negsuc, ◌+ℤ◌, Float, Option, Some, None}
use Rattle.imageview.specs.Image.{Image}
use Rattle.refine_formulas.specs.declared.Slope.{Slope}
use Rattle.refine_formulas.specs.Sensitivity.{difference}
use Rattle.refine_fits.specs.Fit.{Fit, no_fit, fitted, fit_at}

-- along an axis: the fit here, the next one and the one before
abbrev pub along : Fit → Fit → Fit → Option (List Float)
along (fitted here) (fitted next) before = Some (difference next here)
along (fitted here) no_fit (fitted before) = Some (difference here before)
along (fitted here) no_fit no_fit = None
along no_fit next before = None

abbrev pub both : Option (List Float) → Option (List Float) → Option Slope
both (Some x) (Some y) = Some (record { x = x; y = y })
both (Some x) None = None
both None y = None

unfoldable pub slope_at : Image → List Float → ℕ → ℤ → ℤ → Option Slope
unfolding fit_at
slope_at img columns radius x y =
    both (along (fit_at img columns radius x y) (fit_at img columns radius (x +ℤ pos 1) y) (fit_at img columns radius (x +ℤ negsuc 0) y))
    (along (fit_at img columns radius x y) (fit_at img columns radius x (y +ℤ pos 1)) (fit_at img columns radius x (y +ℤ negsuc 0)))

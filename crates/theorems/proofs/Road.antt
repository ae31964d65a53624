-- From an image to the peaks of its response: where the exact response of a pixel inside the border is above zero and above that of every other pixel of its
-- window, the pixel is a peak at threshold 0, if enough of the window is positive. It rests on demand 3, which the call's contract gives.
use mathlib.Core.Path.{sym, ◌∙◌}
use lib.Ieee.{lt}
use Rattle.shapes.specs.Numbers.{plus_zero}
use Rattle.peaks.specs.Peak.{value_at}
use Rattle.peaks.proofs.PeakLaws.{peak-by}
use Rattle.theorems.specs.Claims.{scan_at, StrongestIsPeak}
use Rattle.theorems.proofs.PixelLaws.{stands_at, framed, framed-clear, beats-exceeded, highest-by}

pub strongest-is-peak : StrongestIsPeak
unfolding lt value_at
strongest-is-peak P img ring radius values window refine cluster d size x y here most p c =
    let s = scan_at img radius values window refine cluster in
    sym (peak-by s x y here ((stands_at img radius values window refine plus_zero cluster size (framed-clear (framed s x y here)) d).above p)
    (highest-by s x y (λ j h n. beats-exceeded window refine cluster plus_zero d size x y here j h (most j h n)))) ∙ c

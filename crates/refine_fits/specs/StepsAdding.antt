-- The five sums of a fit while samples are added, and what a fit asks of the patch.
use Rattle.std.specs.Prelude.{Bool, ◌&&◌, List, ℕ, zero, suc, ◌+◌, ◌*◌, ◌/◌, ◌≤◌, ◌<◌, leb, ltb, pos, get_or, Float}
use Rattle.std.specs.Float.{binary32}
use Rattle.std.specs.Float.Ieee.{of_int}
use Rattle.shapes.specs.Numbers.{plus_zero, entry}
use Rattle.shapes.specs.Turns.{turns}
use Rattle.imageview.specs.Image.{Image}
use Rattle.imageview.specs.Steps.{Tested}
use Rattle.refine_operator.specs.Basis.{samples}
use Rattle.refine_fits.specs.declared.Sums.{Sums}
use Rattle.refine_formulas.specs.Numbers.{◌⊕◌, ◌⊖◌, ◌⊗◌}
use Rattle.refine_fits.specs.Fit.{sample_of}

-- with the sample k, which is z above the centre's
abbrev pub added : List Float → ℕ → Float → Sums → Sums
added columns k z s = record {
  a = s.a ⊕ entry columns (5 * k) ⊗ z;
  b = s.b ⊕ entry columns (5 * k + 1) ⊗ z;
  c = s.c ⊕ entry columns (5 * k + 2) ⊗ z;
  d = s.d ⊕ entry columns (5 * k + 3) ⊗ z;
  e = s.e ⊕ entry columns (5 * k + 4) ⊗ z;
}

-- with n samples of a row whose first is the sample from
unfoldable pub row_added : List Float → List ℕ → Float → ℕ → ℕ → Sums → Sums
row_added columns row centre from zero s = s
row_added columns row centre from (suc n) s = added columns (from + n) (of_int binary32 (pos (get_or row n 0)) ⊖ centre) (row_added columns row centre from n s)

-- what the sample k adds to the coefficient i
abbrev pub term : Image → List Float → ℕ → ℕ → ℕ → ℕ → ℕ → Float → Float
term img columns radius x y i k a = a ⊕ entry columns (5 * k + i) ⊗ (sample_of img radius x y k ⊖ sample_of img radius x y (samples radius / 2))

-- those of the patch's first n samples
abbrev pub sums_of : Image → List Float → ℕ → ℕ → ℕ → ℕ → Sums
sums_of img columns radius x y n = record {
  a = turns n (term img columns radius x y 0) plus_zero;
  b = turns n (term img columns radius x y 1) plus_zero;
  c = turns n (term img columns radius x y 2) plus_zero;
  d = turns n (term img columns radius x y 3) plus_zero;
  e = turns n (term img columns radius x y 4) plus_zero;
}

-- an image and a radius that passed the tests
pub record Sound (img : Image) (radius : ℕ) : Type 0 where
  pub image : Tested img
  pub small : radius ≤ 7

-- the patch about a pixel lies in the image
pub record PatchWithin (img : Image) (radius x y : ℕ) : Type 0 where
  pub sound : Sound img radius
  pub left : radius ≤ x
  pub right : x + radius < img.width
  pub above : radius ≤ y
  pub below : y + radius < img.height

-- the test of the patches about a base: here, right, below, and below right
abbrev pub has_room : ℕ → ℕ → ℕ → ℕ → ℕ → Bool
has_room radius x y width height = leb radius x && ltb (x + 1 + radius) width && leb radius y && ltb (y + 1 + radius) height

-- all four lie in the image
pub record FourWithin (img : Image) (radius x y : ℕ) : Type 0 where
  pub sound : Sound img radius
  pub left : radius ≤ x
  pub right : x + 1 + radius < img.width
  pub above : radius ≤ y
  pub below : y + 1 + radius < img.height

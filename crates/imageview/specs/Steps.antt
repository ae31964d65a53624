-- What the steps below a call may lean on once the image has passed its test, and the test of its samples by rows.
use Rattle.std.specs.Prelude.{◌≡◌, Bool, true, List, ℕ, ◌+◌, ◌*◌, ◌≤◌, ◌<◌, leb, length, get_or}
use Rattle.shapes.specs.Tests.{every}
use Rattle.imageview.specs.Image.{Image, pixel, is_image, in_range, most, most_pitch, most_sample}

-- sizes that passed their test
pub record Sized (width height : ℕ) : Type 0 where
  pub wide : 1 ≤ width
  pub width-most : width ≤ most
  pub high : 1 ≤ height
  pub height-most : height ≤ most

pub record Tested (img : Image) : Type 0 where
  pub sized : Sized img.width img.height
  pub holds : img.width ≤ img.pitch
  pub pitch-most : img.pitch ≤ most_pitch
  pub count : length img.samples ≡ img.pitch * img.height

-- ---- which rows of samples are not above the greatest
abbrev pub rows_low : List ℕ → ℕ → ℕ → ℕ → Bool
rows_low l width pitch height = every height (λ y. every width (λ x. leb (get_or l (y * pitch + x) 0) most_sample))

-- ---- an image whose tests passed
-- that of its sizes and the count of its samples, and what the steps below a call lean on
pub record IsMeasured (img : Image) : Type 0 where
  pub image : is_image img ≡ true
  pub stands : Tested img

-- no pixel is above the greatest sample, of bytes neither
abbrev pub LowPixels : Image → Type 0
LowPixels img = (x y : ℕ) → x < img.width → y < img.height → pixel img x y ≤ most_sample

-- that, and the test of its samples
pub record IsTested (img : Image) : Type 0 where
  pub image : is_image img ≡ true
  pub range : in_range img ≡ true
  pub stands : Tested img
  pub low : LowPixels img

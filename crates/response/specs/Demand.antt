-- Demand 3 of an image's samples and the elements of a buffer: what is said of one pixel's samples (`Near`) holds of every element whose ring fits.
use Rattle.std.specs.Prelude.{◌≡◌, true, List, ℕ, ◌+◌, ◌*◌, ◌/◌, ◌%◌, ◌<◌, T, ℤ, length, get_or, Float, Result}
use Rattle.std.specs.Float.Ieee.{lt}
use Rattle.shapes.specs.Numbers.{plus_zero}
use Rattle.imageview.specs.Image.{Image, pixel}
use Rattle.pixel_response.specs.Samples.{gain, loss}
use Rattle.pixel_response.specs.Near.{Near}
use Rattle.refusals.specs.declared.Refusal.{Refusal}
use Rattle.response.specs.declared.Extent.{Extent}
use Rattle.response.specs.Call.{wrote, way_of, Done}
use Rattle.response.specs.Region.{Region, width_of, height_of, ring_fits, ring_sample, cross_sample}

-- no pixel is at the limit P or above; the pixels of bytes are below 256, those of a deep image that is not refused below 4096
abbrev pub PixelsBelow : ℕ → Image → Type 0
PixelsBelow P img = (x y : ℕ) → x < img.width → y < img.height → pixel img x y < P

-- the pixel of the element number i of a region, and what it has
abbrev pub column_at : Region → ℕ → ℕ
column_at r i = r.x0 + i % width_of r

abbrev pub row_at : Region → ℕ → ℕ
row_at r i = r.y0 + i / width_of r

abbrev pub fits_at : Image → ℕ → Region → ℕ → Type 0
fits_at img radius r i = (i < width_of r * height_of r) × T (ring_fits img radius (column_at r i) (row_at r i))

abbrev pub gain_at : Image → List ℤ → Region → ℕ → ℕ
gain_at img ring r i = gain (ring_sample img ring (column_at r i) (row_at r i))

abbrev pub loss_at : Image → List ℤ → Region → ℕ → ℕ
loss_at img ring r i = loss (ring_sample img ring (column_at r i) (row_at r i)) (cross_sample img (column_at r i) (row_at r i))

-- Demand 3 of a buffer: every element whose ring fits stands for its pixel's N, and of two the one with the larger N is the larger.
pub record DemandThree (P : ℕ) (img : Image) (ring : List ℤ) (radius : ℕ) (r : Region) (out : List Float) : Type 0 where
  pub stands : (i : ℕ) → fits_at img radius r i → Near P (get_or out i plus_zero) (gain_at img ring r i) (loss_at img ring r i)
  pub orders : (i j : ℕ) → fits_at img radius r i → fits_at img radius r j
      → gain_at img ring r i + loss_at img ring r j < gain_at img ring r j + loss_at img ring r i → lt (get_or out i plus_zero) (get_or out j plus_zero) ≡ true

-- ---- claims, proved in proofs/DemandThree.antt: of every call that wrote the region c
-- the written values of bytes are within 1/2048 of N / 5 (40 · 256 fifths of 2 ^ -22)
abbrev pub BytesKeep : Type 0
BytesKeep =
    (img : Image) (ring : List ℤ) (radius : ℕ) (r c : Region) (out : List Float) (answer : Result Extent Refusal) (out' : List Float)
    → PixelsBelow 256 img → Done img ring radius r out answer out' → way_of img ring radius r (length out) ≡ wrote c → DemandThree 256 img ring radius c out'

-- those of twelve bits within 1/128 (40 · 4096 of them)
abbrev pub DeepKeep : Type 0
DeepKeep =
    (img : Image) (ring : List ℤ) (radius : ℕ) (r c : Region) (out : List Float) (answer : Result Extent Refusal) (out' : List Float)
    → img.deep ≡ true → Done img ring radius r out answer out' → way_of img ring radius r (length out) ≡ wrote c → DemandThree 4096 img ring radius c out'

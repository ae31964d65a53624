-- A board printed inverted, white on black, and a pixel whose 21 samples are all moved by one number: N is the same, the written values have the same sign,
-- and they differ by at most 1/1024 for bytes and 1/64 for twelve bits. That their bits are the same is not claimed. The proofs are in proofs/Inverted.antt.
use Rattle.std.specs.Prelude.{◌≡◌, Bool, true, false, List, ℕ, ◌+◌, ◌-◌, ◌*◌, ◌^◌, ◌≤◌, ◌<◌, ℤ, length, get_or, Float, Result}
use Rattle.std.specs.Float.Ieee.{lt}
use Rattle.std.specs.Float.Ieee.Exact.{HasValue}
use Rattle.shapes.specs.Numbers.{plus_zero}
use Rattle.imageview.specs.Image.{Image, pixel}
use Rattle.refusals.specs.declared.Refusal.{Refusal}
use Rattle.response.specs.declared.Extent.{Extent}
use Rattle.response.specs.Region.{Region, ring_sample, cross_sample}
use Rattle.response.specs.Call.{wrote, way_of, Done}
use Rattle.response.specs.Demand.{PixelsBelow, column_at, row_at, fits_at, gain_at, loss_at}

-- ---- two written values
-- ±a and ±b, with the signs s and t (true: negative), differ by at most d
abbrev pub DifferBy : ℕ → Bool → ℕ → Bool → ℕ → Type 0
DifferBy d false a false b = (a ≤ b + d) × (b ≤ a + d)
DifferBy d true a true b = (a ≤ b + d) × (b ≤ a + d)
DifferBy d false a true b = a + b ≤ d
DifferBy d true a false b = a + b ≤ d

-- of one sign, and at most 16 · P units of 2 ^ -22 apart, for samples below P: 1/1024 for bytes, 1/64 for twelve bits
pub record Alike (P : ℕ) (v w : Float) : Type 0 where
  pub above : lt plus_zero v ≡ lt plus_zero w
  pub below : lt v plus_zero ≡ lt w plus_zero
  pub negative : Bool
  pub units : ℕ
  pub size : HasValue v negative units (2 ^ 22)
  pub negative' : Bool
  pub units' : ℕ
  pub size' : HasValue w negative' units' (2 ^ 22)
  pub close : DifferBy (16 * P) negative units negative' units'

-- N of the element i is the same in both images, and what is written for it is alike
pub record SameThere (P : ℕ) (a b : Image) (ring : List ℤ) (c : Region) (i : ℕ) (v w : Float) : Type 0 where
  pub same : gain_at a ring c i + loss_at b ring c i ≡ gain_at b ring c i + loss_at a ring c i
  pub alike : Alike P v w

-- ---- two images of one size of which the second shows m - p where the first shows p
pub record Inverts (m : ℕ) (a b : Image) : Type 0 where
  pub width : a.width ≡ b.width
  pub height : a.height ≡ b.height
  pub inverts : (x y : ℕ) → x < a.width → y < a.height → pixel b x y ≡ m - pixel a x y

-- two calls that wrote the same region c, with buffers that may have held anything
pub record BothWrote (a b : Image) (ring : List ℤ) (radius : ℕ) (c : Region) (out out' : List Float) : Type 0 where
  pub region : Region
  pub old : List Float
  pub answer : Result Extent Refusal
  pub done : Done a ring radius region old answer out
  pub way : way_of a ring radius region (length old) ≡ wrote c
  pub old' : List Float
  pub answer' : Result Extent Refusal
  pub done' : Done b ring radius region old' answer' out'
  pub way' : way_of b ring radius region (length old') ≡ wrote c

-- at every pixel whose ring fits, for samples of at most m
abbrev pub InvertedAlike : ℕ → Type 0
InvertedAlike m =
    (a b : Image) → Inverts m a b → PixelsBelow (m + 1) a → PixelsBelow (m + 1) b
    → (ring : List ℤ) (radius : ℕ) (c : Region) (out out' : List Float) → BothWrote a b ring radius c out out'
    → (i : ℕ) → fits_at a radius c i → SameThere (m + 1) a b ring c i (get_or out i plus_zero) (get_or out' i plus_zero)

-- the instances: bytes, and words of twelve bits
abbrev pub InvertedBytes : Type 0
InvertedBytes = InvertedAlike 255

abbrev pub InvertedDeep : Type 0
InvertedDeep = InvertedAlike 4095

-- ---- the 21 samples of one pixel, all moved by one number, up - down; the pixels of both images are below P, so none leaves that range
pub record Moves (up down : ℕ) (a b : Image) (ring : List ℤ) (x y : ℕ) : Type 0 where
  pub ring-by : (k : ℕ) → k < 16 → ring_sample b ring x y k + down ≡ ring_sample a ring x y k + up
  pub cross-by : (k : ℕ) → k < 5 → cross_sample b x y k + down ≡ cross_sample a x y k + up

abbrev pub MovedAlike : ℕ → Type 0
MovedAlike P =
    (a b : Image) → a.width ≡ b.width → a.height ≡ b.height → PixelsBelow P a → PixelsBelow P b
    → (ring : List ℤ) (radius : ℕ) (c : Region) (out out' : List Float) → BothWrote a b ring radius c out out'
    → (up down i : ℕ) → fits_at a radius c i → Moves up down a b ring (column_at c i) (row_at c i) → SameThere P a b ring c i (get_or out i plus_zero) (get_or out' i plus_zero)

abbrev pub MovedBytes : Type 0
MovedBytes = MovedAlike 256

abbrev pub MovedDeep : Type 0
MovedDeep = MovedAlike 4096

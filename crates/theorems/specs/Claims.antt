-- From an image to the peaks of its response: a pixel inside the border whose exact response is above zero and above that of every other pixel of its
-- window is a peak at threshold 0, if enough of the window is positive. And a corner halfway between two pixels: where the exact responses of both, equal or not, are
-- above that of every other pixel of either window, exactly one of them is a peak. Both hold whatever the limit P of the samples for which the buffer keeps demand 3.
-- The proofs are in proofs/Road.antt and proofs/Halfway.antt.
use Rattle.std.specs.Prelude.{◌≡◌, Bool, true, false, List, ℕ, ◌+◌, ◌-◌, ◌*◌, ◌/◌, ◌%◌, ◌≤◌, ◌<◌, leb, ℤ, length, Float}
use Rattle.std.specs.Float.Ieee.{lt}
use Rattle.shapes.specs.Numbers.{plus_zero}
use Rattle.imageview.specs.Image.{Image}
use Rattle.pixel_response.specs.Samples.{gain, loss}
use Rattle.response.specs.Region.{Region, ring_sample, cross_sample}
use Rattle.response.specs.Demand.{DemandThree}
use Rattle.peaks.specs.Peak.{Scan, value_at, floor_of, inside, side, cells, middle, positives, is_peak}

-- the whole image
abbrev pub whole : Image → Region
whole img = record { x0 = 0; y0 = 0; x1 = img.width; y1 = img.height }

-- N of the pixel (x, y) is above zero, and above that of (a, b)
abbrev pub Positive : Image → List ℤ → ℕ → ℕ → Type 0
Positive img ring x y = loss (ring_sample img ring x y) (cross_sample img x y) < gain (ring_sample img ring x y)

abbrev pub Exceeds : Image → List ℤ → ℕ → ℕ → ℕ → ℕ → Type 0
Exceeds img ring x y a b = gain (ring_sample img ring a b) + loss (ring_sample img ring x y) (cross_sample img x y) < gain (ring_sample img ring x y) + loss (ring_sample img ring a b) (cross_sample img a b)

-- a scan of the image's response, and one at threshold 0
abbrev pub scan_above : Float → Image → ℕ → List Float → ℕ → ℕ → ℕ → Scan
scan_above threshold img radius values window refine cluster =
    record { values = values; width = img.width; height = img.height; ring = radius; window = window; refine = refine; threshold = threshold; cluster = cluster }

abbrev pub scan_at : Image → ℕ → List Float → ℕ → ℕ → ℕ → Scan
scan_at = scan_above plus_zero

abbrev pub StrongestIsPeak : Type 0
StrongestIsPeak =
    (P : ℕ) (img : Image) (ring : List ℤ) (radius : ℕ) (values : List Float) (window refine cluster : ℕ)
    → DemandThree P img ring radius (whole img) values
    → length values ≡ img.height * img.width
    → let scan = scan_at img radius values window refine cluster in
    (x y : ℕ) → inside scan x y ≡ true
    → ((j : ℕ) → j < cells scan → (j ≡ middle scan → ⊥) → Exceeds img ring x y (x + j % side scan - window) (y + j / side scan - window))
    → Positive img ring x y
    → leb cluster (positives scan x y) ≡ true
    → is_peak scan x y ≡ true

-- ---- halfway between two pixels
-- (a, b) is another pixel than (x, y)
abbrev pub Other : ℕ → ℕ → ℕ → ℕ → Type 0
Other x y a b = (x ≡ a) × (y ≡ b) → ⊥

-- (a, b) lies in the window of (x, y), and so (x, y) in that of (a, b)
abbrev pub InWindow : ℕ → ℕ → ℕ → ℕ → ℕ → Type 0
InWindow window x y a b = (x ≤ a + window) × (a ≤ x + window) × (y ≤ b + window) × (b ≤ y + window)

-- N of (x, y) is above that of every pixel of its window but itself and (a, b)
abbrev pub AboveOthers : Image → List ℤ → ℕ → ℕ → ℕ → ℕ → ℕ → Type 0
AboveOthers img ring window x y a b = (p q : ℕ) → InWindow window x y p q → Other x y p q → Other a b p q → Exceeds img ring x y p q

pub data ExactlyOne (p q : Bool) : Type 0 where
  first : p ≡ true → q ≡ false → ExactlyOne p q
  second : p ≡ false → q ≡ true → ExactlyOne p q

abbrev pub HalfwayIsOne : Type 0
HalfwayIsOne =
    (P : ℕ) (img : Image) (ring : List ℤ) (radius : ℕ) (values : List Float) (window refine cluster : ℕ) (threshold : Float)
    → DemandThree P img ring radius (whole img) values
    → length values ≡ img.height * img.width
    → let scan = scan_above threshold img radius values window refine cluster in
    (x y a b : ℕ) → inside scan x y ≡ true → inside scan a b ≡ true → Other x y a b → InWindow window x y a b
    → AboveOthers img ring window x y a b → AboveOthers img ring window a b x y
    → lt (floor_of scan) (value_at scan x y) ≡ true → lt (floor_of scan) (value_at scan a b) ≡ true
    → leb cluster (positives scan x y) ≡ true → leb cluster (positives scan a b) ≡ true
    → ExactlyOne (is_peak scan x y) (is_peak scan a b)

-- and where their written values are one, it is the earlier of the two in row order
abbrev pub HalfwayIsFirst : Type 0
HalfwayIsFirst =
    (s : Scan) (x y a b : ℕ) → is_peak s a b ≡ true → InWindow s.window x y a b → Other x y a b
    → value_at s x y ≡ value_at s a b → b * s.width + a < y * s.width + x

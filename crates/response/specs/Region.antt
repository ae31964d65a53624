-- The response at a pixel of an image and over a region. A ring is sixteen pairs (dx, dy), flat; the cross is the pixel and its four neighbours.
use Rattle.std.specs.Prelude.{Bool, ◌&&◌, ◌||◌, true, cond, List, [], ◌∷◌, ℕ, zero, suc, ◌+◌, ◌-◌, ◌*◌, ◌/◌, ◌%◌, min, leb, ltb, ℤ, pos, negsuc, nat_abs, get_or, Float}
use Rattle.shapes.specs.Lists.{tabulated}
use Rattle.shapes.specs.Numbers.{plus_zero}
use Rattle.imageview.specs.Image.{Image, pixel}
use Rattle.pixel_response.specs.Samples.{response_of}

-- a coordinate moved by a component; it stays at 0 or above where the ring fits, and is asked nowhere else
abbrev pub moved : ℕ → ℤ → ℕ
moved x (pos n) = x + n
moved x (negsuc n) = x - suc n

unfoldable pub ring_sample : Image → List ℤ → ℕ → ℕ → ℕ → ℕ
unfolding pixel
ring_sample img ring x y k = pixel img (moved x (get_or ring (2 * k) (pos 0))) (moved y (get_or ring (2 * k + 1) (pos 0)))

-- the pixel, above, below, right, left; all five lie in the image where the ring fits
unfoldable pub cross_sample : Image → ℕ → ℕ → ℕ → ℕ
unfolding pixel
cross_sample img x y zero = pixel img x y
cross_sample img x y (suc zero) = pixel img x (y - 1)
cross_sample img x y (suc (suc zero)) = pixel img x (y + 1)
cross_sample img x y (suc (suc (suc zero))) = pixel img (x + 1) y
cross_sample img x y (suc (suc (suc (suc k)))) = pixel img (x - 1) y

-- at least the ring radius of pixels on all four sides
unfoldable pub ring_fits : Image → ℕ → ℕ → ℕ → Bool
ring_fits img radius x y = leb radius x && ltb (x + radius) img.width && leb radius y && ltb (y + radius) img.height

-- what is written for a pixel: the response where the ring fits, +0.0 elsewhere
unfoldable pub written_at : Image → List ℤ → ℕ → ℕ → ℕ → Float
unfolding ring_fits
written_at img ring radius x y = cond (ring_fits img radius x y) (response_of (ring_sample img ring x y) (cross_sample img x y)) plus_zero

-- ---- a region from (x0, y0) up to but without (x1, y1)
pub record Region : Type 0 where
  pub x0 : ℕ
  pub y0 : ℕ
  pub x1 : ℕ
  pub y1 : ℕ

abbrev pub clamped : Image → Region → Region
clamped img r = record { x0 = min r.x0 img.width; y0 = min r.y0 img.height; x1 = min r.x1 img.width; y1 = min r.y1 img.height }

-- one that is empty either way has neither width nor height
abbrev pub is_empty : Region → Bool
is_empty r = leb r.x1 r.x0 || leb r.y1 r.y0

abbrev pub width_of : Region → ℕ
width_of r = cond (is_empty r) 0 (r.x1 - r.x0)

abbrev pub height_of : Region → ℕ
height_of r = cond (is_empty r) 0 (r.y1 - r.y0)

-- the region's values, row after row
unfoldable pub written : Image → List ℤ → ℕ → Region → List Float
unfolding tabulated written_at
written img ring radius r = tabulated (width_of r * height_of r) (λ i. written_at img ring radius (r.x0 + i % width_of r) (r.y0 + i / width_of r))

-- ---- a radius in 1..=10, and every component within it
abbrev pub radius_fits : ℕ → Bool
radius_fits radius = leb 1 radius && leb radius 10

unfoldable pub ring_within : ℕ → List ℤ → Bool
ring_within radius [] = true
ring_within radius (z ∷ l) = leb (nat_abs z) radius && ring_within radius l

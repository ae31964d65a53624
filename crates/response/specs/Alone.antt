-- The response depends on the pixels alone: on two images that show the same, as an image and the one with its padding taken out do, it answers
-- the same and leaves the same in the buffer.
use Rattle.std.specs.Prelude.{◌≡◌, true, List, ℕ, ℤ, length, Float}
use Rattle.imageview.specs.Image.{Image, is_image}
use Rattle.imageview.specs.Same.{SamePixels, unpadded}
use Rattle.response.specs.Region.{Region}
use Rattle.response.specs.Call.{way_of, answer_of, out_after}

pub record SameResponse (a b : Image) (ring : List ℤ) (radius : ℕ) (r : Region) (out : List Float) : Type 0 where
  pub answers : answer_of (way_of a ring radius r (length out)) ≡ answer_of (way_of b ring radius r (length out))
  pub leaves : out_after a ring radius out (way_of a ring radius r (length out)) ≡ out_after b ring radius out (way_of b ring radius r (length out))

abbrev pub ByPixels : Type 0
ByPixels = (a b : Image) → SamePixels a b → (ring : List ℤ) (radius : ℕ) (r : Region) (out : List Float) → SameResponse a b ring radius r out

abbrev pub Unpadded : Type 0
Unpadded = (img : Image) → is_image img ≡ true → (ring : List ℤ) (radius : ℕ) (r : Region) (out : List Float) → SameResponse img (unpadded img) ring radius r out

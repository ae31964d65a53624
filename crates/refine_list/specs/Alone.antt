-- Refining a list depends on the pixels alone: on two images that show the same, as an image and the one with its padding taken out do,
-- it goes the same way, and so answers and leaves the same.
use Rattle.std.specs.Prelude.{◌≡◌, true, List, ℕ, Float}
use Rattle.imageview.specs.Image.{Image, is_image}
use Rattle.imageview.specs.Same.{SamePixels, unpadded}
use Rattle.refine_formulas.specs.declared.SaddlePointConfig.{SaddlePointConfig}
use Rattle.refine_list.specs.Refining.{way_of}

abbrev pub ByPixels : Type 0
ByPixels = (a b : Image) → SamePixels a b → (cfg : SaddlePointConfig) (corners : List Float) (room : ℕ) → way_of a cfg corners room ≡ way_of b cfg corners room

abbrev pub Unpadded : Type 0
Unpadded = (img : Image) → is_image img ≡ true → (cfg : SaddlePointConfig) (corners : List Float) (room : ℕ) → way_of img cfg corners room ≡ way_of (unpadded img) cfg corners room

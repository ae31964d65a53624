-- The refiner of one seed depends on the pixels alone: on two images that show the same, as an image and the one with its padding taken out do,
-- it answers the same, with its own operator and with whatever is lent.
use Rattle.std.specs.Prelude.{◌≡◌, Bool, true, List, Float}
use Rattle.imageview.specs.Image.{Image, is_image}
use Rattle.imageview.specs.Same.{SamePixels, unpadded}
use Rattle.refine_formulas.specs.declared.SaddlePointConfig.{SaddlePointConfig}
use Rattle.refine_seed.specs.Refine.{refine_of, refine_lent}

abbrev pub ByPixels : Type 0
ByPixels = (a b : Image) → SamePixels a b → (cfg : SaddlePointConfig) (x y : Float) (wanted : Bool) → refine_of a cfg x y wanted ≡ refine_of b cfg x y wanted

abbrev pub LentByPixels : Type 0
LentByPixels =
    (a b : Image) → SamePixels a b → (cfg : SaddlePointConfig) (x y : Float) (wanted : Bool) (columns overlap : List Float)
    → refine_lent a cfg x y wanted columns overlap ≡ refine_lent b cfg x y wanted columns overlap

abbrev pub Unpadded : Type 0
Unpadded = (img : Image) → is_image img ≡ true → (cfg : SaddlePointConfig) (x y : Float) (wanted : Bool) → refine_of img cfg x y wanted ≡ refine_of (unpadded img) cfg x y wanted

abbrev pub LentUnpadded : Type 0
LentUnpadded =
    (img : Image) → is_image img ≡ true → (cfg : SaddlePointConfig) (x y : Float) (wanted : Bool) (columns overlap : List Float)
    → refine_lent img cfg x y wanted columns overlap ≡ refine_lent (unpadded img) cfg x y wanted columns overlap

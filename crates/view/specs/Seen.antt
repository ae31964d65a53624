-- The image that a view shows: the samples that it borrows as they are now, with its width, height and pitch. The contracts that speak of an image read a view through this.
-- Of bytes it is `byte_image` and of words `word_image`, by computation.
use Rattle.std.specs.Prelude.{Bool, List, ℕ}
use Rattle.imageview.specs.Image.{Image}
use Rattle.imageview.specs.declared.images.ImageView.{ImageView}

module _ {S : Type 0} where
  -- samples with their sizes, as an image
  abbrev pub image_of_slice : (List S → List ℕ) → Bool → List S → ℕ → ℕ → ℕ → Image
  image_of_slice levels deep samples width height pitch = record { samples = levels samples; width = width; height = height; pitch = pitch; deep = deep }

  abbrev pub image_in : (List S → List ℕ) → Bool → ImageView S → Image
  image_in levels deep view = image_of_slice levels deep view.data.now view.width view.height view.pitch

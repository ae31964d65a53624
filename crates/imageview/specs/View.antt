-- The image that a view shows, and what becomes of an image at its tests.
use Rattle.std.specs.Prelude.{◌≡◌, ◌⊎◌, Bool, true, false, cond, List, ℕ, Result, Ok, Err}
use Rattle.refusals.specs.declared.Refusal.{Refusal}
use Rattle.refusals.specs.declared.Refusal.TheVariants.{BadImage, BadSample}
use Rattle.imageview.specs.Image.{Image, is_image, in_range}
use Rattle.imageview.specs.declared.images.ImageView.{ImageView}

-- the numbers of the samples that it borrows, with its sizes
module _ {S : Type 0} where
  abbrev pub shown : (List S → List ℕ) → Bool → ImageView S → Image
  shown levels deep view = record { samples = levels view.data.now; width = view.width; height = view.height; pitch = view.pitch; deep = deep }

-- itself, or the refusal of the first test that it fails
abbrev pub passing : Image → Result Image Refusal
passing img = cond (is_image img) (cond (in_range img) (Ok img) (Err BadSample)) (Err BadImage)

abbrev pub IsRefusedBy : Image → Refusal → Type 0
IsRefusedBy img refusal = ((is_image img ≡ false) × (refusal ≡ BadImage)) ⊎ ((is_image img ≡ true) × (in_range img ≡ false) × (refusal ≡ BadSample))

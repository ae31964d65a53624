-- Two images that show the same, and the image with its padding taken out, which shows the same as the image.
use Rattle.std.specs.Prelude.{◌≡◌, true, ℕ, ◌*◌, ◌/◌, ◌%◌, ◌<◌}
use Rattle.shapes.specs.Lists.{tabulated}
use Rattle.imageview.specs.Image.{Image, pixel, is_image}

-- of one size and depth, images both or neither, with the same pixels: what lies elsewhere in their samples may differ, and their pitch too
pub record SamePixels (a b : Image) : Type 0 where
  pub width : a.width ≡ b.width
  pub height : a.height ≡ b.height
  pub depth : a.deep ≡ b.deep
  pub image : is_image a ≡ is_image b
  pub pixels : (x y : ℕ) → x < a.width → y < a.height → pixel a x y ≡ pixel b x y

-- the pixels alone, row after row
unfoldable pub unpadded : Image → Image
unfolding pixel tabulated
unpadded img = record { samples = tabulated (img.width * img.height) (λ k. pixel img (k % img.width) (k / img.width)); width = img.width; height = img.height; pitch = img.width; deep = img.deep }

-- ---- claims, proved in proofs/Unpadded.antt
abbrev pub ShowsUnpadded : Type 0
ShowsUnpadded = (img : Image) → is_image img ≡ true → SamePixels img (unpadded img)

-- an image without padding is the one with its padding taken out
abbrev pub NoPadding : Type 0
NoPadding = (img : Image) → is_image img ≡ true → img.pitch ≡ img.width → unpadded img ≡ img

-- two images of one size and depth that agree outside the padding show the same, whatever their pitches
abbrev pub AgreeOutside : Type 0
AgreeOutside =
    (a b : Image) → is_image a ≡ true → is_image b ≡ true → a.width ≡ b.width → a.height ≡ b.height → a.deep ≡ b.deep
    → ((x y : ℕ) → x < a.width → y < a.height → pixel a x y ≡ pixel b x y) → SamePixels a b

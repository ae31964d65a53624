-- An image is its samples, row after row, with its sizes. A row may have padding behind it: its pitch says how far the next row begins.
-- A sample is a byte or, in a deep image, a word of which twelve bits are used. Every definition that reads an image reads it through `pixel`.
use Rattle.std.specs.Prelude.{Bool, true, false, ◌&&◌, cond, List, ℕ, ◌+◌, ◌*◌, leb, eqb, length, get_or}
use Rattle.shapes.specs.Tests.{every}

pub record Image : Type 0 where
  pub samples : List ℕ
  pub width : ℕ
  pub height : ℕ
  pub pitch : ℕ
  pub deep : Bool

-- an image of bytes alone, and a deep one of words alone
abbrev pub byte_image : List ℕ → ℕ → ℕ → ℕ → Image
byte_image bytes width height pitch = record { samples = bytes; width = width; height = height; pitch = pitch; deep = false }

abbrev pub word_image : List ℕ → ℕ → ℕ → ℕ → Image
word_image words width height pitch = record { samples = words; width = width; height = height; pitch = pitch; deep = true }

unfoldable pub pixel : Image → ℕ → ℕ → ℕ
pixel img x y = get_or img.samples (y * img.pitch + x) 0

-- the greatest width and height, and the greatest pitch
abbrev pub most : ℕ
most = 4096

abbrev pub most_pitch : ℕ
most_pitch = 8192

-- a width and a height in 1..=4096
abbrev pub is_size : ℕ → ℕ → Bool
is_size width height = leb 1 width && leb width most && leb 1 height && leb height most

-- a pitch that holds the width
abbrev pub is_pitch : ℕ → ℕ → Bool
is_pitch width pitch = leb width pitch && leb pitch most_pitch

-- such a width, height and pitch, and a count of pitch times height: else refusal 10
unfoldable pub is_image : Image → Bool
is_image img = is_size img.width img.height && is_pitch img.width img.pitch && eqb (length img.samples) (img.pitch * img.height)

-- the greatest sample of a deep image
abbrev pub most_sample : ℕ
most_sample = 4095

-- no pixel of a deep image is above it, whatever stands in the padding: else refusal 26
unfoldable pub in_range : Image → Bool
unfolding pixel every
in_range img = cond img.deep (every img.height (λ y. every img.width (λ x. leb (pixel img x y) most_sample))) true

-- the test of a list that has no padding
unfoldable pub sizes_fit : ℕ → ℕ → ℕ → Bool
sizes_fit count width height = is_size width height && eqb count (width * height)

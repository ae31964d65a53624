-- Two images that show the same, one of them written with the sizes of the other: so that only the samples and the pitch differ.
use mathlib.Core.Path.{◌≡◌, sym, ap, ◌∙◌}
use mathlib.Core.Bool.{Bool, true, cond}
use Prim.Native.Nat.{ℕ, ◌<◌}
use lib.Dec.{leb}
use Rattle.shapes.specs.Tests.{every}
use Rattle.shapes.proofs.TestLaws.{every-same}
use Rattle.imageview.specs.Image.{Image, pixel, is_image, in_range, most_sample}
use Rattle.imageview.specs.Same.{SamePixels}

module _ (a b : Image) where
  abbrev pub sized_as : Image
  sized_as = record { samples = b.samples; width = a.width; height = a.height; pitch = b.pitch; deep = a.deep }

module _ (a b : Image) (s : SamePixels a b) where
  pub sized-is : sized_as a b ≡ b
  sized-is =
      ap (λ (n : ℕ). record { samples = b.samples; width = n; height = a.height; pitch = b.pitch; deep = a.deep }) s.width
      ∙ ap (λ (n : ℕ). record { samples = b.samples; width = b.width; height = n; pitch = b.pitch; deep = a.deep }) s.height
      ∙ ap (λ (d : Bool). record { samples = b.samples; width = b.width; height = b.height; pitch = b.pitch; deep = d }) s.depth

  pub shows : (x y : ℕ) → x < a.width → y < a.height → pixel a x y ≡ pixel (sized_as a b) x y
  shows x y h l = s.pixels x y h l ∙ ap (λ (v : Image). pixel v x y) (sym sized-is)

  pub alike : is_image a ≡ is_image (sized_as a b)
  alike = s.image ∙ ap is_image (sym sized-is)

  -- both have a pixel above the greatest sample, or neither
  pub in-range : in_range a ≡ in_range (sized_as a b)
  unfolding in_range
  in-range =
      ap (λ (z : Bool). cond a.deep z true)
      (every-same a.height (λ y. every a.width (λ x. leb (pixel a x y) most_sample)) (λ y. every a.width (λ x. leb (pixel (sized_as a b) x y) most_sample))
      (λ y l. every-same a.width (λ x. leb (pixel a x y) most_sample) (λ x. leb (pixel (sized_as a b) x y) most_sample) (λ x h. ap (λ (v : ℕ). leb v most_sample) (shows x y h l))))

  pub range-alike : in_range a ≡ in_range b
  range-alike = in-range ∙ ap in_range sized-is

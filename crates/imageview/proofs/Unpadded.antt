-- An image shows the same as the one with its padding taken out, which is itself where it has no padding.
use mathlib.Core.Path.{◌≡◌, refl, sym, ap, ◌∙◌, subst}
use mathlib.Core.Bool.{true, ◌&&◌}
use mathlib.Core.List.{List}
use Prim.Native.Nat.{ℕ, ◌+◌, ◌*◌, ◌/◌, ◌%◌, ◌<◌}
use native.Mathlib.Nat.{le_refl, le_trans, mul_comm, div-add-mod'}
use lib.Arith.{digits_mod, digits_div, digits_lt}
use lib.Dec.{eqb, lit≤}
use lib.ListN.{length, get_or}
use borrow.Author.Tests.{le-leb, eq-eqb}
use Rattle.shapes.specs.Lists.{tabulated}
use Rattle.shapes.proofs.ListLaws.{length-tabulated, get_d-tabulated, tabulated-cong, tabulated-by}
use Rattle.shapes.proofs.TestLaws.{both, first_of}
use Rattle.imageview.specs.Image.{Image, pixel, is_size, is_pitch, is_image, most_pitch}
use Rattle.imageview.specs.Steps.{Tested}
use Rattle.imageview.specs.Same.{unpadded, ShowsUnpadded, NoPadding, AgreeOutside}
use Rattle.imageview.proofs.ImageLaws.{tested, passed}

module _ (img : Image) (is : is_image img ≡ true) where
  stood : Tested img
  stood = tested img (passed is)

  -- ---- what is left is an image
  size_same : is_size img.width img.height ≡ true
  unfolding is_image
  size_same =
      let s = is_size img.width img.height in
      let p = is_pitch img.width img.pitch in
      first_of s p (first_of (s && p) (eqb (length img.samples) (img.pitch * img.height)) is)

  is-still : is_image (unpadded img) ≡ true
  unfolding is_image unpadded
  is-still =
      both (both size_same (both (le-leb img.width img.width (le_refl img.width)) (le-leb img.width most_pitch (le_trans stood.sized.width-most (lit≤ tt)))))
      (eq-eqb _ _ (length-tabulated (img.width * img.height) (λ k. pixel img (k % img.width) (k / img.width))))

  -- ---- its pixels are the image's
  stands : (x y : ℕ) → x < img.width → y < img.height → y * img.width + x < img.width * img.height
  stands x y a b = subst (λ (n : ℕ). y * img.width + x < n) (mul_comm img.height img.width) (digits_lt b a)

  pixel-same : (x y : ℕ) → x < img.width → y < img.height → pixel img x y ≡ pixel (unpadded img) x y
  unfolding pixel unpadded
  pixel-same x y a b =
      let n = img.width in
      sym
      (get_d-tabulated (n * img.height) (λ k. pixel img (k % n) (k / n)) (y * n + x) 0 (stands x y a b)
      ∙ ap (λ (r : ℕ). pixel img ((y * n + x) % n) r) (digits_div y a)
      ∙ ap (λ (c : ℕ). pixel img c y) (digits_mod y a))

  -- ---- without padding the samples stand as they are listed
  samples-same : img.pitch ≡ img.width → tabulated (img.width * img.height) (λ k. pixel img (k % img.width) (k / img.width)) ≡ img.samples
  unfolding pixel
  samples-same e =
      tabulated-cong (img.width * img.height) (λ k. pixel img (k % img.width) (k / img.width)) (λ k. get_or img.samples k 0)
      (λ k h. ap (λ (p : ℕ). get_or img.samples (k / img.width * p + k % img.width) 0) e ∙ ap (λ (i : ℕ). get_or img.samples i 0) (div-add-mod' k img.width))
      ∙ tabulated-by (img.width * img.height) 0 img.samples (stood.count ∙ ap (λ (p : ℕ). p * img.height) e)

pub shows-unpadded : ShowsUnpadded
unfolding unpadded
shows-unpadded img is = record { width = refl; height = refl; depth = refl; image = is ∙ sym (is-still img is); pixels = pixel-same img is }

pub no-padding : NoPadding
unfolding unpadded
no-padding img is e =
    ap (λ (l : List ℕ). record { samples = l; width = img.width; height = img.height; pitch = img.width; deep = img.deep }) (samples-same img is e)
    ∙ ap (λ (p : ℕ). record { samples = img.samples; width = img.width; height = img.height; pitch = p; deep = img.deep }) (sym e)

pub agree-outside : AgreeOutside
agree-outside a b ia ib w h d same = record { width = w; height = h; depth = d; image = ia ∙ sym ib; pixels = same }

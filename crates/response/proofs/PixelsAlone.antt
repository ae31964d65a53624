-- The response depends on the pixels alone: every sample that is read lies in the image, since the ring fits and no component leaves its radius.
use mathlib.Core.Path.{◌≡◌, refl, sym, ap, ◌∙◌}
use mathlib.Core.Bool.{Bool, true, false, not, ◌&&◌, cond, and-eq-true_iff}
use mathlib.Core.List.{List, [], ◌∷◌}
use Prim.Native.Nat.{ℕ, zero, suc, ◌+◌, ◌-◌, ◌*◌, ◌/◌, ◌%◌, ◌≤◌, ◌<◌}
use native.Mathlib.Omega.{arith}
use lib.Dec.{leb, ltb, eqb}
use lib.IntN.{ℤ, pos, negsuc, nat_abs}
use lib.ListN.{length, get_or}
use lib.Ieee.{Float}
use borrow.Author.Tests.{leb-true, ltb-true}
use Rattle.shapes.specs.Numbers.{plus_zero}
use Rattle.shapes.proofs.ListLaws.{tabulated-cong}
use Rattle.shapes.proofs.TestLaws.{first_of, second-of}
use Rattle.refusals.specs.declared.Refusal.TheVariants.{BadImage, BadSample, BadRadius, BadRing, EmptyRoi, BadOut}
use Rattle.imageview.specs.Image.{Image, pixel, is_image, in_range}
use Rattle.imageview.specs.Same.{SamePixels, unpadded}
use Rattle.imageview.proofs.SameLaws.{sized_as, sized-is, in-range}
use Rattle.imageview.proofs.SameLaws.{alike as images-alike}
use Rattle.imageview.proofs.Unpadded.{shows-unpadded}
use Rattle.pixel_response.specs.Samples.{response_of}
use Rattle.pixel_response.proofs.PixelLaws.{response-cong}
use Rattle.response.specs.Region.{Region, moved, ring_sample, cross_sample, ring_fits, written_at, written, width_of, height_of, clamped, is_empty, ring_within}
use Rattle.response.specs.Call.{Way, refused, wrote, way_of, answer_of, out_after}
use Rattle.response.specs.Alone.{ByPixels, Unpadded}

-- ---- every component lies within the radius
component : (radius : ℕ) (ring : List ℤ) (k : ℕ) → ring_within radius ring ≡ true → nat_abs (get_or ring k (pos 0)) ≤ radius
unfolding ring_within
component radius [] k h = omega arith
component radius (z ∷ l) zero h = leb-true (nat_abs z) radius ((and-eq-true_iff (leb (nat_abs z) radius) (ring_within radius l)).0 h).0
component radius (z ∷ l) (suc k) h = component radius l k ((and-eq-true_iff (leb (nat_abs z) radius) (ring_within radius l)).0 h).1

stays : (x n radius : ℕ) (z : ℤ) → nat_abs z ≤ radius → x + radius < n → moved x z < n
stays x n radius (pos m) h l = omega arith
stays x n radius (negsuc m) h l = omega arith

-- ---- what holds of every pixel of two images holds of the samples of a pixel whose ring fits
module _ (R : ℕ → ℕ → Type 0) (a b : Image) (holds : (x y : ℕ) → x < a.width → y < a.height → R (pixel a x y) (pixel b x y)) (radius x y : ℕ) (fits : ring_fits a radius x y ≡ true) where
  right : x + radius < a.width
  unfolding ring_fits
  right =
      let p = leb radius x in
      let q = ltb (x + radius) a.width in
      let r = leb radius y in
      ltb-true (x + radius) a.width (second-of p q (first_of (p && q) r (first_of (p && q && r) (ltb (y + radius) a.height) fits)))

  below : y + radius < a.height
  unfolding ring_fits
  below = ltb-true (y + radius) a.height (second-of (leb radius x && ltb (x + radius) a.width && leb radius y) (ltb (y + radius) a.height) fits)

  pub ring-holds : (ring : List ℤ) → ring_within radius ring ≡ true → (k : ℕ) → R (ring_sample a ring x y k) (ring_sample b ring x y k)
  unfolding ring_sample
  ring-holds ring w k =
      holds (moved x (get_or ring (2 * k) (pos 0))) (moved y (get_or ring (2 * k + 1) (pos 0)))
      (stays x a.width radius (get_or ring (2 * k) (pos 0)) (component radius ring (2 * k) w) right)
      (stays y a.height radius (get_or ring (2 * k + 1) (pos 0)) (component radius ring (2 * k + 1) w) below)

  pub cross-holds : 1 ≤ radius → (k : ℕ) → R (cross_sample a x y k) (cross_sample b x y k)
  unfolding cross_sample
  cross-holds some zero = holds x y (omega (arith, right)) (omega (arith, below))
  cross-holds some (suc zero) = holds x (y - 1) (omega (arith, right)) (omega (arith, below))
  cross-holds some (suc (suc zero)) = holds x (y + 1) (omega (arith, right)) (omega (arith, below))
  cross-holds some (suc (suc (suc zero))) = holds (x + 1) y (omega (arith, right)) (omega (arith, below))
  cross-holds some (suc (suc (suc (suc k)))) = holds (x - 1) y (omega (arith, right)) (omega (arith, below))

-- ---- of two images of one size
pub fits-same : (a b : Image) → b.width ≡ a.width → b.height ≡ a.height → (radius x y : ℕ) → ring_fits b radius x y ≡ ring_fits a radius x y
unfolding ring_fits
fits-same a b wide high radius x y =
    ap (λ (n : ℕ). leb radius x && ltb (x + radius) n && leb radius y && ltb (y + radius) b.height) wide
    ∙ ap (λ (n : ℕ). leb radius x && ltb (x + radius) a.width && leb radius y && ltb (y + radius) n) high

-- that show the same
module _ (a b : Image) (wide : b.width ≡ a.width) (high : b.height ≡ a.height) (same : (x y : ℕ) → x < a.width → y < a.height → pixel a x y ≡ pixel b x y) (ring : List ℤ) (radius : ℕ) (some : 1 ≤ radius) (w : ring_within radius ring ≡ true) where
  at_same : (x y : ℕ) → written_at a ring radius x y ≡ written_at b ring radius x y
  unfolding written_at ring_fits
  at_same x y = by (ring_fits a radius x y) refl ∙ ap (λ (f : Bool). cond f (response_of (ring_sample b ring x y) (cross_sample b x y)) plus_zero) (sym (fits-same a b wide high radius x y))
    where
      by : (f : Bool) → ring_fits a radius x y ≡ f → cond (ring_fits a radius x y) (response_of (ring_sample a ring x y) (cross_sample a x y)) plus_zero ≡ cond (ring_fits a radius x y) (response_of (ring_sample b ring x y) (cross_sample b x y)) plus_zero
      by false e = ap (λ (f : Bool). cond f (response_of (ring_sample a ring x y) (cross_sample a x y)) plus_zero) e ∙ sym (ap (λ (f : Bool). cond f (response_of (ring_sample b ring x y) (cross_sample b x y)) plus_zero) e)
      by true e =
          ap (λ (v : Float). cond (ring_fits a radius x y) v plus_zero)
          (response-cong (ring_sample a ring x y) (cross_sample a x y) (ring_sample b ring x y) (cross_sample b x y)
          (λ k h. ring-holds (◌≡◌ {A = ℕ}) a b same radius x y e ring w k) (λ k h. cross-holds (◌≡◌ {A = ℕ}) a b same radius x y e some k))

  written_same : (r : Region) → written a ring radius r ≡ written b ring radius r
  unfolding written
  written_same r =
      tabulated-cong (width_of r * height_of r) (λ i. written_at a ring radius (r.x0 + i % width_of r) (r.y0 + i / width_of r)) (λ i. written_at b ring radius (r.x0 + i % width_of r) (r.y0 + i / width_of r))
      (λ i h. at_same (r.x0 + i % width_of r) (r.y0 + i / width_of r))

-- ---- the call
module _ (a b : Image) (s : SamePixels a b) (ring : List ℤ) (radius : ℕ) (r : Region) (out : List Float) where
  abbrev rest : Bool → Bool → Way
  rest fits within =
      cond (not fits) (refused BadRadius)
      (cond (not within) (refused BadRing)
      (cond (is_empty r) (refused EmptyRoi)
      (cond (not (eqb (length out) (width_of (clamped a r) * height_of (clamped a r)))) (refused BadOut)
      (wrote (clamped a r)))))

  abbrev way_with : Bool → Bool → Way
  way_with i f = cond (not i) (refused BadImage) (cond (not f) (refused BadSample) (rest (leb 1 radius && leb radius 10) (ring_within radius ring)))

  of-a : way_of a ring radius r (length out) ≡ way_with (is_image a) (in_range a)
  unfolding way_of
  of-a = refl

  of-sized : way_of (sized_as a b) ring radius r (length out) ≡ way_with (is_image (sized_as a b)) (in_range (sized_as a b))
  unfolding way_of
  of-sized = refl

  way_same : way_of a ring radius r (length out) ≡ way_of b ring radius r (length out)
  way_same =
      of-a ∙ ap (λ (z : Bool). way_with z (in_range a)) (images-alike a b s) ∙ ap (way_with (is_image (sized_as a b))) (in-range a b s)
      ∙ sym of-sized ∙ ap (λ (v : Image). way_of v ring radius r (length out)) (sized-is a b s)

  -- a way that writes has a ring that passed its tests
  buffers : (i f fits within : Bool) → (fits ≡ true → within ≡ true → (g : Region) → written a ring radius g ≡ written b ring radius g)
      → out_after a ring radius out (cond (not i) (refused BadImage) (cond (not f) (refused BadSample) (rest fits within))) ≡ out_after b ring radius out (cond (not i) (refused BadImage) (cond (not f) (refused BadSample) (rest fits within)))
  buffers false f fits within h = refl
  buffers true false fits within h = refl
  buffers true true false within h = refl
  buffers true true true false h = refl
  buffers true true true true h = inner (is_empty r) (eqb (length out) (width_of (clamped a r) * height_of (clamped a r)))
    where
      inner : (e f : Bool) → out_after a ring radius out (cond e (refused EmptyRoi) (cond (not f) (refused BadOut) (wrote (clamped a r)))) ≡ out_after b ring radius out (cond e (refused EmptyRoi) (cond (not f) (refused BadOut) (wrote (clamped a r))))
      inner true f = refl
      inner false false = refl
      inner false true = h refl refl (clamped a r)

  alike : (leb 1 radius && leb radius 10) ≡ true → ring_within radius ring ≡ true → (g : Region) → written a ring radius g ≡ written b ring radius g
  alike f w g = written_same a b (sym s.width) (sym s.height) s.pixels ring radius (leb-true 1 radius ((and-eq-true_iff (leb 1 radius) (leb radius 10)).0 f).0) w g

  leaves-same : out_after a ring radius out (way_of a ring radius r (length out)) ≡ out_after b ring radius out (way_of b ring radius r (length out))
  leaves-same =
      ap (out_after a ring radius out) of-a
      ∙ buffers (is_image a) (in_range a) (leb 1 radius && leb radius 10) (ring_within radius ring) alike
      ∙ ap (out_after b ring radius out) (sym of-a ∙ way_same)

pub by-pixels : ByPixels
by-pixels a b s ring radius r out = record { answers = ap answer_of (way_same a b s ring radius r out); leaves = leaves-same a b s ring radius r out }

pub by-unpadded : Unpadded
by-unpadded img is ring radius r out = by-pixels img (unpadded img) (shows-unpadded img is) ring radius r out

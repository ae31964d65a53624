-- The call: the clamped region's size, the values by the ring itself, the list that is written, and the tests in their order.
use mathlib.Core.Path.{◌≡◌, refl, sym, ap, ◌∙◌, subst}
use mathlib.Core.Bool.{Bool, true, false, not, ◌||◌, cond}
use mathlib.Core.Logic.{⊎_elim}
use mathlib.Core.List.{List}
use Prim.Native.Nat.{ℕ, zero, suc, ◌+◌, ◌-◌, ◌*◌, ◌/◌, ◌%◌, ◌≤◌, ◌<◌}
use native.Mathlib.Nat.{zero-add, le_trans}
use native.Mathlib.Omega.{arith}
use lib.Dec.{leb, ltb}
use lib.IntN.{ℤ, pos, negsuc, nat_abs}
use lib.ListN.{length, get_or}
use lib.Seq.{ext_get_or}
use lib.Ieee.{Float}
use borrow.Author.Tests.{le-leb, leb-true, ltb-false, eqb-true}
use Rattle.shapes.proofs.TestLaws.{both, first_of, second-of, first-not, second-not}
use Rattle.shapes.specs.Numbers.{plus_zero}
use Rattle.shapes.specs.Lists.{tabulated}
use Rattle.shapes.proofs.ListLaws.{length-tabulated, get_d-tabulated}
use Rattle.imageview.specs.Image.{Image, is_image, in_range, pixel}
use Rattle.std.specs.Prelude.{Result, Ok, Err}
use Rattle.imageview.specs.View.{IsRefusedBy}
use Rattle.response.specs.declared.Extent.{Extent}
use Rattle.refusals.specs.declared.Refusal.{Refusal}
use Rattle.refusals.specs.declared.Refusal.TheVariants.{BadImage, BadSample, BadRadius, BadRing, EmptyRoi, BadOut}
use Rattle.response.specs.Region.{Region, clamped, is_empty, width_of, height_of, moved, ring_sample, cross_sample, ring_fits, radius_fits, ring_within, written_at, written}
use Rattle.response.specs.Call.{Way, refused, wrote, way_of, extent_of, answer_of, out_after, Done}
use Rattle.pixel_response.specs.Steps.{Wrote}
use Rattle.response.specs.StepsStarts.{Offsets, IsRingRefusedBy, start_of, started_at}
use Rattle.response.specs.StepsFrame.{shifted_at, size_fits, Clamped}
use Rattle.pixel_response.proofs.PixelLaws.{response-cong}
use Rattle.response.proofs.RingLaws.{all-within}

-- ---- the values by the ring
moved-is : (x : ℕ) (z : ℤ) → nat_abs z ≤ 10 → x + moved 10 z - 10 ≡ moved x z
moved-is x (pos n) h = omega arith
moved-is x (negsuc n) h = omega arith

module _ (img : Image) (ring : List ℤ) (offsets : List ℕ) (radius : ℕ) (o : Offsets ring offsets) (high : radius ≤ 10) (w : ring_within radius ring ≡ true) where
  component : (x k : ℕ) → k < 32 → x + get_or offsets k 0 - 10 ≡ moved x (get_or ring k (pos 0))
  component x k h =
      let near : nat_abs (get_or ring k (pos 0)) ≤ 10 = le_trans (all-within radius ring w k) high in
      ap (λ (z : ℕ). x + z - 10) (o.each k h) ∙ moved-is x (get_or ring k (pos 0)) near

  ring-sample : (x y k : ℕ) → k < 16 → get_or img.samples (start_of offsets img.pitch x y k) 0 ≡ ring_sample img ring x y k
  unfolding ring_sample pixel
  ring-sample x y k h =
      ap (λ (z : ℕ). get_or img.samples (z * img.pitch + (x + get_or offsets (2 * k) 0 - 10)) 0) (component y (2 * k + 1) (omega arith))
      ∙ ap (λ (z : ℕ). get_or img.samples (moved y (get_or ring (2 * k + 1) (pos 0)) * img.pitch + z) 0) (component x (2 * k) (omega arith))

  at : (x y k p q : ℕ) → get_or offsets (2 * k) 0 ≡ p → get_or offsets (2 * k + 1) 0 ≡ q → get_or img.samples (start_of offsets img.pitch x y k) 0 ≡ get_or img.samples ((y + q - 10) * img.pitch + (x + p - 10)) 0
  at x y k p q e f = ap (λ (z : ℕ). get_or img.samples ((y + get_or offsets (2 * k + 1) 0 - 10) * img.pitch + (x + z - 10)) 0) e ∙ ap (λ (z : ℕ). get_or img.samples ((y + z - 10) * img.pitch + (x + p - 10)) 0) f

  same_place : (x y p q u v : ℕ) → x + p - 10 ≡ u → y + q - 10 ≡ v → get_or img.samples ((y + q - 10) * img.pitch + (x + p - 10)) 0 ≡ get_or img.samples (v * img.pitch + u) 0
  same_place x y p q u v e f = ap (λ (z : ℕ). get_or img.samples ((y + q - 10) * img.pitch + z) 0) e ∙ ap (λ (z : ℕ). get_or img.samples (z * img.pitch + u) 0) f

  cross-sample : (x y k : ℕ) → k < 5 → get_or img.samples (start_of offsets img.pitch x y (k + 16)) 0 ≡ cross_sample img x y k
  unfolding cross_sample pixel
  cross-sample x y zero h = at x y 16 10 10 (o.cross 0 (omega arith)) (o.cross 1 (omega arith)) ∙ same_place x y 10 10 x y (omega arith) (omega arith)
  cross-sample x y (suc zero) h = at x y 17 10 9 (o.cross 2 (omega arith)) (o.cross 3 (omega arith)) ∙ same_place x y 10 9 x (y - 1) (omega arith) (omega arith)
  cross-sample x y (suc (suc zero)) h = at x y 18 10 11 (o.cross 4 (omega arith)) (o.cross 5 (omega arith)) ∙ same_place x y 10 11 x (y + 1) (omega arith) (omega arith)
  cross-sample x y (suc (suc (suc zero))) h = at x y 19 11 10 (o.cross 6 (omega arith)) (o.cross 7 (omega arith)) ∙ same_place x y 11 10 (x + 1) y (omega arith) (omega arith)
  cross-sample x y (suc (suc (suc (suc zero)))) h = at x y 20 9 10 (o.cross 8 (omega arith)) (o.cross 9 (omega arith)) ∙ same_place x y 9 10 (x - 1) y (omega arith) (omega arith)
  cross-sample x y (suc (suc (suc (suc (suc k))))) h = absurd (let z : ⊥ = omega arith in z)

  shifted-is : (x y : ℕ) → shifted_at img offsets radius x y ≡ written_at img ring radius x y
  unfolding written_at started_at
  shifted-is x y =
      ap (λ (v : Float). cond (ring_fits img radius x y) v plus_zero)
      (response-cong (λ k. get_or img.samples (start_of offsets img.pitch x y k) 0) (λ k. get_or img.samples (start_of offsets img.pitch x y (k + 16)) 0) (ring_sample img ring x y) (cross_sample img x y)
      (ring-sample x y) (cross-sample x y))

-- ---- the list that is written
listed-is : (n : ℕ) (f g : ℕ → Float) (out out' : List Float) → length out ≡ n → Wrote plus_zero (length out) 0 f out out' → ((i : ℕ) → f i ≡ g i) → out' ≡ tabulated n g
listed-is n f g out out' e w p =
    ext_get_or plus_zero out' (tabulated n g) (w.same ∙ e ∙ sym (length-tabulated n g))
    (λ i h.
    let l : i < length out = subst (λ (k : ℕ). i < k) w.same h in
    ap (λ (k : ℕ). get_or out' k plus_zero) (sym (zero-add i)) ∙ w.here i l ∙ p i ∙ sym (get_d-tabulated n g i plus_zero (subst (λ (k : ℕ). i < k) e l)))

written_is : (img : Image) (ring : List ℤ) (offsets : List ℕ) (radius : ℕ) (c : Region) (out out' : List Float) → Offsets ring offsets → radius ≤ 10 → ring_within radius ring ≡ true → length out ≡ width_of c * height_of c
    → Wrote plus_zero (length out) 0 (λ i. shifted_at img offsets radius (c.x0 + i % width_of c) (c.y0 + i / width_of c)) out out' → out' ≡ written img ring radius c
unfolding written
written_is img ring offsets radius c out out' o high w e v =
    listed-is (width_of c * height_of c) (λ i. shifted_at img offsets radius (c.x0 + i % width_of c) (c.y0 + i / width_of c)) (λ i. written_at img ring radius (c.x0 + i % width_of c) (c.y0 + i / width_of c)) out out' e v
    (λ i. shifted-is img ring offsets radius o high w (c.x0 + i % width_of c) (c.y0 + i / width_of c))

-- ---- the test of the radius
pub radius-passed : (radius : ℕ) → (ltb radius 1 || ltb 10 radius) ≡ false → radius_fits radius ≡ true
radius-passed radius h =
    both (le-leb 1 radius (ltb-false radius 1 (first-not (ltb radius 1) (ltb 10 radius) h))) (le-leb radius 10 (ltb-false 10 radius (second-not (ltb radius 1) (ltb 10 radius) h)))

pub radius-good : (radius : ℕ) → radius_fits radius ≡ true → (1 ≤ radius) × (radius ≤ 10)
radius-good radius h = (leb-true 1 radius (first_of (leb 1 radius) (leb radius 10) h), leb-true radius 10 (second-of (leb 1 radius) (leb radius 10) h))

-- ---- the tests in their order
module _ (img : Image) (ring : List ℤ) (radius : ℕ) (r : Region) (out : List Float) where
  abbrev way : Bool → Bool → Bool → Bool → Bool → Bool → Way
  way a f b c d e =
      cond (not a) (refused BadImage)
      (cond (not f) (refused BadSample)
      (cond (not b) (refused BadRadius)
      (cond (not c) (refused BadRing)
      (cond d (refused EmptyRoi)
      (cond (not e) (refused BadOut)
      (wrote (clamped img r)))))))

  abbrev left : Way
  left = way_of img ring radius r (length out)

  is-way : left ≡ way (is_image img) (in_range img) (radius_fits radius) (ring_within radius ring) (is_empty r) (size_fits img r (length out))
  unfolding way_of
  is-way = refl

  to : (a f b c d e : Bool) → is_image img ≡ a → in_range img ≡ f → radius_fits radius ≡ b → ring_within radius ring ≡ c → is_empty r ≡ d → size_fits img r (length out) ≡ e → left ≡ way a f b c d e
  to a f b c d e p v q s t u =
      is-way
      ∙ ap (λ (z : Bool). way z (in_range img) (radius_fits radius) (ring_within radius ring) (is_empty r) (size_fits img r (length out))) p
      ∙ ap (λ (z : Bool). way a z (radius_fits radius) (ring_within radius ring) (is_empty r) (size_fits img r (length out))) v
      ∙ ap (λ (z : Bool). way a f z (ring_within radius ring) (is_empty r) (size_fits img r (length out))) q
      ∙ ap (λ (z : Bool). way a f b z (is_empty r) (size_fits img r (length out))) s
      ∙ ap (λ (z : Bool). way a f b c z (size_fits img r (length out))) t
      ∙ ap (λ (z : Bool). way a f b c d z) u

  refuse : (a : Refusal) → left ≡ refused a → Done img ring radius r out (Err a) out
  refuse a e = record { answers = sym (ap answer_of e); leaves = sym (ap (out_after img ring radius out) e) }

  pub bad-image : is_image img ≡ false → Done img ring radius r out (Err BadImage) out
  bad-image p = refuse BadImage (to false (in_range img) (radius_fits radius) (ring_within radius ring) (is_empty r) (size_fits img r (length out)) p refl refl refl refl refl)

  pub bad-sample : is_image img ≡ true → in_range img ≡ false → Done img ring radius r out (Err BadSample) out
  bad-sample i p = refuse BadSample (to true false (radius_fits radius) (ring_within radius ring) (is_empty r) (size_fits img r (length out)) i p refl refl refl refl)

  -- by the refusal that the image's tests gave
  pub refused-image : (e : Refusal) → IsRefusedBy img e → Done img ring radius r out (Err e) out
  refused-image e h =
      ⊎_elim (λ p. subst (λ (z : Refusal). Done img ring radius r out (Err z) out) (sym p.1) (bad-image p.0)) (λ p. subst (λ (z : Refusal). Done img ring radius r out (Err z) out) (sym p.2) (bad-sample p.0 p.1)) h

  module _ (i : is_image img ≡ true) (f : in_range img ≡ true) where
    -- and by the one that the ring's tests gave
    pub refused-ring : (e : Refusal) → IsRingRefusedBy radius ring e → Done img ring radius r out (Err e) out
    refused-ring e h =
        ⊎_elim
        (λ p. subst (λ (z : Refusal). Done img ring radius r out (Err z) out) (sym p.1)
        (refuse BadRadius (to true true false (ring_within radius ring) (is_empty r) (size_fits img r (length out)) i f p.0 refl refl refl)))
        (λ p. subst (λ (z : Refusal). Done img ring radius r out (Err z) out) (sym p.2)
        (refuse BadRing (to true true true false (is_empty r) (size_fits img r (length out)) i f p.0 p.1 refl refl)))
        h

    module _ (radius-fits : radius_fits radius ≡ true) where
      module _ (w : ring_within radius ring ≡ true) where
        pub empty : is_empty r ≡ true → Done img ring radius r out (Err EmptyRoi) out
        empty e = refuse EmptyRoi (to true true true true true (size_fits img r (length out)) i f radius-fits w e refl)

        pub settled : (offsets : List ℕ) (a : Result Extent Refusal) (out' : List Float) → Offsets ring offsets → is_empty r ≡ false → Clamped img offsets radius r out a out' → Done img ring radius r out a out'
        settled offsets a out' o roomy c = go (size_fits img r (length out)) refl
          where
            answer : (b : Bool) → size_fits img r (length out) ≡ b → a ≡ cond b (Ok (extent_of (clamped img r))) (Err BadOut)
            answer b e = c.answers ∙ ap (λ (z : Bool). cond z (Ok (extent_of (clamped img r))) (Err BadOut)) e

            go : (b : Bool) → size_fits img r (length out) ≡ b → Done img ring radius r out a out'
            go true e =
                let y = to true true true true false true i f radius-fits w roomy e in
                record {
                  answers = answer true e ∙ sym (ap answer_of y);
                  leaves =
                      written_is img ring offsets radius (clamped img r) out out' o (radius-good radius radius-fits).1 w (eqb-true (length out) (width_of (clamped img r) * height_of (clamped img r)) e) (c.full e)
                      ∙ sym (ap (out_after img ring radius out) y);
                }
            go false e =
                let y = to true true true true false false i f radius-fits w roomy e in
                record { answers = answer false e ∙ sym (ap answer_of y); leaves = c.kept e ∙ sym (ap (out_after img ring radius out) y) }

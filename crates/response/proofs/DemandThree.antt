-- Demand 3 for whoever calls: a call that wrote leaves a buffer that keeps demand 3, whatever image, ring and region. One law over the limit P serves both widths.
use mathlib.Core.Path.{◌≡◌, refl, sym, ap, ◌∙◌, subst}
use mathlib.Core.Bool.{Bool, cond, true, false, not, ◌&&◌}
use mathlib.Core.List.{List}
use Prim.Native.Nat.{ℕ, ◌*◌, ◌≤◌, ◌<◌, suc-le-suc}
use native.Mathlib.Omega.{arith}
use lib.Dec.{T, leb}
use lib.IntN.{ℤ}
use lib.ListN.{length, get_or}
use lib.Ieee.{Float, lt}
use lib.Ieee.Bits.{is_true}
use borrow.Author.Tests.{leb-true}
use Rattle.shapes.proofs.ListLaws.{get_d-tabulated}
use Rattle.shapes.proofs.TestLaws.{first_of}
use Rattle.shapes.specs.Numbers.{plus_zero}
use Rattle.refusals.specs.declared.Refusal.TheVariants.{BadImage, BadSample, BadRadius, BadRing}
use Rattle.imageview.specs.Image.{Image, is_image, in_range}
use Rattle.imageview.proofs.ImageLaws.{low}
use Rattle.std.specs.Prelude.{Result}
use Rattle.refusals.specs.declared.Refusal.{Refusal}
use Rattle.response.specs.declared.Extent.{Extent}
use Rattle.pixel_response.specs.Samples.{response_of}
use Rattle.response.specs.Region.{Region, width_of, height_of, ring_fits, ring_sample, cross_sample, ring_within, written_at, written}
use Rattle.pixel_response.specs.Near.{Near, Under, Stands, Orders}
use Rattle.response.specs.Demand.{PixelsBelow, column_at, row_at, fits_at, gain_at, loss_at, DemandThree, BytesKeep, DeepKeep}
use Rattle.response.specs.Call.{Way, refused, wrote, way_of, out_after, Done}
use Rattle.pixel_response.proofs.DemandLaws.{stands-256, orders-256, stands-4096, orders-4096}
use Rattle.response.proofs.PixelsAlone.{ring-holds, cross-holds}

-- ---- a call that wrote has passed the tests of the samples, the radius and the ring
pub record Passed (img : Image) (ring : List ℤ) (radius : ℕ) : Type 0 where
  pub range : in_range img ≡ true
  pub some : 1 ≤ radius
  pub within : ring_within radius ring ≡ true

module _ (img : Image) (ring : List ℤ) (radius : ℕ) (r c : Region) (room : ℕ) (way : way_of img ring radius r room ≡ wrote c) where
  pub passed : Passed img ring radius
  unfolding way_of
  passed = by (is_image img) (in_range img) (leb 1 radius && leb radius 10) (ring_within radius ring) _ refl refl refl way
    where
      by : (i l f w : Bool) (rest : Way) → in_range img ≡ l → (leb 1 radius && leb radius 10) ≡ f → ring_within radius ring ≡ w
          → cond (not i) (refused BadImage) (cond (not l) (refused BadSample) (cond (not f) (refused BadRadius) (cond (not w) (refused BadRing) rest))) ≡ wrote c → Passed img ring radius
      by false l f w rest o p q e = absurd (let z : ◌≡◌ {A = ℕ} 0 1 = cc in omega arith)
      by true false f w rest o p q e = absurd (let z : ◌≡◌ {A = ℕ} 0 1 = cc in omega arith)
      by true true false w rest o p q e = absurd (let z : ◌≡◌ {A = ℕ} 0 1 = cc in omega arith)
      by true true true false rest o p q e = absurd (let z : ◌≡◌ {A = ℕ} 0 1 = cc in omega arith)
      by true true true true rest o p q e = record { range = o; some = leb-true 1 radius (first_of (leb 1 radius) (leb radius 10) p); within = q }

-- ---- the elements of the written region
written-fits : (img : Image) (ring : List ℤ) (radius x y : ℕ) → T (ring_fits img radius x y) → written_at img ring radius x y ≡ response_of (ring_sample img ring x y) (cross_sample img x y)
unfolding written_at
written-fits img ring radius x y t = ap (λ (b : Bool). cond b (response_of (ring_sample img ring x y) (cross_sample img x y)) plus_zero) (is_true (ring_fits img radius x y) t)

element : (img : Image) (ring : List ℤ) (radius : ℕ) (r : Region) (i : ℕ) → fits_at img radius r i
    → get_or (written img ring radius r) i plus_zero ≡ response_of (ring_sample img ring (column_at r i) (row_at r i)) (cross_sample img (column_at r i) (row_at r i))
unfolding written
element img ring radius r i h =
    get_d-tabulated (width_of r * height_of r) (λ (k : ℕ). written_at img ring radius (column_at r k) (row_at r k)) i plus_zero h.0
    ∙ written-fits img ring radius (column_at r i) (row_at r i) h.1

-- ---- where no pixel is at the limit P or above, the 21 samples of a pixel whose ring fits are below it
module _ (P : ℕ) (stands : Stands P) (orders : Orders P) (img : Image) (ring : List ℤ) (radius : ℕ) (b : PixelsBelow P img) (d : Passed img ring radius) (r : Region) where
  ring-below : (i : ℕ) → fits_at img radius r i → Under P 16 (ring_sample img ring (column_at r i) (row_at r i))
  ring-below i h k l = ring-holds (λ u v. u < P) img img b radius (column_at r i) (row_at r i) (is_true (ring_fits img radius (column_at r i) (row_at r i)) h.1) ring d.within k

  cross-below : (i : ℕ) → fits_at img radius r i → Under P 5 (cross_sample img (column_at r i) (row_at r i))
  cross-below i h k l = cross-holds (λ u v. u < P) img img b radius (column_at r i) (row_at r i) (is_true (ring_fits img radius (column_at r i) (row_at r i)) h.1) d.some k

  written_keeps : DemandThree P img ring radius r (written img ring radius r)
  written_keeps = record {
    stands = λ i h. subst (λ (v : Float). Near P v (gain_at img ring r i) (loss_at img ring r i)) (sym (element img ring radius r i h))
        (stands (ring_sample img ring (column_at r i) (row_at r i)) (cross_sample img (column_at r i) (row_at r i)) (ring-below i h) (cross-below i h));
    orders = λ i j h k l.
        ap (λ (v : Float). lt v (get_or (written img ring radius r) j plus_zero)) (element img ring radius r i h)
        ∙ ap (λ (v : Float). lt (response_of (ring_sample img ring (column_at r i) (row_at r i)) (cross_sample img (column_at r i) (row_at r i))) v) (element img ring radius r j k)
        ∙ orders (ring_sample img ring (column_at r i) (row_at r i)) (cross_sample img (column_at r i) (row_at r i)) (ring_sample img ring (column_at r j) (row_at r j)) (cross_sample img (column_at r j) (row_at r j))
        (ring-below i h) (cross-below i h) (ring-below j k) (cross-below j k) l;
  }

-- what the public contract gives: where the call wrote the region c, the buffer keeps demand 3
pub call-keeps : (P : ℕ) → Stands P → Orders P → (img : Image) (ring : List ℤ) (radius : ℕ) (r c : Region) (out : List Float) (answer : Result Extent Refusal) (out' : List Float)
    → PixelsBelow P img → Done img ring radius r out answer out' → way_of img ring radius r (length out) ≡ wrote c → DemandThree P img ring radius c out'
call-keeps P stands orders img ring radius r c out answer out' b d w =
    subst (λ (l : List Float). DemandThree P img ring radius c l) (sym (d.leaves ∙ ap (λ (way : Way). out_after img ring radius out way) w))
    (written_keeps P stands orders img ring radius b (passed img ring radius r c (length out) w) c)

pub bytes-keep : BytesKeep
bytes-keep = call-keeps 256 stands-256 orders-256

pub deep-keep : DeepKeep
deep-keep img ring radius r c out answer out' deep d w =
    call-keeps 4096 stands-4096 orders-4096 img ring radius r c out answer out' (λ x y h l. suc-le-suc (low img (passed img ring radius r c (length out) w).range deep x y h l)) d w

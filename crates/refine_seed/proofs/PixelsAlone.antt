-- The refiner depends on the pixels alone: a fit reads the samples of a patch that lies in the image, and a run reads fits.
use mathlib.Core.Path.{◌≡◌, refl, ap, ◌∙◌}
use mathlib.Core.Bool.{Bool, true, false, ◌&&◌, cond, and-eq-true_iff}
use mathlib.Core.List.{List}
use Prim.Native.Nat.{ℕ, ◌+◌, ◌-◌, ◌*◌, ◌/◌, ◌%◌, ◌≤◌, ◌<◌}
use native.Mathlib.Nat.{mod-lt, div-lt_iff_lt-mul}
use native.Mathlib.Omega.{arith}
use lib.Dec.{leb, ltb}
use lib.IntN.{pos, negsuc}
use lib.Ieee.{Float, binary32, of_int}
use Rattle.std.specs.Prelude.{Result, Ok, Err}
use borrow.Author.Tests.{leb-true, ltb-true}
use Rattle.shapes.specs.Numbers.{plus_zero, entry}
use Rattle.shapes.proofs.ListLaws.{tabulated-cong}
use Rattle.shapes.proofs.TurnLaws.{turns-cong}
use Rattle.imageview.specs.Image.{Image, pixel, is_image, in_range}
use Rattle.imageview.specs.Patch.{inside, supports_patch}
use Rattle.imageview.specs.Same.{SamePixels, unpadded}
use Rattle.imageview.proofs.SameLaws.{sized_as, sized-is, shows, alike, in-range}
use Rattle.imageview.proofs.Unpadded.{shows-unpadded}
use Rattle.refine_operator.specs.Basis.{side, samples}
use Rattle.refine_operator.specs.Call as Operator
use Rattle.refine_formulas.specs.declared.SaddlePointConfig.{SaddlePointConfig}
use Rattle.refine_formulas.specs.Numbers.{◌⊕◌, ◌⊖◌, ◌⊗◌}
use Rattle.refine_fits.specs.Fit.{sample_of, coefficient, coefficients, no_fit, fitted, fit_at}
use Rattle.refine_fits.specs.declared.Seed.{Seed}
use Rattle.refine_fits.specs.StepsAdding.{PatchWithin}
use Rattle.refine_seed.specs.declared.Unrefined.{Unrefined}
use Rattle.refine_seed.specs.Refine.{Refined, good_limits, is_place, centre_of, seed_of, admit_of, answered, refine_with, with_operator, lent_with, refine_of, refine_lent}
use Rattle.refine_seed.specs.Alone.{ByPixels, LentByPixels, Unpadded, LentUnpadded}
use Rattle.refine_seed.proofs.ColumnLaws.{SameFits, refine-same}
use Rattle.refine_seed.proofs.EntryLaws.{chosen, good-within}

-- ---- two images of one size with the same pixels
module _ (a c : Image) (same : (x y : ℕ) → x < a.width → y < a.height → pixel a x y ≡ pixel c x y) where
  across : (x radius n k : ℕ) → radius ≤ x → x + radius < n → k < 2 * radius + 1 → x - radius + k < n
  across x radius n k h l m = omega arith

  module _ (radius x y : ℕ) (left : radius ≤ x) (right : x + radius < a.width) (above : radius ≤ y) (below : y + radius < a.height) where
    sample-same : (k : ℕ) → k < samples radius → sample_of a radius x y k ≡ sample_of c radius x y k
    unfolding sample_of
    sample-same k h =
        ap (λ (v : ℕ). of_int binary32 (pos v))
        (same (x - radius + k % side radius) (y - radius + k / side radius)
        (across x radius a.width (k % side radius) left right (mod-lt k (omega arith)))
        (across y radius a.height (k / side radius) above below ((div-lt_iff_lt-mul (omega arith)).1 h)))

    coefficient-same : (columns : List Float) (i : ℕ) → coefficient a columns radius x y i ≡ coefficient c columns radius x y i
    unfolding coefficient
    coefficient-same columns i =
        turns-cong (samples radius)
        (λ k s. s ⊕ entry columns (5 * k + i) ⊗ (sample_of a radius x y k ⊖ sample_of a radius x y (samples radius / 2)))
        (λ k s. s ⊕ entry columns (5 * k + i) ⊗ (sample_of c radius x y k ⊖ sample_of c radius x y (samples radius / 2)))
        plus_zero
        (λ k h s.
        ap (λ (v : Float). s ⊕ entry columns (5 * k + i) ⊗ (v ⊖ sample_of a radius x y (samples radius / 2))) (sample-same k h)
        ∙ ap (λ (v : Float). s ⊕ entry columns (5 * k + i) ⊗ (sample_of c radius x y k ⊖ v)) (sample-same (samples radius / 2) (middle (samples radius) k h)))
      where
        middle : (n k : ℕ) → k < n → n / 2 < n
        middle n k h = omega arith

    coefficients-same : (columns : List Float) → coefficients a columns radius x y ≡ coefficients c columns radius x y
    unfolding coefficients
    coefficients-same columns = tabulated-cong 5 (coefficient a columns radius x y) (coefficient c columns radius x y) (λ i h. coefficient-same columns i)

-- ---- c has the sizes of a
module _ (a b : Image) (s : SamePixels a b) where
  abbrev c : Image
  c = sized_as a b

  same : (x y : ℕ) → x < a.width → y < a.height → pixel a x y ≡ pixel c x y
  same = shows a b s

  fit_same : (columns : List Float) (radius : ℕ) → SameFits a c columns columns radius
  unfolding fit_at supports_patch
  fit_same columns radius (negsuc x) w = refl
  fit_same columns radius (pos x) (negsuc y) = refl
  fit_same columns radius (pos x) (pos y) = by (inside radius a.width (pos x)) (inside radius a.height (pos y)) refl refl
    where
      by : (p q : Bool) → inside radius a.width (pos x) ≡ p → inside radius a.height (pos y) ≡ q → cond (p && q) (fitted (coefficients a columns radius x y)) no_fit ≡ cond (p && q) (fitted (coefficients c columns radius x y)) no_fit
      by false q e f = refl
      by true false e f = refl
      by true true e f =
          let p = (and-eq-true_iff (leb radius x) (ltb (x + radius) a.width)).0 e in
          let q = (and-eq-true_iff (leb radius y) (ltb (y + radius) a.height)).0 f in
          ap fitted (coefficients-same a c same radius x y (leb-true radius x p.0) (ltb-true (x + radius) a.width p.1) (leb-true radius y q.0) (ltb-true (y + radius) a.height q.1) columns)

  module _ (cfg : SaddlePointConfig) (x y : Float) (wanted : Bool) where
    with-same : (seed : Seed) → PatchWithin a cfg.radius seed.centre_x seed.centre_y → (columns overlap : List Float) → refine_with a cfg seed wanted columns overlap ≡ refine_with c cfg seed wanted columns overlap
    with-same seed w columns overlap =
        refine-same a c columns columns cfg seed (fit_same columns cfg.radius) (coefficients-same a c same cfg.radius seed.centre_x seed.centre_y w.left w.right w.above w.below columns) overlap wanted

    own_same : (seed : Seed) → PatchWithin a cfg.radius seed.centre_x seed.centre_y → (w : Operator.Way) → with_operator a cfg seed wanted w ≡ with_operator c cfg seed wanted w
    own_same seed h (Operator.refused r) = refl
    own_same seed h Operator.none = refl
    own_same seed h (Operator.built columns overlap) = with-same seed h columns overlap

    admitted : admit_of a cfg x y ≡ admit_of c cfg x y
    unfolding supports_patch
    admitted =
        let supports = supports_patch a cfg.radius (centre_of x) (centre_of y) in
        ap (λ (i : Bool). chosen i (in_range a) (leb cfg.radius 7) (good_limits cfg) (is_place x y) supports (seed_of x y)) (alike a b s)
        ∙ ap (λ (g : Bool). chosen (is_image c) g (leb cfg.radius 7) (good_limits cfg) (is_place x y) supports (seed_of x y)) (in-range a b s)

    by_answer : (go stay : Seed → Refined) → ((seed : Seed) → PatchWithin a cfg.radius seed.centre_x seed.centre_y → go seed ≡ stay seed) → (d : Result Seed Unrefined) → admit_of a cfg x y ≡ d → answered d go ≡ answered d stay
    by_answer go stay h (Ok seed) e = h seed (good-within a cfg x y seed e)
    by_answer go stay h (Err u) e = refl

    pub own_refined : refine_of a cfg x y wanted ≡ refine_of c cfg x y wanted
    unfolding refine_of
    own_refined =
        by_answer (λ seed. with_operator a cfg seed wanted (Operator.way_of cfg.radius)) (λ seed. with_operator c cfg seed wanted (Operator.way_of cfg.radius)) (λ seed h. own_same seed h (Operator.way_of cfg.radius)) (admit_of a cfg x y) refl
        ∙ ap (λ (d : Result Seed Unrefined). answered d (λ seed. with_operator c cfg seed wanted (Operator.way_of cfg.radius))) admitted

    pub lent_same : (columns overlap : List Float) → refine_lent a cfg x y wanted columns overlap ≡ refine_lent c cfg x y wanted columns overlap
    unfolding refine_lent
    lent_same columns overlap =
        by_answer (λ seed. lent_with cfg (refine_with a cfg seed wanted columns overlap)) (λ seed. lent_with cfg (refine_with c cfg seed wanted columns overlap)) (λ seed h. ap (lent_with cfg) (with-same seed h columns overlap)) (admit_of a cfg x y) refl
        ∙ ap (λ (d : Result Seed Unrefined). answered d (λ seed. lent_with cfg (refine_with c cfg seed wanted columns overlap))) admitted

-- ---- of any two images that show the same
pub by-pixels : ByPixels
by-pixels a b s cfg x y wanted = own_refined a b s cfg x y wanted ∙ ap (λ (v : Image). refine_of v cfg x y wanted) (sized-is a b s)

pub lent-by-pixels : LentByPixels
lent-by-pixels a b s cfg x y wanted columns overlap = lent_same a b s cfg x y wanted columns overlap ∙ ap (λ (v : Image). refine_lent v cfg x y wanted columns overlap) (sized-is a b s)

-- ---- so of an image and the one with its padding taken out
pub by-unpadded : Unpadded
by-unpadded img is cfg x y wanted = by-pixels img (unpadded img) (shows-unpadded img is) cfg x y wanted

pub lent-by-unpadded : LentUnpadded
lent-by-unpadded img is cfg x y wanted columns overlap = lent-by-pixels img (unpadded img) (shows-unpadded img is) cfg x y wanted columns overlap

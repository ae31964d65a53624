-- Laws of the first fits of four seeds at once: each patch lies in the image, whether its seed is refined or not, and the fit of a seed that is stands in its place.
use mathlib.Core.Path.{◌≡◌, refl, sym, ap, ◌∙◌, subst}
use mathlib.Core.Logic.{◌⊎◌, inl, inr}
use mathlib.Core.Bool.{Bool, true, false, ◌||◌}
use mathlib.Core.List.{List}
use Prim.Native.Nat.{ℕ, zero, suc, ◌+◌, ◌-◌, ◌*◌, ◌/◌, ◌%◌, ◌≤◌, ◌<◌}
use native.Mathlib.Nat.{add-zero, zero-mul}
use native.Mathlib.Omega.{arith}
use lib.Dec.{ltb}
use lib.ListN.{length}
use lib.Ieee.{Float}
use borrow.Author.Tests.{ltb-true, ltb-false, leb-true}
use lib.Dec.{leb}
use Rattle.shapes.specs.Numbers.{entry}
use Rattle.shapes.proofs.TestLaws.{either}
use Rattle.imageview.specs.Image.{Image}
use Rattle.refine_formulas.specs.declared.SaddlePointConfig.{SaddlePointConfig}
use Rattle.refine_patch.specs.declared.Firsts.{Firsts}
use Rattle.refine_patch.specs.StepsFrom.{coefficient_from, four_written}
use Rattle.refine_patch.specs.StepsFour.{lane_of, PatchesInside}
use Rattle.refine_patch.proofs.FourLaws.{written-length}
use Rattle.refine_fits.specs.StepsAdding.{PatchWithin}
use Rattle.refine_fits.specs.StepsBases.{coefs_in, first_place}
use Rattle.refine_fits.proofs.BaseLaws.{lane-at, lane-from, last-place}
use Rattle.std.specs.Prelude.{Result, Ok, Err}
use Rattle.refine_fits.specs.declared.Seed.{Seed}
use Rattle.refine_seed.specs.declared.Unrefined.{Unrefined}
use Rattle.refine_seed.specs.StepsSpot.{Ready, seed_alone, first_for, Fitted}
use Rattle.refine_seed.proofs.EntryLaws.{ready-sound, alone, good-within}
use Rattle.refine_list.specs.Steps.{FirstFits, Begins}

pub or-same : {w w' h h' : ℕ} (most : ℕ) → w ≡ w' → h ≡ h' → (leb w' most || leb h' most) ≡ (leb w most || leb h most)
or-same {w} {w'} {h} {h'} most e f = sym (ap (λ (k : ℕ). leb k most || leb h most) e ∙ ap (λ (k : ℕ). leb w' most || leb k most) f)

module _ (img : Image) (cfg : SaddlePointConfig) where
  -- ---- an image that no patch fits into
  pub too_small : (columns corners : List Float) (group : ℕ) (flat : List Float) → length flat ≡ 40 → (leb img.width (2 * cfg.radius) || leb img.height (2 * cfg.radius)) ≡ true → FirstFits img cfg columns corners group flat
  too_small columns corners group flat h t = record { long = h; fitted = λ l p q. record { is = λ seed good. absurd (none (good-within img cfg (entry corners (3 * (4 * group + l))) (entry corners (3 * (4 * group + l) + 1)) seed good) (either (leb img.width (2 * cfg.radius)) (leb img.height (2 * cfg.radius)) t)) } }
    where
      none : {x y : ℕ} → PatchWithin img cfg.radius x y → (leb img.width (2 * cfg.radius) ≡ true) ⊎ (leb img.height (2 * cfg.radius) ≡ true) → ⊥
      none w (inl e) = let k : img.width ≤ 2 * cfg.radius = leb-true img.width (2 * cfg.radius) e in omega (arith, w.left, w.right)
      none w (inr e) = let k : img.height ≤ 2 * cfg.radius = leb-true img.height (2 * cfg.radius) e in omega (arith, w.above, w.below)

  module _ (ready : Ready img cfg) (wide : 2 * cfg.radius < img.width) (high : 2 * cfg.radius < img.height) (corners : List Float) where
    abbrev Reaches : ℕ → Type 0
    Reaches r = r + 2 * cfg.radius * img.pitch + 2 * cfg.radius < length img.samples

    -- the image's first patch
    first-reaches : Reaches 0
    first-reaches =
        subst Reaches none
        (last-place img cfg.radius cfg.radius cfg.radius (record { sound = ready-sound img cfg ready; left = omega arith; right = omega arith; above = omega arith; below = omega arith }))
      where
        none : first_place img.pitch cfg.radius cfg.radius cfg.radius ≡ 0
        none =
            ap (λ (n : ℕ). n * img.pitch + n) (let e : cfg.radius - cfg.radius ≡ 0 = omega arith in e)
            ∙ ap (λ (n : ℕ). n + 0) (zero-mul img.pitch)

    by-case : (x y : Float) (d : Result Seed Unrefined) → seed_alone img.width img.height cfg.radius x y ≡ d → Reaches (first_for img.pitch cfg.radius d)
    by-case x y (Ok seed) e = last-place img cfg.radius seed.centre_x seed.centre_y (good-within img cfg x y seed (sym (alone img cfg x y ready) ∙ e))
    by-case x y (Err r) e = first-reaches

    reaches : (i r : ℕ) → Begins img.width img.height img.pitch cfg.radius corners i r → Reaches r
    reaches i r b = by (ltb i (length corners / 3)) refl
      where
        by : (t : Bool) → ltb i (length corners / 3) ≡ t → Reaches r
        by true e = subst Reaches (sym (b.is (ltb-true i (length corners / 3) e))) (by-case (entry corners (3 * i)) (entry corners (3 * i + 1)) (seed_alone img.width img.height cfg.radius (entry corners (3 * i)) (entry corners (3 * i + 1))) refl)
        by false e = subst Reaches (sym (b.else (ltb-false i (length corners / 3) e))) first-reaches

    -- the four patches of a group
    pub all-reach : (at : Firsts) (i : ℕ) → Begins img.width img.height img.pitch cfg.radius corners i at.a → Begins img.width img.height img.pitch cfg.radius corners (i + 1) at.b → Begins img.width img.height img.pitch cfg.radius corners (i + 2) at.c → Begins img.width img.height img.pitch cfg.radius corners (i + 3) at.d → PatchesInside (length img.samples) img.pitch cfg.radius at
    all-reach at i a b c d = record { small = (ready-sound img cfg ready).small; first = reaches i at.a a; second = reaches (i + 1) at.b b; third = reaches (i + 2) at.c c; fourth = reaches (i + 3) at.d d }

  -- ---- the fits that are written
  module _ (ready : Ready img cfg) (columns corners : List Float) (group : ℕ) (at : Firsts) (old flat : List Float) (is : flat ≡ four_written (λ c l. coefficient_from img.samples img.pitch columns cfg.radius (lane_of at l) c) 0 old) where
    fitted-at : (l : ℕ) → l < 4 → Begins img.width img.height img.pitch cfg.radius corners (4 * group + l) (lane_of at l) → 4 * group + l < length corners / 3 → Fitted img columns cfg (entry corners (3 * (4 * group + l))) (entry corners (3 * (4 * group + l) + 1)) (coefs_in flat l)
    fitted-at l p b q =
        record {
          is = λ seed good.
              lane-at (λ c k. coefficient_from img.samples img.pitch columns cfg.radius (lane_of at k) c) 0 old flat (omega arith) is l l p (omega arith)
              ∙ lane-from img columns cfg.radius 0 0 seed.centre_x seed.centre_y (lane_of at l) (λ c. coefficient_from img.samples img.pitch columns cfg.radius (lane_of at l) c) (λ i. refl)
              (b.is q ∙ ap (first_for img.pitch cfg.radius) (alone img cfg (entry corners (3 * (4 * group + l))) (entry corners (3 * (4 * group + l) + 1)) ready ∙ good));
        }

    pub first_fits : Begins img.width img.height img.pitch cfg.radius corners (4 * group) at.a → Begins img.width img.height img.pitch cfg.radius corners (4 * group + 1) at.b → Begins img.width img.height img.pitch cfg.radius corners (4 * group + 2) at.c → Begins img.width img.height img.pitch cfg.radius corners (4 * group + 3) at.d → FirstFits img cfg columns corners group flat
    first_fits a b c d =
        record {
          long = ap length is ∙ written-length (λ c l. coefficient_from img.samples img.pitch columns cfg.radius (lane_of at l) c) 0 old;
          fitted = λ l p. fitted-at l p (begins l p);
        }
      where
        begins : (l : ℕ) → l < 4 → Begins img.width img.height img.pitch cfg.radius corners (4 * group + l) (lane_of at l)
        begins zero p = subst (λ (n : ℕ). Begins img.width img.height img.pitch cfg.radius corners n at.a) (sym (add-zero (4 * group))) a
        begins (suc zero) p = b
        begins (suc (suc zero)) p = c
        begins (suc (suc (suc zero))) p = d
        begins (suc (suc (suc (suc l)))) p = absurd (let z : ⊥ = omega arith in z)

-- ---- the loop
-- the first fits of a seed's group
pub this-group : (img : Image) (cfg : SaddlePointConfig) (columns corners : List Float) (i : ℕ) (flat : List Float) → FirstFits img cfg columns corners (i / 4) flat → i < length corners / 3 → Fitted img columns cfg (entry corners (3 * i)) (entry corners (3 * i + 1)) (coefs_in flat (i % 4))
this-group img cfg columns corners i flat f h =
    subst (λ (n : ℕ). Fitted img columns cfg (entry corners (3 * n)) (entry corners (3 * n + 1)) (coefs_in flat (i % 4))) (sym whole)
    (f.fitted (i % 4) (omega arith) (subst (λ (n : ℕ). n < length corners / 3) whole h))
  where
    whole : i ≡ 4 * (i / 4) + i % 4
    whole = omega arith

-- they serve the seeds that follow in it
pub same-group : (img : Image) (cfg : SaddlePointConfig) (columns corners : List Float) (i : ℕ) (flat : List Float) → FirstFits img cfg columns corners (i / 4) flat → ((i + 1) % 4 ≡ 0 → ⊥) → FirstFits img cfg columns corners ((i + 1) / 4) flat
same-group img cfg columns corners i flat f h = subst (λ (n : ℕ). FirstFits img cfg columns corners n flat) (same i h) f
  where
    same : (i : ℕ) → ((i + 1) % 4 ≡ 0 → ⊥) → i / 4 ≡ (i + 1) / 4
    same i h = by (i % 4) (i / 4) (omega arith) (omega arith) (λ e. h (omega arith))
      where
        by : (m q : ℕ) → i ≡ 4 * q + m → m < 4 → (m ≡ 3 → ⊥) → q ≡ (i + 1) / 4
        by zero q e l k = omega arith
        by (suc zero) q e l k = omega arith
        by (suc (suc zero)) q e l k = omega arith
        by (suc (suc (suc zero))) q e l k = absurd (k refl)
        by (suc (suc (suc (suc m)))) q e l k = omega arith

-- Laws of the entry: the tests as one answer, what a seed that passed them has, and what they decide.
use mathlib.Core.Path.{◌≡◌, refl, sym, ap, ◌∙◌, subst}
use mathlib.Core.Bool.{Bool, true, false, not, cond, and-eq-true_iff}
use mathlib.Core.List.{List}
use Prim.Native.Nat.{ℕ, ◌+◌, ◌≤◌, ◌<◌}
use lib.Dec.{T, leb, ltb, eqb}
use lib.IntN.{ℤ, pos, negsuc, nat_abs}
use lib.Ieee.{Float}
use borrow.Author.Tests.{leb-true, ltb-true, le-leb, eq-eqb, ne_eqb}
use Rattle.std.specs.Prelude.{Result, Ok, Err}
use Rattle.std.specs.Result.{IsErrAnd}
use Rattle.std.proofs.lemmas.Result.{err_from_is_err_and}
use Rattle.imageview.specs.Image.{Image, is_image, in_range}
use Rattle.imageview.specs.Patch.{inside, supports_patch}
use Rattle.imageview.specs.View.{passing}
use Rattle.imageview.proofs.ImageLaws as images
use Rattle.refine_operator.specs.Call as Operator
use Rattle.refine_formulas.specs.declared.SaddlePointConfig.{SaddlePointConfig}
use Rattle.refine_fits.specs.declared.Seed.{Seed}
use Rattle.refine_fits.specs.StepsAdding.{Sound, PatchWithin}
use Rattle.refine_seed.specs.declared.Unrefined.{Unrefined}
use Rattle.refine_seed.specs.declared.Unrefined.TheVariants.{Refused}
use Rattle.refine_seed.specs.declared.Why.TheVariants.{OutOfBounds, IllConditioned, BadSeed}
use Rattle.refusals.specs.declared.Refusal.{Refusal}
use Rattle.refusals.specs.declared.Refusal.TheVariants.{BadImage, BadSample, BadRadius, BadLimit}
use Rattle.refine_seed.specs.Refine.{Refined, unmoved, good_limits, is_place, centre_of, seed_of, admit_of, answered, refine_with, lent_with, refine_lent, with_operator, refine_of}
use Rattle.refine_seed.specs.StepsSpot.{Ready, seed_alone}
use Rattle.refine_seed.proofs.StepLaws.{no, yes}

-- what a `?` answers
pub err_is : {A E : Type 0} (r : Result A E) (e : E) → IsErrAnd r (λ y. y ≡ e) → r ≡ Err e
err_is r e h = let w = err_from_is_err_and r h in w.1 ∙ ap Err w.2

-- ---- a centre inside
inside-low : (radius n : ℕ) (z : ℤ) → inside radius n z ≡ true → radius ≤ nat_abs z
inside-low radius n (pos c) h = leb-true radius c ((and-eq-true_iff (leb radius c) (ltb (c + radius) n)).0 h).0
inside-low radius n (negsuc c) h = cc

inside-high : (radius n : ℕ) (z : ℤ) → inside radius n z ≡ true → nat_abs z + radius < n
inside-high radius n (pos c) h = ltb-true (c + radius) n ((and-eq-true_iff (leb radius c) (ltb (c + radius) n)).0 h).1
inside-high radius n (negsuc c) h = cc

within_of : (img : Image) (radius : ℕ) (z w : ℤ) → is_image img ≡ true → leb radius 7 ≡ true → supports_patch img radius z w ≡ true → PatchWithin img radius (nat_abs z) (nat_abs w)
unfolding supports_patch
within_of img radius z w i r p =
    let both = (and-eq-true_iff (inside radius img.width z) (inside radius img.height w)).0 p in
    record {
      sound = record { image = images.tested img (subst T (sym i) tt); small = leb-true radius 7 r };
      left = inside-low radius img.width z both.0;
      right = inside-high radius img.width z both.0;
      above = inside-low radius img.height w both.1;
      below = inside-high radius img.height w both.1;
    }

pub ready-sound : (img : Image) (cfg : SaddlePointConfig) → Ready img cfg → Sound img cfg.radius
ready-sound img cfg r = record { image = images.tested img (images.passed r.image); small = leb-true cfg.radius 7 r.small }

-- ---- the tests as one answer
abbrev pub chosen : Bool → Bool → Bool → Bool → Bool → Bool → Seed → Result Seed Unrefined
chosen i g r l f p s =
    cond (not i) (Err (Refused BadImage))
    (cond (not g) (Err (Refused BadSample))
    (cond (not r) (Err (Refused BadRadius))
    (cond (not l) (Err (Refused BadLimit))
    (cond (not f) (Err (unmoved BadSeed))
    (cond (not p) (Err (unmoved OutOfBounds))
    (Ok s))))))

-- what a good answer says of the tests
record Passed (i r p : Bool) (s t : Seed) : Type 0 where
  pub image : i ≡ true
  pub radius : r ≡ true
  pub patch : p ≡ true
  pub seed : t ≡ s

passed : (i g r l f p : Bool) (s t : Seed) → chosen i g r l f p s ≡ Ok t → Passed i r p s t
passed false g r l f p s t h = cc
passed true false r l f p s t h = cc
passed true true false l f p s t h = cc
passed true true true false f p s t h = cc
passed true true true true false p s t h = cc
passed true true true true true false s t h = cc
passed true true true true true true s t h = record { image = refl; radius = refl; patch = refl; seed = cc }

module _ (img : Image) (cfg : SaddlePointConfig) (x y : Float) where
  abbrev supports : Bool
  supports = supports_patch img cfg.radius (centre_of x) (centre_of y)

  -- the tests, one after the other
  pub to : (i g r l f p : Bool) → is_image img ≡ i → in_range img ≡ g → leb cfg.radius 7 ≡ r → good_limits cfg ≡ l → is_place x y ≡ f → supports ≡ p → chosen i g r l f p (seed_of x y) ≡ admit_of img cfg x y
  to i g r l f p a m b c d e =
      sym (ap (λ (z : Bool). chosen z (in_range img) (leb cfg.radius 7) (good_limits cfg) (is_place x y) supports (seed_of x y)) a
      ∙ ap (λ (z : Bool). chosen i z (leb cfg.radius 7) (good_limits cfg) (is_place x y) supports (seed_of x y)) m
      ∙ ap (λ (z : Bool). chosen i g z (good_limits cfg) (is_place x y) supports (seed_of x y)) b
      ∙ ap (λ (z : Bool). chosen i g r z (is_place x y) supports (seed_of x y)) c
      ∙ ap (λ (z : Bool). chosen i g r l z supports (seed_of x y)) d
      ∙ ap (λ (z : Bool). chosen i g r l f z (seed_of x y)) e)

  -- where the image and the settings passed, the seed's own tests are all that is left
  pub alone : Ready img cfg → seed_alone img.width img.height cfg.radius x y ≡ admit_of img cfg x y
  unfolding supports_patch
  alone r = to true true true true (is_place x y) supports r.image r.range r.small r.limits refl refl

  pub alone_is : is_image img ≡ true → in_range img ≡ true → cfg.radius ≤ 7 → good_limits cfg ≡ true → seed_alone img.width img.height cfg.radius x y ≡ admit_of img cfg x y
  alone_is i r s l = alone (record { image = i; range = r; small = le-leb cfg.radius 7 s; limits = l })

  -- an image that did not pass its tests is refused
  pub not_passing : (r : Refusal) → passing img ≡ Err r → Err (Refused r) ≡ admit_of img cfg x y
  not_passing r h = by (is_image img) (in_range img) refl refl h
    where
      by : (i g : Bool) → is_image img ≡ i → in_range img ≡ g → cond i (cond g (Ok img) (Err BadSample)) (Err BadImage) ≡ Err r → Err (Refused r) ≡ admit_of img cfg x y
      by false g p q e = let k : r ≡ BadImage = cc in ap (λ (v : Refusal). Err (Refused v)) k ∙ to false (in_range img) _ _ _ _ p refl refl refl refl refl
      by true false p q e = let k : r ≡ BadSample = cc in ap (λ (v : Refusal). Err (Refused v)) k ∙ to true false _ _ _ _ p q refl refl refl refl
      by true true p q e = cc

  pub good-within : (seed : Seed) → admit_of img cfg x y ≡ Ok seed → PatchWithin img cfg.radius seed.centre_x seed.centre_y
  good-within seed h =
      let t = passed (is_image img) (in_range img) (leb cfg.radius 7) (good_limits cfg) (is_place x y) supports (seed_of x y) seed h in
      subst (λ (s : Seed). PatchWithin img cfg.radius s.centre_x s.centre_y) (sym t.seed)
      (within_of img cfg.radius (centre_of x) (centre_of y) t.image t.radius t.patch)

  -- what the tests say decides the answer
  pub own_answer : (wanted : Bool) (d : Result Seed Unrefined) → d ≡ admit_of img cfg x y → answered d (λ seed. with_operator img cfg seed wanted (Operator.way_of cfg.radius)) ≡ refine_of img cfg x y wanted
  unfolding refine_of
  own_answer wanted d h = ap (λ (v : Result Seed Unrefined). answered v (λ seed. with_operator img cfg seed wanted (Operator.way_of cfg.radius))) h

  pub lent_answer : (wanted : Bool) (columns overlap : List Float) (d : Result Seed Unrefined) → d ≡ admit_of img cfg x y → answered d (λ seed. lent_with cfg (refine_with img cfg seed wanted columns overlap)) ≡ refine_lent img cfg x y wanted columns overlap
  unfolding refine_lent
  lent_answer wanted columns overlap d h = ap (λ (v : Result Seed Unrefined). answered v (λ seed. lent_with cfg (refine_with img cfg seed wanted columns overlap))) h

-- at radius 0 there is no operator, whatever is lent
pub lent_zero : (cfg : SaddlePointConfig) (a : Refined) → cfg.radius ≡ 0 → Err (unmoved IllConditioned) ≡ lent_with cfg a
lent_zero cfg a h = sym (yes (eqb cfg.radius 0) (Err (unmoved IllConditioned)) a (eq-eqb cfg.radius 0 h))

pub lent_other : (cfg : SaddlePointConfig) (a : Refined) → (cfg.radius ≡ 0 → ⊥) → a ≡ lent_with cfg a
lent_other cfg a h = sym (no (eqb cfg.radius 0) (Err (unmoved IllConditioned)) a (ne_eqb cfg.radius 0 h))

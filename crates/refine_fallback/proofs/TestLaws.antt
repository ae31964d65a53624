-- Laws of the tests: which way the call goes by them, what holds where all pass, and that each way ends as it should.
use mathlib.Core.Path.{◌≡◌, refl, sym, ap, ◌∙◌, subst}
use mathlib.Core.Bool.{Bool, true, false, not, ◌&&◌, ◌||◌, cond}
use mathlib.Core.Logic.{inl, inr}
use mathlib.Core.List.{List}
use Prim.Native.Nat.{ℕ, ◌/◌, ◌≤◌}
use lib.Dec.{leb, ltb}
use lib.ListN.{length}
use lib.Ieee.{Float}
use borrow.Author.Tests.{ltb-false, not-false}
use Rattle.shapes.proofs.TestLaws.{first_of, second-of, first-not, second-not}
use Rattle.corners.specs.Corners.{whole, too_many}
use Rattle.refusals.specs.declared.Refusal.{Refusal}
use Rattle.refusals.specs.declared.Refusal.TheVariants.{BadImage, BadSample, BadRadius, BadLimit, BadLength, TooMany, BadOut}
use Rattle.imageview.specs.Image.{Image, is_image, in_range}
use Rattle.imageview.specs.View.{IsRefusedBy}
use Rattle.imageview.specs.Steps.{IsTested}
use Rattle.refine_formulas.specs.declared.SaddlePointConfig.{SaddlePointConfig}
use Rattle.refine_seed.specs.declared.Spot.{Spot}
use Rattle.refine_seed.specs.Refine.{good_limits}
use Rattle.std.specs.Prelude.{Result, Ok, Err, Option}
use Rattle.refine_list.specs.Refining.{records_by}
use Rattle.refine_fallback.specs.Call.{either, passes_by, Way, refused, wrote, way_by, answer_of, out_after, passes_after, Done}
use Rattle.refine_seed.specs.StepsSpot.{Ready}
use Rattle.refine_fallback.specs.Steps.{tests_of, Walked}

-- ---- the tests by what each says, and anything at the end
abbrev pub by_tests : {W : Type 0} → (Refusal → W) → Bool → Bool → Bool → Bool → Bool → Bool → Bool → W → W
by_tests say a s b c d e f w = cond a (say BadImage) (cond s (say BadSample) (cond b (say BadRadius) (cond c (say BadLimit) (cond d (say BadLength) (cond e (say TooMany) (cond f (say BadOut) w))))))

-- two readings that agree on each refusal and at the end agree
pub through : {A B X : Type 0} (say : Refusal → A) (tell : Refusal → B) (g : A → X) (h : B → X) → ((r : Refusal) → g (say r) ≡ h (tell r)) → (v : A) (w : B) → g v ≡ h w → (a s b c d e f : Bool) → g (by_tests say a s b c d e f v) ≡ h (by_tests tell a s b c d e f w)
through say tell g h k v w e₀ true s b c d e f = k BadImage
through say tell g h k v w e₀ false true b c d e f = k BadSample
through say tell g h k v w e₀ false false true c d e f = k BadRadius
through say tell g h k v w e₀ false false false true d e f = k BadLimit
through say tell g h k v w e₀ false false false false true e f = k BadLength
through say tell g h k v w e₀ false false false false false true f = k TooMany
through say tell g h k v w e₀ false false false false false false true = k BadOut
through say tell g h k v w e₀ false false false false false false false = e₀

abbrev pub all_good : Result Unit Refusal
all_good = Ok tt

abbrev goes : Result Unit Refusal → Way → Way
goes (Ok done) w = w
goes (Err r) w = refused r

abbrev is_good : Result Unit Refusal → Type 0
is_good (Ok done) = Unit {0}
is_good (Err r) = ⊥

pub record Passed (a s b c f : Bool) : Type 0 where
  pub image : a ≡ false
  pub range : s ≡ false
  pub radii : b ≡ false
  pub limits : c ≡ false
  pub room : f ≡ false

all-passed : (a s b c d e f : Bool) → by_tests Err a s b c d e f all_good ≡ all_good → Passed a s b c f
all-passed true s b c d e f h = absurd (subst is_good (sym h) tt)
all-passed false true b c d e f h = absurd (subst is_good (sym h) tt)
all-passed false false true c d e f h = absurd (subst is_good (sym h) tt)
all-passed false false false true d e f h = absurd (subst is_good (sym h) tt)
all-passed false false false false true e f h = absurd (subst is_good (sym h) tt)
all-passed false false false false false true f h = absurd (subst is_good (sym h) tt)
all-passed false false false false false false true h = absurd (subst is_good (sym h) tt)
all-passed false false false false false false false h = record { image = refl; range = refl; radii = refl; limits = refl; room = refl }

-- ---- where all pass
module _ (one two : SaddlePointConfig) (len room bytes : ℕ) (good : tests_of one two len room bytes ≡ all_good) where
  passed : Passed false false (not (leb one.radius 7 && leb two.radius 7)) (not (good_limits one && good_limits two)) (ltb room len || ltb bytes (len / 3))
  passed = all-passed false false (not (leb one.radius 7 && leb two.radius 7)) (not (good_limits one && good_limits two)) (not (whole len)) (too_many len) (ltb room len || ltb bytes (len / 3)) good

  radii : (leb one.radius 7 && leb two.radius 7) ≡ true
  radii = not-false (leb one.radius 7 && leb two.radius 7) passed.radii

  limits : (good_limits one && good_limits two) ≡ true
  limits = not-false (good_limits one && good_limits two) passed.limits

  pub first-ready : {img : Image} → IsTested img → Ready img one
  first-ready t = record { image = t.image; range = t.range; small = first_of (leb one.radius 7) (leb two.radius 7) radii; limits = first_of (good_limits one) (good_limits two) limits }

  pub second-ready : {img : Image} → IsTested img → Ready img two
  second-ready t = record { image = t.image; range = t.range; small = second-of (leb one.radius 7) (leb two.radius 7) radii; limits = second-of (good_limits one) (good_limits two) limits }

  pub has_room : (len ≤ room) × (len / 3 ≤ bytes)
  has_room =
      (ltb-false room len (first-not (ltb room len) (ltb bytes (len / 3)) passed.room), ltb-false bytes (len / 3) (second-not (ltb room len) (ltb bytes (len / 3)) passed.room))

-- ---- each way ends as it should
module _ (first second : ℕ → Option Spot) (img : Image) (one two : SaddlePointConfig) (corners out : List Float) (passes : List ℕ) where
  abbrev way : Way
  way = way_by first second img one two corners (length out) (length passes)

  abbrev all : Way
  all = wrote (records_by (λ i. either (first i) (second i)) corners (length corners / 3)) (passes_by first second (length corners / 3))

  abbrev said : Result Unit Refusal
  said = tests_of one two (length corners) (length out) (length passes)

  abbrev settled : Way
  settled = by_tests refused false false (not (leb one.radius 7 && leb two.radius 7)) (not (good_limits one && good_limits two)) (not (whole (length corners))) (too_many (length corners)) (ltb (length out) (length corners) || ltb (length passes) (length corners / 3)) all

  ends : (r : Refusal) → way ≡ refused r → Done way out passes (Err r) out passes
  ends r e = record { answers = sym (ap answer_of e); leaves = sym (ap (out_after out) e); marks = sym (ap (passes_after passes) e) }

  not-image : is_image img ≡ false → way ≡ refused BadImage
  unfolding way_by
  not-image h = ap (λ (i : Bool). cond (not i) (refused BadImage) (cond (not (in_range img)) (refused BadSample) settled)) h

  module _ (image : is_image img ≡ true) where
    an-image : way ≡ cond (not (in_range img)) (refused BadSample) settled
    unfolding way_by
    an-image = ap (λ (i : Bool). cond (not i) (refused BadImage) (cond (not (in_range img)) (refused BadSample) settled)) image

    not-range : in_range img ≡ false → way ≡ refused BadSample
    not-range h = an-image ∙ ap (λ (i : Bool). cond (not i) (refused BadSample) settled) h

    way-is : in_range img ≡ true → way ≡ goes said all
    way-is h =
        an-image ∙ ap (λ (i : Bool). cond (not i) (refused BadSample) settled) h
        ∙ through refused Err (λ (w : Way). w) (λ (t : Result Unit Refusal). goes t all) (λ r. refl) all all_good refl false false (not (leb one.radius 7 && leb two.radius 7)) (not (good_limits one && good_limits two)) (not (whole (length corners))) (too_many (length corners)) (ltb (length out) (length corners) || ltb (length passes) (length corners / 3))

  -- an image that is refused
  pub refuses-image : (r : Refusal) → IsRefusedBy img r → Done way out passes (Err r) out passes
  refuses-image r (inl h) = ends r (not-image h.0 ∙ ap refused (sym h.1))
  refuses-image r (inr h) = ends r (not-range h.0 h.1 ∙ ap refused (sym h.2))

  pub refuses : IsTested img → (r : Refusal) → said ≡ Err r → Done way out passes (Err r) out passes
  refuses t r h = ends r (way-is t.image t.range ∙ ap (λ (t : Result Unit Refusal). goes t all) h)

  pub refines : IsTested img → said ≡ all_good → (n : ℕ) (out' : List Float) (passes' : List ℕ) → Walked first second corners out passes n out' passes' → Done way out passes (Ok n) out' passes'
  refines t h n out' passes' w =
      let e : way ≡ all = way-is t.image t.range ∙ ap (λ (t : Result Unit Refusal). goes t all) h in
      record { answers = ap Ok w.count ∙ sym (ap answer_of e); leaves = w.leaves ∙ sym (ap (out_after out) e); marks = w.marks ∙ sym (ap (passes_after passes) e) }

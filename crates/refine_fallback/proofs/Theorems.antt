-- With equal settings a second try is the single pass; each pass byte says which settings gave its record.
use mathlib.Core.Path.{◌≡◌, refl, sym, ap, ◌∙◌, fun_ext}
use mathlib.Core.Bool.{Bool, true, false, not, ◌&&◌, ◌||◌, cond}
use mathlib.Core.List.{List, [], ◌∷◌, ◌++◌, append_assoc}
use Prim.Native.Nat.{ℕ, zero, suc, ◌+◌, ◌*◌, ◌/◌, ◌≤◌}
use native.Mathlib.Omega.{arith}
use lib.Dec.{leb, ltb, eqb}
use lib.ListN.{length, length-append}
use lib.Ieee.{Float}
use borrow.Author.Tests.{le-ltb}
use Rattle.shapes.specs.Numbers.{entry}
use Rattle.corners.specs.Corners.{whole, too_many}
use Rattle.imageview.specs.Image.{Image, is_image, in_range}
use Rattle.refusals.specs.declared.Refusal.{Refusal}
use Rattle.refine_formulas.specs.declared.SaddlePointConfig.{SaddlePointConfig}
use Rattle.refine_seed.specs.declared.Spot.{Spot}
use Rattle.refine_seed.specs.Refine.{good_limits}
use Rattle.std.specs.Prelude.{Ok, Option, Some, None}
use Rattle.refine_list.specs.Refining as Single
use Rattle.refine_list.specs.Refining.{record_of, records_by, spot_for}
use Rattle.refine_fallback.specs.Call.{either, pass_of, passes_by, Way, refused, wrote, way_by, way_of, answer_of, out_after}
use Rattle.refine_fallback.specs.Claims.{EqualIsSingle, chosen, second-alone, EachTold}
use Rattle.refine_fallback.proofs.TestLaws.{by_tests, through}

-- ---- records and bytes, seed by seed
module _ (first second : ℕ → Option Spot) (corners : List Float) where
  abbrev best : ℕ → Option Spot
  best i = either (first i) (second i)

  abbrev records : ℕ → List Float
  records = records_by best corners

  abbrev bytes : ℕ → List ℕ
  bytes = passes_by first second

  -- one record a byte
  one_each : (n : ℕ) → length (records n) ≡ 3 * length (bytes n)
  unfolding records_by passes_by
  one_each zero = refl
  one_each (suc n) =
      length-append (records n) (record_of (best n) (entry corners (3 * n + 2)))
      ∙ more (length (records n)) (length (bytes n)) (length (record_of (best n) (entry corners (3 * n + 2)))) (length (pass_of (first n) (second n))) (one_each n) (by (first n) (second n))
      ∙ ap (λ (k : ℕ). 3 * k) (sym (length-append (bytes n) (pass_of (first n) (second n))))
    where
      by : (a b : Option Spot) → length (record_of (either a b) (entry corners (3 * n + 2))) ≡ 3 * length (pass_of a b)
      by (Some v) b = refl
      by None (Some v) = refl
      by None None = refl

      more : (a b c d : ℕ) → a ≡ 3 * b → c ≡ 3 * d → a + c ≡ 3 * (b + d)
      more a b c d e f = omega arith

-- ---- the records with a byte
-- of one more seed, behind whole records
chosen_more : (p : ℕ) (bytes more : List ℕ) (l r : List Float) → length l ≡ 3 * length bytes → chosen p (bytes ++ more) (l ++ r) ≡ chosen p bytes l ++ chosen p more r
chosen_more p [] more [] r h = refl
chosen_more p [] more (x ∷ l) r h = absurd (let z : ⊥ = omega arith in z)
chosen_more p (b ∷ bytes) more (x ∷ y ∷ z ∷ l) r h =
    ap (λ (t : List Float). cond (eqb b p) (x ∷ y ∷ z ∷ []) [] ++ t) (chosen_more p bytes more l r (omega arith))
    ∙ sym (append_assoc (cond (eqb b p) (x ∷ y ∷ z ∷ []) []) (chosen p bytes l) (chosen p more r))
chosen_more p (b ∷ bytes) more [] r h = absurd (let z : ⊥ = omega arith in z)
chosen_more p (b ∷ bytes) more (x ∷ []) r h = absurd (let z : ⊥ = omega arith in z)
chosen_more p (b ∷ bytes) more (x ∷ y ∷ []) r h = absurd (let z : ⊥ = omega arith in z)

module _ (first second : ℕ → Option Spot) (corners : List Float) (p : ℕ) (mine : Option Spot → Option Spot → Option Spot) (by : (a b : Option Spot) (s : Float) → chosen p (pass_of a b) (record_of (either a b) s) ≡ record_of (mine a b) s) where
  chosen_is : (n : ℕ) → chosen p (bytes first second corners n) (records first second corners n) ≡ records_by (λ i. mine (first i) (second i)) corners n
  unfolding records_by passes_by
  chosen_is zero = refl
  chosen_is (suc n) =
      chosen_more p (bytes first second corners n) (pass_of (first n) (second n)) (records first second corners n) (record_of (best first second corners n) (entry corners (3 * n + 2))) (one_each first second corners n)
      ∙ ap (λ (l : List Float). l ++ chosen p (pass_of (first n) (second n)) (record_of (best first second corners n) (entry corners (3 * n + 2)))) (chosen_is n)
      ∙ ap (λ (l : List Float). records_by (λ i. mine (first i) (second i)) corners n ++ l) (by (first n) (second n) (entry corners (3 * n + 2)))

first-chosen : (a b : Option Spot) (s : Float) → chosen 1 (pass_of a b) (record_of (either a b) s) ≡ record_of a s
first-chosen (Some v) b s = refl
first-chosen None (Some v) s = refl
first-chosen None None s = refl

second-chosen : (a b : Option Spot) (s : Float) → chosen 2 (pass_of a b) (record_of (either a b) s) ≡ record_of (second-alone a b) s
second-chosen (Some v) b s = refl
second-chosen None (Some v) s = refl
second-chosen None None s = refl

pub each-told : EachTold
each-told first second corners n =
    record {
      one_each = one_each first second corners n;
      firsts = chosen_is first second corners 1 (λ a b. a) first-chosen n;
      seconds = chosen_is first second corners 2 second-alone second-chosen n;
    }

-- ---- equal settings
same_spot : (a : Option Spot) → either a a ≡ a
same_spot (Some v) = refl
same_spot None = refl

both-same : (b : Bool) → (b && b) ≡ b
both-same true = refl
both-same false = refl

or-none : (a b : Bool) → b ≡ false → (a || b) ≡ a
or-none true b e = refl
or-none false b e = e

module _ (img : Image) (cfg : SaddlePointConfig) (corners out : List Float) (bytes : ℕ) (enough : length corners / 3 ≤ bytes) where
  abbrev spots : ℕ → Option Spot
  spots = spot_for img cfg corners

  abbrev n : ℕ
  n = length corners / 3

  abbrev single : {W : Type 0} → (Refusal → W) → W → W
  single say = by_tests say (not (is_image img)) (not (in_range img)) (not (leb cfg.radius 7)) (not (good_limits cfg)) (not (whole (length corners))) (too_many (length corners)) (ltb (length out) (length corners))

  spots-same : (λ i. either (spots i) (spots i)) ≡ spots
  spots-same = fun_ext (λ i. same_spot (spots i))

  way-is : way_of img cfg cfg corners (length out) bytes ≡ single refused (wrote (records_by spots corners n) (passes_by spots spots n))
  unfolding way_by
  way-is =
      rw (both-same (leb cfg.radius 7), both-same (good_limits cfg), or-none (ltb (length out) (length corners)) (ltb bytes n) (le-ltb bytes n enough))
      (ap (λ (f : ℕ → Option Spot). single refused (wrote (records_by f corners n) (passes_by spots spots n))) spots-same)

  -- as many bytes as records
  count : length (passes_by spots spots n) ≡ length (records_by spots corners n) / 3
  count = third (length (passes_by spots spots n)) (length (records_by spots corners n)) (sym (ap (λ (f : ℕ → Option Spot). length (records_by f corners n)) spots-same) ∙ one_each spots spots corners n)
    where
      third : (a b : ℕ) → b ≡ 3 * a → a ≡ b / 3
      third a b e = omega arith

  -- whatever is read off both ways
  alike : {X : Type 0} (g : Way → X) (h : Single.Way → X) → ((r : Refusal) → g (refused r) ≡ h (Single.refused r)) → g (wrote (records_by spots corners n) (passes_by spots spots n)) ≡ h (Single.wrote (records_by spots corners n)) → g (way_of img cfg cfg corners (length out) bytes) ≡ h (Single.way_of img cfg corners (length out))
  unfolding Single.way_of
  alike g h k e =
      ap g way-is
      ∙ through refused Single.refused g h k (wrote (records_by spots corners n) (passes_by spots spots n)) (Single.wrote (records_by spots corners n)) e (not (is_image img)) (not (in_range img)) (not (leb cfg.radius 7)) (not (good_limits cfg)) (not (whole (length corners))) (too_many (length corners)) (ltb (length out) (length corners))

pub equal-is-single : EqualIsSingle
equal-is-single img cfg corners out bytes enough =
    (alike img cfg corners out bytes enough answer_of Single.answer_of (λ r. refl) (ap Ok (count img cfg corners out bytes enough)), alike img cfg corners out bytes enough (out_after out) (Single.out_after out) (λ r. refl) refl)

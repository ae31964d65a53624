-- The ways out of `solve`, by its tests; and that an accepted saddle has a determinant below zero and a score above it.
use mathlib.Core.Path.{◌≡◌, refl, sym, ap, ◌∙◌, subst}
use mathlib.Core.Bool.{Bool, true, false, ◌&&◌, cond, false≢true}
use Prim.Native.Nat.{ℕ, zero, suc, ◌+◌, ◌*◌, ◌<◌}
use native.Mathlib.Nat.{mul-pos, zero-mul, not-suc-le-zero}
use native.Mathlib.Omega.{arith}
use mathlib.Core.List.{List}
use lib.IntN.{ℤ}
use lib.Dec.{T, eqb, ltb, lt→ltb}
use lib.Ieee.{Float, nan, inf, fin, binary32, fits, up, down, lt, neg, mul, div}
use lib.Ieee.Fits.{up_pos, down_pos, neg-fits, sub-fits}
use lib.Ieee.Positive.{positive}
use borrow.Author.Tests.{lt-ltb, ltb-true, not-true}
use lib.Ieee.Scale.{finite}
use Rattle.floats.specs.Magnitude.{magnitude}
use Rattle.floats.specs.Root.{sqrt}
use Rattle.floats.proofs.NearestRoots.{sqrt-nearest}
use Rattle.shapes.specs.Numbers.{plus_zero, one, entry}
use Rattle.refine_formulas.specs.declared.SaddlePointConfig.{SaddlePointConfig}
use Rattle.refine_formulas.specs.declared.PatchSaddle.{PatchSaddle}
use Rattle.refine_formulas.specs.declared.Flaw.{Flaw}
use Rattle.refine_formulas.specs.declared.Flaw.TheVariants.{AboveMargin, TooSmall, NotFinite}
use Rattle.std.specs.Prelude.{Ok}
use Rattle.refine_formulas.specs.Numbers.{◌⊗◌, ◌⊘◌, four}
use Rattle.refine_formulas.specs.Solve.{determinant, above_margin, too_small, offset_x, offset_y, saddle_of, refused, solved_from, solve, good_limit, score_of}
use Rattle.refine_formulas.proofs.Choice.{where-true, where-false}

abbrev pub det_of : List Float → Float
det_of l = determinant (entry l 0) (entry l 1) (entry l 2)

abbrev pub ux_of : List Float → Float
ux_of l = offset_x l (one ⊘ det_of l)

abbrev pub uy_of : List Float → Float
uy_of l = offset_y l (one ⊘ det_of l)

module _ (cfg : SaddlePointConfig) (l : List Float) where
  pub above-margin : above_margin cfg (det_of l) ≡ true → refused AboveMargin (det_of l) ≡ solve cfg l
  unfolding solve
  above-margin h = where-true _ _ _ h

  -- m is the magnitude that was computed, and p and q the tests of the offsets
  module _ (m : Float) (e : m ≡ magnitude (det_of l)) (h : above_margin cfg (det_of l) ≡ false) where
    small : (b : Bool) → lt m cfg.min_abs_det ≡ b → too_small cfg (det_of l) ≡ b
    small b g = ap (λ (z : Float). lt z cfg.min_abs_det) (sym e) ∙ g

    pub too_small_lem : lt m cfg.min_abs_det ≡ true → refused TooSmall (det_of l) ≡ solve cfg l
    unfolding solve
    too_small_lem g = where-true _ _ _ (small true g) ∙ where-false _ _ _ h

    module _ (g : lt m cfg.min_abs_det ≡ false) (p q : Bool) (i : p ≡ finite (ux_of l)) (j : q ≡ finite (uy_of l)) where
      tested-offsets : solved_from l (det_of l) (ux_of l) (uy_of l) ≡ solve cfg l
      unfolding solve
      tested-offsets = where-false _ _ _ (small false g) ∙ where-false _ _ _ h

      both : (b : Bool) → (p && q) ≡ b → (finite (ux_of l) && finite (uy_of l)) ≡ b
      both b n = ap (λ (z : Bool). z && finite (uy_of l)) (sym i) ∙ ap (λ (z : Bool). p && z) (sym j) ∙ n

      pub endless : (p && q) ≡ false → refused NotFinite (det_of l) ≡ solve cfg l
      endless n = where-false _ _ _ (both false n) ∙ tested-offsets

      pub saddle : (p && q) ≡ true → Ok (saddle_of l (det_of l) (ux_of l) (uy_of l)) ≡ solve cfg l
      saddle n = where-true _ _ _ (both true n) ∙ tested-offsets

-- ---- the sign of an accepted determinant
record Accepted (p a : Bool) (s f : PatchSaddle) : Type 0 where
  under : p ≡ false
  ends : a ≡ true
  is : s ≡ f

clash : {X : Type 0} (v : Flaw) (d : Float) (f : PatchSaddle) → refused v d ≡ Ok f → X
clash v d f e = absurd (let z : ◌≡◌ {A = ℕ} 0 1 = cc in omega arith)

-- what was tested where the answer is a saddle
accepted : (p q a b : Bool) (d : Float) (s f : PatchSaddle) → cond p (refused AboveMargin d) (cond q (refused TooSmall d) (cond (a && b) (Ok s) (refused NotFinite d))) ≡ Ok f → Accepted p a s f
accepted true q a b d s f e = clash AboveMargin d f e
accepted false true a b d s f e = clash TooSmall d f e
accepted false false true true d s f e = record { under = refl; ends = refl; is = cc }
accepted false false true false d s f e = clash NotFinite d f e
accepted false false false b d s f e = clash NotFinite d f e

-- nothing times a NaN or an infinity is finite
times-nan : (y : Float) → finite (y ⊗ nan) ≡ false
unfolding mul
times-nan nan = refl
times-nan (inf t) = refl
times-nan (fin t n d) = refl

times-inf : (y : Float) (s : Bool) → finite (y ⊗ inf s) ≡ false
unfolding mul
times-inf nan s = refl
times-inf (inf t) s = refl
times-inf (fin t n d) s = go (eqb n 0) _
  where
    go : (b u : Bool) → finite (cond b nan (inf u)) ≡ false
    go true u = refl
    go false u = refl

some : (a b : ℕ) → 0 < a → ltb 0 (a + b) ≡ true
some a b h = lt-ltb 0 (a + b) (omega arith)

more : (a b : ℕ) → 0 < b → ltb 0 (a + b) ≡ true
more a b h = lt-ltb 0 (a + b) (omega arith)

scaled : (n : ℕ) (e : ℤ) (k : ℕ) → 0 < k → 0 < suc n * up e * k
scaled n e k h = mul-pos (mul-pos {m = suc n} {n = up e} (omega arith) (up_pos e)) h

-- below a margin that is a limit, with some finite product with its inverse, a determinant is below zero: no NaN, no zero of either sign and not +inf
below-zero : (m det y : Float) → good_limit m ≡ true → lt (neg m) det ≡ false → finite (y ⊗ (one ⊘ det)) ≡ true → lt det plus_zero ≡ true
unfolding lt neg div
below-zero m nan y g h k = absurd (false≢true (sym (times-nan y) ∙ k))
below-zero nan (inf s) y g h k = absurd (false≢true g)
below-zero (inf t) (inf s) y g h k = absurd (false≢true g)
below-zero (fin t a d) (inf true) y g h k = refl
below-zero (fin t a d) (inf false) y g h k = absurd (false≢true (sym h))
below-zero m (fin s zero e) y g h k = absurd (false≢true (sym (times-inf y _) ∙ k))
below-zero m (fin true (suc n) e) y g h k = some (suc n * up e * 1) (0 * 1 * down e) (scaled n e 1 (omega arith))
below-zero nan (fin false (suc n) e) y g h k = absurd (false≢true g)
below-zero (inf t) (fin false (suc n) e) y g h k = absurd (false≢true g)
below-zero (fin false a d) (fin false (suc n) e) y g h k = absurd (false≢true (sym h ∙ above a d n e))
  where
    above : (a : ℕ) (d : ℤ) (n : ℕ) (e : ℤ) → ltb 0 (a * up d * down e + suc n * up e * down d) ≡ true
    above a d n e = more (a * up d * down e) (suc n * up e * down d) (scaled n e (down d) (down_pos d))
below-zero (fin true zero d) (fin false (suc n) e) y g h k = absurd (false≢true (sym h ∙ over d n e))
  where
    over : (d : ℤ) (n : ℕ) (e : ℤ) → ltb (0 * up d * down e) (suc n * up e * down d) ≡ true
    over d n e = lt-ltb _ _ (subst (λ (z : ℕ). z < suc n * up e * down d) (sym (ap (λ (z : ℕ). z * down e) (zero-mul (up d)) ∙ zero-mul (down e))) (scaled n e (down d) (down_pos d)))
below-zero (fin true (suc a) d) (fin false (suc n) e) y g h k = absurd (false≢true (sym (not-true _ g) ∙ some (suc a * up d * 1) (0 * 1 * down d) (scaled a d 1 (omega arith))))

tested : (cfg : SaddlePointConfig) (l : List Float) (f : PatchSaddle) → solve cfg l ≡ Ok f → Accepted (above_margin cfg (det_of l)) (finite (ux_of l)) (saddle_of l (det_of l) (ux_of l) (uy_of l)) f
unfolding solve
tested cfg l f e = accepted _ (too_small cfg (det_of l)) _ (finite (uy_of l)) (det_of l) _ f e

-- an accepted saddle's determinant is below zero
pub det-below-zero : (cfg : SaddlePointConfig) (l : List Float) (f : PatchSaddle) → good_limit cfg.det_margin ≡ true → solve cfg l ≡ Ok f → lt f.det_h plus_zero ≡ true
det-below-zero cfg l f g e =
    let a = tested cfg l f e in
    subst (λ (s : PatchSaddle). lt s.det_h plus_zero ≡ true) a.is (below-zero cfg.det_margin (det_of l) _ g a.under a.ends)

-- ---- and its score, the root of minus the determinant, is above zero
positive-above : (x : Float) → T (positive x) → lt plus_zero x ≡ true
unfolding lt
positive-above nan p = absurd p
positive-above (inf s) p = absurd p
positive-above (fin true m e) p = absurd p
positive-above (fin false zero e) p = absurd p
positive-above (fin false (suc n) e) p = lt-ltb _ _ (subst (λ (z : ℕ). z < suc n * up e * 1) (sym (zero-mul (down e))) (scaled n e 1 (omega arith)))

root-above : (d : Float) → T (fits binary32 d) → lt d plus_zero ≡ true → lt plus_zero (sqrt binary32 (neg d)) ≡ true
unfolding lt neg sqrt
root-above nan p h = absurd (false≢true h)
root-above (inf true) p h = refl
root-above (inf false) p h = absurd (false≢true h)
root-above (fin true zero e) p h = absurd (false≢true (sym (ap (λ (z : ℕ). ltb 0 z) (none e)) ∙ h))
  where
    none : (e : ℤ) → 0 * up e * 1 + 0 * 1 * down e ≡ 0
    none e = simp zero-mul
root-above (fin true (suc n) e) p h = positive-above (sqrt binary32 (fin false (suc n) e)) (sqrt-nearest binary32 (fin false (suc n) e) (neg-fits binary32 (fin true (suc n) e) p) (lt→ltb 0 (suc n) (omega arith))).number
root-above (fin false m e) p h = absurd (not-suc-le-zero (subst (λ (z : ℕ). m * up e * 1 < z) (zero-mul (down e)) (ltb-true _ _ h)))

pub score-above-zero : (cfg : SaddlePointConfig) (l : List Float) (f : PatchSaddle) → good_limit cfg.det_margin ≡ true → solve cfg l ≡ Ok f → lt plus_zero (score_of f) ≡ true
score-above-zero cfg l f g e =
    root-above f.det_h (subst (λ (s : PatchSaddle). T (fits binary32 s.det_h)) (tested cfg l f e).is (sub-fits binary32 (four ⊗ entry l 0 ⊗ entry l 2) (entry l 1 ⊗ entry l 1))) (det-below-zero cfg l f g e)

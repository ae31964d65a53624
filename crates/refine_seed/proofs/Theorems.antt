-- What holds of every accepted answer: its score is above zero, its tries are at most 64, and each fit that was taken is a saddle that passed the box test.
use mathlib.Core.Path.{◌≡◌, refl, sym, subst}
use mathlib.Core.Bool.{Bool, true, false, ◌&&◌, cond, and-eq-true_iff}
use mathlib.Core.List.{List}
use Prim.Native.Nat.{ℕ, zero, suc, ◌+◌, ◌*◌, ◌≤◌}
use native.Mathlib.Omega.{arith}
use lib.Dec.{leb}
use lib.Ieee.{Float, lt}
use Rattle.std.specs.Prelude.{Option, Some, None, Result, Ok, Err}
use Rattle.shapes.specs.Numbers.{plus_zero, one}
use Rattle.imageview.specs.Image.{Image, is_image, in_range}
use Rattle.imageview.specs.Patch.{supports_patch}
use Rattle.refine_operator.specs.Call as Operator
use Rattle.refine_formulas.specs.declared.SaddlePointConfig.{SaddlePointConfig}
use Rattle.refine_formulas.specs.declared.PatchSaddle.{PatchSaddle}
use Rattle.refine_formulas.specs.declared.Move.{Move}
use Rattle.refine_formulas.specs.declared.Slope.{Slope}
use Rattle.refine_formulas.specs.declared.Unsolved.{Unsolved}
use Rattle.refine_formulas.specs.Numbers.{◌⊕◌, ◌⊗◌, half}
use Rattle.refine_fits.specs.Fit.{coefficients}
use Rattle.refine_formulas.specs.Solve.{solve, score_of, good_limit, settled, norm2}
use Rattle.refine_fits.specs.Windows.{WindowPlace, window_place, Fits, lacking, four, corners_at}
use Rattle.refine_formulas.specs.Between.{blend}
use Rattle.refine_formulas.specs.Sensitivity.{regular, slope_within, saddle_jacobian, sensitivity}
use Rattle.refine_seed.specs.PixelSlope.{slope_at}
use Rattle.refine_fits.specs.Candidate.{Task, near_seed, Stand, Tried, passed, taken, judged, weighed, candidate, task_at}
use Rattle.refine_seed.specs.Run.{Search, or_else, search_from, Finish, at_start, at_stand, picked, later_move, steps_from, run_of}
use Rattle.refine_formulas.specs.Covariance.{covariance_of}
use Rattle.refine_formulas.proofs.SolveLaws.{score-above-zero}
use Rattle.refine_seed.specs.declared.Estimate.{Estimate}
use Rattle.refine_seed.specs.declared.Unrefined.TheVariants.{Unmoved}
use Rattle.refine_seed.specs.declared.Why.TheVariants.{Rejected}
use Rattle.refine_fits.specs.declared.Seed.{Seed}
use Rattle.refine_seed.specs.Refine.{Refined, single, estimate, closed, closed_at, finished, from_saddle, centre_of, seed_of, answered, good_limits, is_place, with_operator, refine_of}
use Rattle.refine_seed.specs.Claims.{Solves, Boxed, EndsBoxed, Scored, RunsBoxed, AcceptedScored}
use Rattle.refine_seed.proofs.EntryLaws.{chosen}

abbrev OfTried : Task → Tried → Type 0
OfTried t passed = Unit
OfTried t (taken s) = Boxed t s

module _ (t : Task) where
  -- ---- one candidate
  by_tests : (f g : PatchSaddle) (ox oy : Float) (w : WindowPlace) (s : Stand) (b : Bool) → Solves t.cfg s.fit → b ≡ (lt (norm2 g) (norm2 f) && near_seed t (s.ox ⊕ s.fit.ux) (s.oy ⊕ s.fit.uy)) → OfTried t (cond b (taken s) passed)
  by_tests f g ox oy w s true l e = record { solves = l; near = ((and-eq-true_iff (lt (norm2 g) (norm2 f)) (near_seed t (s.ox ⊕ s.fit.ux) (s.oy ⊕ s.fit.uy))).0 (sym e)).1 }
  by_tests f g ox oy w s false l e = tt

  by_fits : (f : PatchSaddle) (ox oy : Float) (w : WindowPlace) (v : Fits) → OfTried t (weighed t f ox oy w v)
  by_fits f ox oy w lacking = tt
  by_fits f ox oy w (four c) = by-solved (solve t.cfg (blend c w.tx w.ty)) refl
    where
      by-solved : (v : Result PatchSaddle Unsolved) → solve t.cfg (blend c w.tx w.ty) ≡ v → OfTried t (judged t f ox oy w c v)
      by-solved (Err u) e = tt
      by-solved (Ok g) e = by_tests f g ox oy w (record { ox = ox; oy = oy; place = w; corners = c; fit = g }) (lt (norm2 g) (norm2 f) && near_seed t (ox ⊕ g.ux) (oy ⊕ g.uy)) (record { fit = blend c w.tx w.ty; is = e }) refl

  candidate-boxed : (f : PatchSaddle) (ox oy : Float) → OfTried t (candidate t f ox oy)
  unfolding candidate
  candidate-boxed f ox oy =
      let w = window_place t.centre_x t.centre_y ox oy in
      by_fits f ox oy w (corners_at t.img t.columns t.cfg.radius w.base_x w.base_y)

  -- ---- the candidates of a step
  else-boxed : (o : Tried) (r : Search) → OfTried t o → OfTried t r.outcome → OfTried t (or_else o r).outcome
  else-boxed passed r p q = q
  else-boxed (taken s) r p q = p

  else-few : (left : ℕ) (o : Tried) (r : Search) → r.count ≤ left → (or_else o r).count ≤ suc left
  else-few left passed r h = omega arith
  else-few left (taken s) r h = omega arith

  search-boxed : (left : ℕ) (f : PatchSaddle) (ox oy : Float) (m : Move) (scale : Float) → OfTried t (search_from left t f ox oy m scale).outcome
  unfolding search_from
  search-boxed zero f ox oy m scale = tt
  search-boxed (suc left) f ox oy m scale =
      else-boxed (candidate t f (ox ⊕ scale ⊗ m.x) (oy ⊕ scale ⊗ m.y)) (search_from left t f ox oy m (scale ⊗ half)) (candidate-boxed f (ox ⊕ scale ⊗ m.x) (oy ⊕ scale ⊗ m.y)) (search-boxed left f ox oy m (scale ⊗ half))

  search-few : (left : ℕ) (f : PatchSaddle) (ox oy : Float) (m : Move) (scale : Float) → (search_from left t f ox oy m scale).count ≤ left
  unfolding search_from
  search-few zero f ox oy m scale = omega arith
  search-few (suc left) f ox oy m scale = else-few left (candidate t f (ox ⊕ scale ⊗ m.x) (oy ⊕ scale ⊗ m.y)) (search_from left t f ox oy m (scale ⊗ half)) (search-few left f ox oy m (scale ⊗ half))

  -- ---- the steps
  picked-within : (most : ℕ) (o : Tried) (go : Stand → Finish) (stay : Finish) → OfTried t o → ((s : Stand) → Boxed t s → EndsBoxed t most (go s)) → EndsBoxed t most stay → EndsBoxed t most (picked o go stay)
  picked-within most passed go stay p q r = r
  picked-within most (taken s) go stay p q r = q s p

  either : (most : ℕ) (b : Bool) (e f : Finish) → EndsBoxed t most e → EndsBoxed t most f → EndsBoxed t most (cond b e f)
  either most true e f p q = p
  either most false e f p q = q

  more : (n k left most : ℕ) → n + 4 * suc left ≤ most → k ≤ 4 → n + k + 4 * left ≤ most
  more n k left most h l = omega arith

  here : (n left most : ℕ) → n + 4 * left ≤ most → n ≤ most
  here n left most h = omega arith

  steps-within : (most left : ℕ) (s : Stand) (n : ℕ) → Boxed t s → n + 4 * left ≤ most → EndsBoxed t most (steps_from left t s n)
  unfolding steps_from
  steps-within most zero s n b h = (b, here n zero most h)
  steps-within most (suc left) s n b h =
      let r = search_from 4 t s.fit s.ox s.oy (later_move s) one in
      let k : n + r.count + 4 * left ≤ most = more n r.count left most h (search-few 4 s.fit s.ox s.oy (later_move s) one) in
      either most (settled s.fit) (at_stand s n) (picked r.outcome (λ s'. steps_from left t s' (n + r.count)) (at_stand s (n + r.count)))
      (b, here n (suc left) most h)
      (picked-within most r.outcome (λ s'. steps_from left t s' (n + r.count)) (at_stand s (n + r.count)) (search-boxed 4 s.fit s.ox s.oy (later_move s) one) (λ s' b'. steps-within most left s' (n + r.count) b' k) (b, here (n + r.count) left most k))

  boxed : (f : PatchSaddle) → EndsBoxed t 64 (run_of t f)
  unfolding run_of
  boxed f =
      let m : Move = record { x = f.ux; y = f.uy } in
      let r = search_from 4 t f plus_zero plus_zero m one in
      let k : r.count ≤ 4 = search-few 4 f plus_zero plus_zero m one in
      either 64 (settled f) (at_start 0) (picked r.outcome (λ s. steps_from 15 t s r.count) (at_start r.count))
      (omega arith)
      (picked-within 64 r.outcome (λ s. steps_from 15 t s r.count) (at_start r.count) (search-boxed 4 f plus_zero plus_zero m one) (λ s b. steps-within 64 15 s r.count b (sum r.count k)) (top r.count k))
    where
      sum : (n : ℕ) → n ≤ 4 → n + 4 * 15 ≤ 64
      sum n h = omega arith

      top : (n : ℕ) → n ≤ 4 → n ≤ 64
      top n h = omega arith

-- ---- the end
abbrev Answers : Refined → Type 0
Answers (Ok e) = Scored e
Answers (Err e) = Unit

module _ (t : Task) (overlap : List Float) (wanted : Bool) (good : good_limit t.cfg.det_margin ≡ true) where
  scored : (f : PatchSaddle) → Solves t.cfg f → lt plus_zero (score_of f) ≡ true
  scored f s = score-above-zero t.cfg s.fit f good s.is

  pick : (b : Bool) (e f : Estimate) → Scored e → Scored f → Scored (cond b e f)
  pick true e f p q = p
  pick false e f p q = q

  closed-sound : (ox oy : Float) (w : WindowPlace) (f : PatchSaddle) (n : ℕ) (s : Slope) → Solves t.cfg f → n ≤ 64 → Scored (closed t overlap wanted ox oy w f n s)
  closed-sound ox oy w f n s p h =
      let j = saddle_jacobian f in
      let m = sensitivity j s in
      pick (regular m) (estimate t ox oy f true n (cond wanted (covariance_of overlap w.tx w.ty j m) None)) (estimate t ox oy f false n None) (record { score = scored f p; tries = h }) (record { score = scored f p; tries = h })

  centre-sound : (w : WindowPlace) (f : PatchSaddle) (n : ℕ) (s : Option Slope) → Solves t.cfg f → n ≤ 64 → Scored (closed_at t overlap wanted w f n s)
  centre-sound w f n None p h = record { score = scored f p; tries = h }
  centre-sound w f n (Some s) p h = closed-sound plus_zero plus_zero w f n s p h

  finished-sound : (f : PatchSaddle) (e : Finish) → Solves t.cfg f → EndsBoxed t 64 e → Scored (finished t overlap wanted f e)
  finished-sound f (at_start n) p h =
      let l = slope_at t.img t.columns t.cfg.radius t.centre_x t.centre_y in
      let w = window_place t.centre_x t.centre_y plus_zero plus_zero in
      pick (settled f) (closed_at t overlap wanted w f n l) (single t f n) (centre-sound w f n l p h) (record { score = scored f p; tries = h })
  finished-sound f (at_stand s n) p h =
      pick (settled s.fit) (closed t overlap wanted s.ox s.oy s.place s.fit n (slope_within s.corners s.place.tx s.place.ty)) (single t f n)
      (closed-sound s.ox s.oy s.place s.fit n (slope_within s.corners s.place.tx s.place.ty) h.0.solves h.1) (record { score = scored f p; tries = h.1 })

  by-box : (b : Bool) (e : Estimate) (d : Float) → Scored e → Answers (cond b (Ok e) (Err (Unmoved Rejected d)))
  by-box true e d p = p
  by-box false e d p = tt

  saddle-sound : (v : Result PatchSaddle Unsolved) (l : List Float) → solve t.cfg l ≡ v → Answers (from_saddle t overlap wanted v)
  saddle-sound (Err u) l e = tt
  saddle-sound (Ok f) l e = by-box (near_seed t f.ux f.uy) (finished t overlap wanted f (run_of t f)) f.det_h (finished-sound f (run_of t f) (record { fit = l; is = e }) (boxed t f))

-- ---- with the tests before it
module _ (img : Image) (cfg : SaddlePointConfig) (x y : Float) (wanted : Bool) where
  by_way : (seed : Seed) (w : Operator.Way) → good_limit cfg.det_margin ≡ true → Answers (with_operator img cfg seed wanted w)
  by_way seed (Operator.refused r) g = tt
  by_way seed Operator.none g = tt
  by_way seed (Operator.built columns overlap) g =
      let l = coefficients img columns cfg.radius seed.centre_x seed.centre_y in
      saddle-sound (task_at img columns cfg seed) overlap wanted g (solve cfg l) l refl

  by-bools : (i g r l f p : Bool) (seed : Seed) (go : Seed → Refined) → (l ≡ true → Answers (go seed)) → Answers (answered (chosen i g r l f p seed) go)
  by-bools false g r l f p seed go h = tt
  by-bools true false r l f p seed go h = tt
  by-bools true true false l f p seed go h = tt
  by-bools true true true false f p seed go h = tt
  by-bools true true true true false p seed go h = tt
  by-bools true true true true true false seed go h = tt
  by-bools true true true true true true seed go h = h refl

  sound : Answers (refine_of img cfg x y wanted)
  unfolding refine_of
  sound =
      by-bools (is_image img) (in_range img) (leb cfg.radius 7) (good_limits cfg) (is_place x y) (supports_patch img cfg.radius (centre_of x) (centre_of y)) (seed_of x y) (λ seed. with_operator img cfg seed wanted (Operator.way_of cfg.radius))
      (λ g. by_way (seed_of x y) (Operator.way_of cfg.radius) ((and-eq-true_iff (good_limit cfg.det_margin) (good_limit cfg.max_offset)).0 ((and-eq-true_iff (good_limit cfg.det_margin && good_limit cfg.max_offset) (good_limit cfg.min_abs_det)).0 g).0).0)

-- ---- the claims
pub run-within : RunsBoxed
run-within t f = boxed t f

pub accepted-sound : AcceptedScored
accepted-sound img cfg x y wanted e h = subst Answers h (sound img cfg x y wanted)

-- What is answered now, with the names of the three tests forgotten, is what was answered before: solving a fit refuses as it did, and everything after it reads no name.
use mathlib.Core.Path.{◌≡◌, refl, ap, ◌∙◌}
use mathlib.Core.Bool.{Bool, true, false, ◌&&◌, ◌||◌, cond}
use mathlib.Core.List.{List}
use lib.Dec.{leb, eqb}
use lib.Ieee.{Float}
use Rattle.std.specs.Prelude.{Result, Ok, Err}
use lib.Ieee.Scale.{finite}
use Rattle.shapes.specs.Numbers.{one, entry}
use Rattle.imageview.specs.Image.{Image, is_image, in_range}
use Rattle.imageview.specs.Patch.{supports_patch}
use Rattle.refine_operator.specs.Call as Operator
use Rattle.refine_formulas.specs.declared.SaddlePointConfig.{SaddlePointConfig}
use Rattle.refine_formulas.specs.declared.PatchSaddle.{PatchSaddle}
use Rattle.refine_formulas.specs.declared.Flaw.TheVariants.{AboveMargin, TooSmall, NotFinite}
use Rattle.refine_formulas.specs.declared.Unsolved.{Unsolved}
use Rattle.refine_formulas.specs.declared.Corners.{Corners}
use Rattle.refine_formulas.specs.Numbers.{◌⊘◌}
use Rattle.refine_formulas.specs.Solve as Solve
use Rattle.refine_formulas.specs.Solve.{determinant, above_margin, too_small, offset_x, offset_y, saddle_of, solve}
use Rattle.refine_fits.specs.declared.Seed.{Seed}
use Rattle.refine_fits.specs.Candidate.{Task, task_at, near_seed, judged}
use Rattle.refine_fits.specs.Windows.{WindowPlace}
use Rattle.refine_fits.specs.Fit.{coefficients}
use Rattle.refine_seed.specs.declared.Estimate.{Estimate}
use Rattle.refine_seed.specs.declared.Unrefined.TheVariants.{Unmoved, Refused}
use Rattle.refine_seed.specs.declared.Why.TheVariants.{Rejected, OutOfBounds, IllConditioned, BadSeed, Flawed}
use Rattle.refine_seed.specs.Run.{run_of}
use Rattle.refine_seed.specs.Refine.{Refined, unmoved, good_limits, is_place, centre_of, seed_of, admit_of, answered, finished, from_saddle, refine_with, with_operator, lent_with, refine_of, refine_lent, number_of, old_number, values_of}
use Rattle.refine_seed.specs.Before.{Once, refused, saddle, solve_once, from_once, judged_once, seed_once, with_once, lent_once, refine_once, forgotten, AsBefore, CandidatesAsBefore, RefinesAsBefore, LentAsBefore}
use Rattle.refine_seed.proofs.EntryLaws.{chosen}
use Rattle.refine_seed.proofs.NumberLaws.{old-refusal}

-- ---- a fit
abbrev unnamed : Result PatchSaddle Unsolved → Once
unnamed (Err u) = refused u.det_h
unnamed (Ok f) = saddle f

by_tests : (p q e : Bool) (det : Float) (s : PatchSaddle)
    → cond (p || q) (refused det) (cond e (saddle s) (refused det)) ≡ unnamed (cond p (Solve.refused AboveMargin det) (cond q (Solve.refused TooSmall det) (cond e (Ok s) (Solve.refused NotFinite det))))
by_tests true q e det s = refl
by_tests false true e det s = refl
by_tests false false true det s = refl
by_tests false false false det s = refl

solved-once : (cfg : SaddlePointConfig) (l : List Float) → solve_once cfg l ≡ unnamed (solve cfg l)
unfolding solve_once solve
solved-once cfg l =
    let det = determinant (entry l 0) (entry l 1) (entry l 2) in
    let x = offset_x l (one ⊘ det) in
    let y = offset_y l (one ⊘ det) in
    by_tests (above_margin cfg det) (too_small cfg det) (finite x && finite y) det (saddle_of l det x y)

-- ---- a candidate
judged-once : (t : Task) (f : PatchSaddle) (ox oy : Float) (w : WindowPlace) (c : Corners) (v : Result PatchSaddle Unsolved) → judged_once t f ox oy w c (unnamed v) ≡ judged t f ox oy w c v
judged-once t f ox oy w c (Err u) = refl
judged-once t f ox oy w c (Ok g) = refl

pub candidates-as-before : CandidatesAsBefore
candidates-as-before t f ox oy w c l = ap (λ (v : Once). judged_once t f ox oy w c v) (solved-once t.cfg l) ∙ judged-once t f ox oy w c (solve t.cfg l)

-- ---- a seed that passed its tests
by-box : (b : Bool) (e : Estimate) (d : Float) → cond b (Ok e) (Err (Unmoved Rejected d)) ≡ forgotten (cond b (Ok e) (Err (Unmoved Rejected d)))
by-box true e d = refl
by-box false e d = refl

from-once : (t : Task) (overlap : List Float) (wanted : Bool) (v : Result PatchSaddle Unsolved) → from_once t overlap wanted (unnamed v) ≡ forgotten (from_saddle t overlap wanted v)
from-once t overlap wanted (Err u) = refl
from-once t overlap wanted (Ok f) = by-box (near_seed t f.ux f.uy) (finished t overlap wanted f (run_of t f)) f.det_h

module _ (img : Image) (cfg : SaddlePointConfig) (seed : Seed) (wanted : Bool) where
  seed-once : (columns overlap : List Float) → seed_once img cfg seed wanted columns overlap ≡ forgotten (refine_with img cfg seed wanted columns overlap)
  seed-once columns overlap =
      let l = coefficients img columns cfg.radius seed.centre_x seed.centre_y in
      let t = task_at img columns cfg seed in
      ap (λ (v : Once). from_once t overlap wanted v) (solved-once cfg l) ∙ from-once t overlap wanted (solve cfg l)

  with-once : (w : Operator.Way) → with_once img cfg seed wanted w ≡ forgotten (with_operator img cfg seed wanted w)
  with-once (Operator.refused r) = refl
  with-once Operator.none = refl
  with-once (Operator.built columns overlap) = seed-once columns overlap

-- at radius 0 there is no operator
lent-once : (b : Bool) (before now : Refined) → before ≡ forgotten now → cond b (Err (unmoved IllConditioned)) before ≡ forgotten (cond b (Err (unmoved IllConditioned)) now)
lent-once true before now h = refl
lent-once false before now h = h

-- ---- with the tests before it: none of them names a flaw
by-admitted : (i g r l f p : Bool) (seed : Seed) (before now : Seed → Refined) → before seed ≡ forgotten (now seed) → answered (chosen i g r l f p seed) before ≡ forgotten (answered (chosen i g r l f p seed) now)
by-admitted false g r l f p seed before now h = refl
by-admitted true false r l f p seed before now h = refl
by-admitted true true false l f p seed before now h = refl
by-admitted true true true false f p seed before now h = refl
by-admitted true true true true false p seed before now h = refl
by-admitted true true true true true false seed before now h = refl
by-admitted true true true true true true seed before now h = h

-- ---- the number and the values
old-is : (now : Refined) → number_of (forgotten now) ≡ old_number (number_of now)
old-is (Ok e) = refl
old-is (Err (Unmoved Rejected score)) = refl
old-is (Err (Unmoved OutOfBounds score)) = refl
old-is (Err (Unmoved IllConditioned score)) = refl
old-is (Err (Unmoved BadSeed score)) = refl
old-is (Err (Unmoved (Flawed AboveMargin) score)) = refl
old-is (Err (Unmoved (Flawed TooSmall) score)) = refl
old-is (Err (Unmoved (Flawed NotFinite) score)) = refl
old-is (Err (Refused r)) = old-refusal r

values-are : (x y : Float) (now : Refined) → values_of x y (forgotten now) ≡ values_of x y now
values-are x y (Ok e) = refl
values-are x y (Err (Unmoved why score)) = refl
values-are x y (Err (Refused r)) = refl

module _ (img : Image) (cfg : SaddlePointConfig) (x y : Float) (before now : Seed → Refined) (same : before (seed_of x y) ≡ forgotten (now (seed_of x y))) where
  abbrev answer : (Seed → Refined) → Refined
  answer go = answered (admit_of img cfg x y) go

  as_before : AsBefore x y (answer now) (answer before)
  as_before =
      let h : answer before ≡ forgotten (answer now) =
      by-admitted (is_image img) (in_range img) (leb cfg.radius 7) (good_limits cfg) (is_place x y) (supports_patch img cfg.radius (centre_of x) (centre_of y)) (seed_of x y) before now same in
      record { same = h; number = ap number_of h ∙ old-is (answer now); values = ap (values_of x y) h ∙ values-are x y (answer now) }

-- ---- the claims
pub refines-as-before : RefinesAsBefore
unfolding refine_of refine_once
refines-as-before img cfg x y wanted =
    let w = Operator.way_of cfg.radius in
    as_before img cfg x y (λ seed. with_once img cfg seed wanted w) (λ seed. with_operator img cfg seed wanted w) (with-once img cfg (seed_of x y) wanted w)

pub lent-as-before : LentAsBefore
unfolding refine_lent lent_once
lent-as-before img cfg x y wanted columns overlap =
    as_before img cfg x y (λ seed. lent_with cfg (seed_once img cfg seed wanted columns overlap)) (λ seed. lent_with cfg (refine_with img cfg seed wanted columns overlap))
    (lent-once (eqb cfg.radius 0) (seed_once img cfg (seed_of x y) wanted columns overlap) (refine_with img cfg (seed_of x y) wanted columns overlap) (seed-once img cfg (seed_of x y) wanted columns overlap))

-- Laws of a run's end: the slope along an axis, and the estimate of the whole run in two halves, by the columns alone and then with the overlaps.
use mathlib.Core.Path.{◌≡◌, refl, sym, ap, ◌∙◌}
use mathlib.Core.Bool.{Bool, true, false, ◌&&◌, cond}
use mathlib.Core.List.{List}
use Prim.Native.Nat.{ℕ, zero, suc, ◌+◌, ◌-◌, ◌≤◌, ◌<◌}
use native.Mathlib.Omega.{arith}
use lib.IntN.{ℤ, pos, negsuc, sub_ℕ, ◌+ℤ◌}
use lib.Ieee.{Float, sub}
use borrow.Author.Tests.{le-ltb}
use mathlib.Core.Logic.{◌⊎◌, inl, inr}
use Rattle.std.specs.Prelude.{Option, Some, None, Result, Ok, Err}
use Rattle.std.proofs.lemmas.Bool.{cases_lt}
use Rattle.floats.specs.Whole.{floor}
use Rattle.shapes.specs.Numbers.{plus_zero, one}
use Rattle.imageview.specs.Image.{Image}
use Rattle.imageview.specs.Patch.{inside, supports_patch}
use Rattle.imageview.proofs.PatchLaws.{before}
use Rattle.refine_formulas.specs.declared.SaddlePointConfig.{SaddlePointConfig}
use Rattle.refine_formulas.specs.declared.PatchSaddle.{PatchSaddle}
use Rattle.refine_formulas.specs.declared.Slope.{Slope}
use Rattle.refine_formulas.specs.declared.Unsolved.{Unsolved}
use Rattle.refine_formulas.specs.Sensitivity.{regular, difference, slope_within, saddle_jacobian}
use Rattle.refine_formulas.specs.Solve.{solve, settled}
use Rattle.refine_formulas.specs.Covariance.{covariance_of}
use Rattle.refine_fits.specs.declared.Seed.{Seed}
use Rattle.refine_fits.specs.Fit.{Fit, no_fit, fitted, fit_at, fit_within, coefficients}
use Rattle.refine_fits.specs.Windows.{WindowPlace, window_place}
use Rattle.refine_fits.specs.Candidate.{Task, near_seed, task_at}
use Rattle.refine_fits.specs.StepsAdding.{PatchWithin}
use Rattle.refine_fits.proofs.CacheLaws.{there, behind}
use Rattle.refine_fits.proofs.PlaceLaws.{never}
use Rattle.refine_seed.specs.declared.Noise.{Noise}
use Rattle.refine_seed.specs.declared.Estimate.{Estimate}
use Rattle.refine_seed.specs.declared.Unrefined.TheVariants.{Unmoved}
use Rattle.refine_seed.specs.declared.Why.TheVariants.{Rejected}
use Rattle.refine_seed.specs.PixelSlope.{along, both, slope_at}
use Rattle.refine_seed.specs.Run.{Finish, at_start, at_stand, picked, steps_from, search_from, run_of}
use Rattle.refine_seed.specs.Refine.{single, estimate, closed, closed_at, finished, from_saddle, refine_with}
use Rattle.refine_seed.specs.Spot.{spot_at}
use Rattle.refine_seed.specs.StepsEnding.{taken_at, moves_of, middle_of, moved, estimate_in, opened_at, closed_with, answer_with, ended_of, opened_there, opened_on, opened_from, open_by, open_of}
use Rattle.refine_seed.proofs.StepLaws.{no, yes}

-- ---- the slope at a pixel, along an axis of n pixels
module _ (fit : ℤ → Fit) (coef : ℕ → List Float) (radius n x : ℕ) (fits : (k : ℕ) → radius ≤ k → k + radius < n → fit (pos k) ≡ fitted (coef k)) (away : (z : ℤ) → inside radius n z ≡ false → fit z ≡ no_fit) (low : radius ≤ x) (high : x + radius < n) where
  abbrev axis : Option (List Float)
  axis = along (fit (pos x)) (fit (pos x +ℤ pos 1)) (fit (pos x +ℤ negsuc 0))

  back : 1 ≤ x → pos x +ℤ negsuc 0 ≡ pos (x - 1)
  back h = ap (λ (b : Bool). cond b (negsuc (1 - suc x)) (pos (x - 1))) (le-ltb x 1 h)

  from_next : x + 1 + radius < n → axis ≡ Some (difference (coef (x + 1)) (coef x))
  from_next h =
      ap (λ (u : Fit). along u (fit (pos (x + 1))) (fit (pos x +ℤ negsuc 0))) (fits x low high)
      ∙ ap (λ (u : Fit). along (fitted (coef x)) u (fit (pos x +ℤ negsuc 0))) (fits (x + 1) (omega arith) h)

  last : n ≤ x + 1 + radius → axis ≡ along (fitted (coef x)) no_fit (fit (pos x +ℤ negsuc 0))
  last h =
      ap (λ (u : Fit). along u (fit (pos (x + 1))) (fit (pos x +ℤ negsuc 0))) (fits x low high)
      ∙ ap (λ (u : Fit). along (fitted (coef x)) u (fit (pos x +ℤ negsuc 0))) (away (pos (x + 1)) (behind radius n (x + 1) h))

  from_before : n ≤ x + 1 + radius → radius < x → axis ≡ Some (difference (coef x) (coef (x - 1)))
  from_before h g =
      last h
      ∙ ap (λ (z : ℤ). along (fitted (coef x)) no_fit (fit z)) (back (omega arith))
      ∙ ap (λ (u : Fit). along (fitted (coef x)) no_fit u) (fits (x - 1) (omega arith) (omega arith))

  from_none : n ≤ x + 1 + radius → x ≤ radius → axis ≡ None
  from_none h g = last h ∙ ap (λ (u : Fit). along (fitted (coef x)) no_fit u) (by x refl)
    where
      by : (k : ℕ) → x ≡ k → fit (pos x +ℤ negsuc 0) ≡ no_fit
      by zero e = ap (λ (k : ℕ). fit (sub_ℕ k 1)) e ∙ away (negsuc 0) refl
      by (suc k) e = ap fit (back (omega (arith, e))) ∙ away (pos (x - 1)) (sym (before radius n (x - 1) (omega (arith, e))))

  -- what the three ways of the code answer
  pub axis_is : (here : List Float) (r : Option (List Float)) → here ≡ coef x
      → (x + 1 + radius < n → (l : List Float) × (l ≡ coef (x + 1)) × (r ≡ Some (difference l here)))
      → (n ≤ x + 1 + radius → radius < x → (l : List Float) × (l ≡ coef (x - 1)) × (r ≡ Some (difference here l)))
      → (n ≤ x + 1 + radius → x ≤ radius → r ≡ None) → axis ≡ r
  axis_is here r e p q s = by (cases_lt (x + 1 + radius) n) (cases_lt radius x)
    where
      by : (x + 1 + radius < n) ⊎ (n ≤ x + 1 + radius) → (radius < x) ⊎ (x ≤ radius) → axis ≡ r
      by (inl h) g = let w = p h in from_next h ∙ sym (w.2 ∙ ap (λ (l : List Float). Some (difference l here)) w.1 ∙ ap (λ (l : List Float). Some (difference (coef (x + 1)) l)) e)
      by (inr h) (inl g) = let w = q h g in from_before h g ∙ sym (w.2 ∙ ap (λ (l : List Float). Some (difference here l)) w.1 ∙ ap (λ (l : List Float). Some (difference l (coef (x - 1)))) e)
      by (inr h) (inr g) = from_none h g ∙ sym (s h g)

module _ (img : Image) (columns : List Float) (radius x y : ℕ) (w : PatchWithin img radius x y) (here : List Float) (e : here ≡ coefficients img columns radius x y) (n : ℕ) where
  -- what the code answers along a row of n pixels, and along a column
  pub row_is : n ≡ img.width → (r : Option (List Float))
      → (x + 1 + radius < n → (l : List Float) × (l ≡ coefficients img columns radius (x + 1) y) × (r ≡ Some (difference l here)))
      → (n ≤ x + 1 + radius → radius < x → (l : List Float) × (l ≡ coefficients img columns radius (x - 1) y) × (r ≡ Some (difference here l)))
      → (n ≤ x + 1 + radius → x ≤ radius → r ≡ None)
      → along (fit_at img columns radius (pos x) (pos y)) (fit_at img columns radius (pos x +ℤ pos 1) (pos y)) (fit_at img columns radius (pos x +ℤ negsuc 0) (pos y)) ≡ r
  unfolding fit_at supports_patch
  row_is k r p q s = axis_is (λ z. fit_at img columns radius z (pos y)) (λ k. coefficients img columns radius k y) radius n x fits away w.left (omega (arith, w.right, k)) here r e p q s
    where
      fits : (j : ℕ) → radius ≤ j → j + radius < n → fit_at img columns radius (pos j) (pos y) ≡ fitted (coefficients img columns radius j y)
      fits j l h = there img columns radius j y (record { sound = w.sound; left = l; right = omega (arith, h, k); above = w.above; below = w.below })

      away : (z : ℤ) → inside radius n z ≡ false → fit_at img columns radius z (pos y) ≡ no_fit
      away z h = ap (λ (b : Bool). cond (b && inside radius img.height (pos y)) (fit_within img columns radius z (pos y)) no_fit) (ap (λ (m : ℕ). inside radius m z) (sym k) ∙ h)

  pub column_is : n ≡ img.height → (r : Option (List Float))
      → (y + 1 + radius < n → (l : List Float) × (l ≡ coefficients img columns radius x (y + 1)) × (r ≡ Some (difference l here)))
      → (n ≤ y + 1 + radius → radius < y → (l : List Float) × (l ≡ coefficients img columns radius x (y - 1)) × (r ≡ Some (difference here l)))
      → (n ≤ y + 1 + radius → y ≤ radius → r ≡ None)
      → along (fit_at img columns radius (pos x) (pos y)) (fit_at img columns radius (pos x) (pos y +ℤ pos 1)) (fit_at img columns radius (pos x) (pos y +ℤ negsuc 0)) ≡ r
  unfolding fit_at supports_patch
  column_is k r p q s = axis_is (λ z. fit_at img columns radius (pos x) z) (λ k. coefficients img columns radius x k) radius n y fits away w.above (omega (arith, w.below, k)) here r e p q s
    where
      fits : (j : ℕ) → radius ≤ j → j + radius < n → fit_at img columns radius (pos x) (pos j) ≡ fitted (coefficients img columns radius x j)
      fits j l h = there img columns radius x j (record { sound = w.sound; left = w.left; right = w.right; above = l; below = omega (arith, h, k) })

      away : (z : ℤ) → inside radius n z ≡ false → fit_at img columns radius (pos x) z ≡ no_fit
      away z h = ap (λ (b : Bool). cond (inside radius img.width (pos x) && b) (fit_within img columns radius (pos x) z) no_fit) (ap (λ (m : ℕ). inside radius m z) (sym k) ∙ h) ∙ never (inside radius img.width (pos x)) (fit_within img columns radius (pos x) z)

pub slope_is : (img : Image) (columns : List Float) (radius : ℕ) (x y : ℤ) (a b : Option (List Float))
    → along (fit_at img columns radius x y) (fit_at img columns radius (x +ℤ pos 1) y) (fit_at img columns radius (x +ℤ negsuc 0) y) ≡ a
    → along (fit_at img columns radius x y) (fit_at img columns radius x (y +ℤ pos 1)) (fit_at img columns radius x (y +ℤ negsuc 0)) ≡ b
    → both a b ≡ slope_at img columns radius x y
unfolding slope_at
slope_is img columns radius x y a b p q = sym (ap (λ (u : Option (List Float)). both u (along (fit_at img columns radius x y) (fit_at img columns radius x (y +ℤ pos 1)) (fit_at img columns radius x (y +ℤ negsuc 0)))) p ∙ ap (λ (u : Option (List Float)). both a u) q)

pub no_second : (a : Option (List Float)) → both a None ≡ None
no_second None = refl
no_second (Some x) = refl

-- ---- the whole run in two halves
module _ (img : Image) (columns : List Float) (cfg : SaddlePointConfig) (seed : Seed) (overlap : List Float) (wanted : Bool) where
  abbrev task : Task
  task = task_at img columns cfg seed

  abbrev noise : WindowPlace → PatchSaddle → Slope → Noise
  noise w f s = record { tx = w.tx; ty = w.ty; fit = f; moves = moves_of f s }

  -- settled in a window
  in_window : (ox oy : Float) (w : WindowPlace) (f : PatchSaddle) (n : ℕ) (s : Slope) → closed task overlap wanted ox oy w f n s ≡ closed_with overlap wanted (opened_at (moved (middle_of seed) ox oy) n (noise w f s))
  in_window ox oy w f n s = by (regular (moves_of f s))
    where
      by : (b : Bool) → cond b (estimate task ox oy f true n (cond wanted (covariance_of overlap w.tx w.ty (saddle_jacobian f) (moves_of f s)) None)) (estimate task ox oy f false n None)
          ≡ closed_with overlap wanted (record { estimate = estimate_in (moved (middle_of seed) ox oy) f b n; noise = cond b (Some (noise w f s)) None })
      by true = refl
      by false = refl

  abbrev origin : WindowPlace
  origin = window_place (pos seed.centre_x) (pos seed.centre_y) plus_zero plus_zero

  no_fraction : origin.tx ≡ plus_zero
  unfolding window_place floor sub
  no_fraction = refl

  no-fraction-y : origin.ty ≡ plus_zero
  unfolding window_place floor sub
  no-fraction-y = refl

  at_origin : (f : PatchSaddle) (s : Option Slope) → closed_at task overlap wanted origin f 0 s ≡ closed_with overlap wanted (opened_there seed f s)
  at_origin f None = refl
  at_origin f (Some s) =
      in_window plus_zero plus_zero origin f 0 s
      ∙ ap (λ (v : Float). with_place v origin.ty) no_fraction
      ∙ ap (λ (v : Float). with_place plus_zero v) no-fraction-y
    where
      with_place : Float → Float → Estimate
      with_place u v = closed_with overlap wanted (opened_at (moved (middle_of seed) plus_zero plus_zero) 0 (record { tx = u; ty = v; fit = f; moves = moves_of f s }))

  by-end : (f : PatchSaddle) (e : Finish) → settled f ≡ false → finished task overlap wanted f e ≡ closed_with overlap wanted (opened_on seed f (ended_of e).tries (ended_of e).settled)
  by-end f (at_start n) h = no (settled f) (closed_at task overlap wanted origin f n (slope_at img columns cfg.radius (pos seed.centre_x) (pos seed.centre_y))) (single task f n) h
  by-end f (at_stand s n) h = by (settled s.fit)
    where
      by : (b : Bool) → cond b (closed task overlap wanted s.ox s.oy s.place s.fit n (slope_within s.corners s.place.tx s.place.ty)) (single task f n) ≡ closed_with overlap wanted (opened_on seed f n (cond b (Some (taken_at s)) None))
      by true = in_window s.ox s.oy s.place s.fit n (slope_within s.corners s.place.tx s.place.ty)
      by false = refl

  starts : (f : PatchSaddle) → settled f ≡ true → run_of task f ≡ at_start 0
  unfolding run_of
  starts f h =
      let r = search_from 4 task f plus_zero plus_zero (record { x = f.ux; y = f.uy }) one in
      yes (settled f) (at_start 0) (picked r.outcome (λ s. steps_from 15 task s r.count) (at_start r.count)) h

  run-opened : (f : PatchSaddle) → finished task overlap wanted f (run_of task f) ≡ closed_with overlap wanted (opened_from task seed f)
  run-opened f = by (settled f) refl
    where
      by : (b : Bool) → settled f ≡ b → finished task overlap wanted f (run_of task f) ≡ closed_with overlap wanted (opened_from task seed f)
      by true h =
          ap (λ (e : Finish). finished task overlap wanted f e) (starts f h)
          ∙ yes (settled f) (closed_at task overlap wanted origin f 0 (slope_at img columns cfg.radius (pos seed.centre_x) (pos seed.centre_y))) (single task f 0) h
          ∙ at_origin f (slope_at img columns cfg.radius (pos seed.centre_x) (pos seed.centre_y))
          ∙ ap (closed_with overlap wanted) (sym (yes (settled f) (opened_there seed f (slope_at img columns cfg.radius (pos seed.centre_x) (pos seed.centre_y))) (opened_on seed f (ended_of (run_of task f)).tries (ended_of (run_of task f)).settled) h))
      by false h =
          by-end f (run_of task f) h
          ∙ ap (closed_with overlap wanted) (sym (no (settled f) (opened_there seed f (slope_at img columns cfg.radius (pos seed.centre_x) (pos seed.centre_y))) (opened_on seed f (ended_of (run_of task f)).tries (ended_of (run_of task f)).settled) h))

  by-first : (v : Result PatchSaddle Unsolved) → from_saddle task overlap wanted v ≡ answer_with overlap wanted (open_by task seed v)
  by-first (Err u) = refl
  by-first (Ok f) = by (near_seed task f.ux f.uy)
    where
      by : (b : Bool) → cond b (Ok (finished task overlap wanted f (run_of task f))) (Err (Unmoved Rejected f.det_h)) ≡ answer_with overlap wanted (cond b (Ok (opened_from task seed f)) (Err (Unmoved Rejected f.det_h)))
      by true = ap Ok (run-opened f)
      by false = refl

  -- the answer of a seed that passed its tests
  pub refined-opened : refine_with img cfg seed wanted columns overlap ≡ answer_with overlap wanted (open_of img cfg seed columns)
  refined-opened = by-first (solve cfg (coefficients img columns cfg.radius seed.centre_x seed.centre_y))

-- a first fit that is settled has its spot with a slope or without one
pub spot_there : (seed : Seed) (f : PatchSaddle) (s : Option Slope) → spot_at (opened_there seed f s).estimate ≡ moved (moved (middle_of seed) plus_zero plus_zero) f.ux f.uy
spot_there seed f None = refl
spot_there seed f (Some s) = refl

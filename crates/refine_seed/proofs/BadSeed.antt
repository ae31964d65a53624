-- 4 is given exactly where image and settings can be used and a coordinate of the seed is no finite number: no later step answers it, and the tests do there.
use mathlib.Core.Path.{◌≡◌, refl, sym, ap}
use mathlib.Core.Bool.{Bool, true, false, cond}
use mathlib.Core.List.{List}
use native.Mathlib.Omega.{arith}
use lib.Dec.{leb, eqb}
use lib.Ieee.{Float}
use Rattle.std.specs.Prelude.{Result, Ok, Err}
use Rattle.shapes.specs.Numbers.{plus_zero}
use Rattle.imageview.specs.Image.{Image, is_image, in_range}
use Rattle.imageview.specs.Patch.{supports_patch}
use Rattle.refine_operator.specs.Call as Operator
use Rattle.refine_formulas.specs.declared.SaddlePointConfig.{SaddlePointConfig}
use Rattle.refine_formulas.specs.declared.Flaw.{Flaw}
use Rattle.refine_formulas.specs.declared.Flaw.TheVariants.{AboveMargin, TooSmall, NotFinite}
use Rattle.refine_formulas.specs.declared.PatchSaddle.{PatchSaddle}
use Rattle.refine_formulas.specs.declared.Unsolved.{Unsolved}
use Rattle.refine_formulas.specs.Solve.{solve}
use Rattle.refine_fits.specs.declared.Seed.{Seed}
use Rattle.refine_fits.specs.Candidate.{Task, near_seed, task_at}
use Rattle.refine_fits.specs.Fit.{coefficients}
use Rattle.refine_seed.specs.declared.Unrefined.{Unrefined}
use Rattle.refine_seed.specs.declared.Estimate.{Estimate}
use Rattle.refine_seed.specs.declared.Unrefined.TheVariants.{Unmoved}
use Rattle.refine_seed.specs.declared.Why.TheVariants.{Rejected, IllConditioned, BadSeed, Flawed}
use Rattle.refine_seed.specs.Run.{run_of}
use Rattle.refine_seed.specs.Refine.{Refined, unmoved, good_limits, is_place, centre_of, seed_of, admit_of, answered, finished, from_saddle, refine_with, with_operator, lent_with, refine_of, refine_lent, number_of}
use Rattle.refine_seed.specs.Claims.{Usable, FourExactly, BadSeedExactly, LentBadSeedExactly}
use Rattle.refine_seed.proofs.EntryLaws.{chosen, to}
use Rattle.refine_seed.proofs.NumberLaws.{from-ten}

abbrev NotFour : Refined → Type 0
NotFour answer = number_of answer ≡ 4 → ⊥

-- ---- after the tests
either : (b : Bool) (p q : Refined) → NotFour p → NotFour q → NotFour (cond b p q)
either true p q h g = h
either false p q h g = g

accepted : (e : Estimate) → NotFour (Ok e)
accepted e h = omega arith

ill : (d : Float) → NotFour (Err (Unmoved IllConditioned d))
ill d h = omega arith

rejected : (d : Float) → NotFour (Err (Unmoved Rejected d))
rejected d h = omega arith

flawed : (flaw : Flaw) (d : Float) → NotFour (Err (Unmoved (Flawed flaw) d))
flawed AboveMargin d h = omega arith
flawed TooSmall d h = omega arith
flawed NotFinite d h = omega arith

from-saddle : (t : Task) (overlap : List Float) (wanted : Bool) (v : Result PatchSaddle Unsolved) → NotFour (from_saddle t overlap wanted v)
from-saddle t overlap wanted (Err u) = flawed u.flaw u.det_h
from-saddle t overlap wanted (Ok f) = either (near_seed t f.ux f.uy) (Ok (finished t overlap wanted f (run_of t f))) (Err (Unmoved Rejected f.det_h)) (accepted (finished t overlap wanted f (run_of t f))) (rejected f.det_h)

with-fit : (img : Image) (cfg : SaddlePointConfig) (seed : Seed) (wanted : Bool) (columns overlap : List Float) → NotFour (refine_with img cfg seed wanted columns overlap)
with-fit img cfg seed wanted columns overlap = from-saddle (task_at img columns cfg seed) overlap wanted (solve cfg (coefficients img columns cfg.radius seed.centre_x seed.centre_y))

with-operator : (img : Image) (cfg : SaddlePointConfig) (seed : Seed) (wanted : Bool) (w : Operator.Way) → NotFour (with_operator img cfg seed wanted w)
with-operator img cfg seed wanted (Operator.refused r) h = omega (arith, from-ten r)
with-operator img cfg seed wanted Operator.none h = omega arith
with-operator img cfg seed wanted (Operator.built columns overlap) h = with-fit img cfg seed wanted columns overlap h

-- ---- by the tests
abbrev Stopped : Bool → Bool → Bool → Bool → Bool → Type 0
Stopped i g r l f = (i ≡ true) × (g ≡ true) × (r ≡ true) × (l ≡ true) × (f ≡ false)

stopped : (i g r l f p : Bool) (seed : Seed) (go : Seed → Refined) → NotFour (go seed) → number_of (answered (chosen i g r l f p seed) go) ≡ 4 → Stopped i g r l f
stopped false g r l f p seed go n h = absurd (let z : ⊥ = omega arith in z)
stopped true false r l f p seed go n h = absurd (let z : ⊥ = omega arith in z)
stopped true true false l f p seed go n h = absurd (let z : ⊥ = omega arith in z)
stopped true true true false f p seed go n h = absurd (let z : ⊥ = omega arith in z)
stopped true true true true false p seed go n h = (refl, refl, refl, refl, refl)
stopped true true true true true false seed go n h = absurd (let z : ⊥ = omega arith in z)
stopped true true true true true true seed go n h = absurd (n h)

module _ (img : Image) (cfg : SaddlePointConfig) (x y : Float) (go : Seed → Refined) (never : NotFour (go (seed_of x y))) where
  exactly : FourExactly img cfg x y (answered (admit_of img cfg x y) go)
  exactly = (means, given)
    where
      means : number_of (answered (admit_of img cfg x y) go) ≡ 4 → Usable img cfg × (is_place x y ≡ false)
      means h =
          let s = stopped (is_image img) (in_range img) (leb cfg.radius 7) (good_limits cfg) (is_place x y) (supports_patch img cfg.radius (centre_of x) (centre_of y)) (seed_of x y) go never h in
          (record { image = s.0; range = s.1; radius = s.2; limits = s.3 }, s.4)

      given : Usable img cfg → is_place x y ≡ false → answered (admit_of img cfg x y) go ≡ Err (unmoved BadSeed)
      given u h = ap (λ (d : Result Seed Unrefined). answered d go) (sym (to img cfg x y true true true true false _ u.image u.range u.radius u.limits h refl))

-- ---- the claims
pub bad-seed-exactly : BadSeedExactly
unfolding refine_of
bad-seed-exactly img cfg x y wanted = exactly img cfg x y (λ seed. with_operator img cfg seed wanted (Operator.way_of cfg.radius)) (with-operator img cfg (seed_of x y) wanted (Operator.way_of cfg.radius))

pub lent-bad-seed-exactly : LentBadSeedExactly
unfolding refine_lent
lent-bad-seed-exactly img cfg x y wanted columns overlap =
    exactly img cfg x y (λ seed. lent_with cfg (refine_with img cfg seed wanted columns overlap))
    (either (eqb cfg.radius 0) (Err (unmoved IllConditioned)) (refine_with img cfg (seed_of x y) wanted columns overlap) (ill plus_zero) (with-fit img cfg (seed_of x y) wanted columns overlap))

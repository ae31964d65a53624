-- The refiner's call for one seed: how a run ends, the tests of a seed in their order, what each case answers, and the number and values of each case.
use Rattle.std.specs.Prelude.{Bool, true, false, ◌&&◌, not, cond, List, ℕ, leb, eqb, ℤ, nat_abs, Float, Option, Some, None, Result, Ok, Err}
use Rattle.std.specs.Float.{binary32}
use Rattle.std.specs.Float.Ieee.{of_int, to_signed}
use Rattle.std.specs.Float.Ieee.Scale.{finite}
use Rattle.shapes.specs.Numbers.{plus_zero}
use Rattle.floats.specs.Whole.{round_away}
use Rattle.imageview.specs.Image.{Image, is_image, in_range}
use Rattle.imageview.specs.Patch.{supports_patch}
use Rattle.refine_operator.specs.Call as Operator
use Rattle.refine_operator.specs.declared.OperatorError.{OperatorError}
use Rattle.refine_formulas.specs.declared.SaddlePointConfig.{SaddlePointConfig}
use Rattle.refine_formulas.specs.declared.PatchSaddle.{PatchSaddle}
use Rattle.refine_formulas.specs.declared.Flaw.{Flaw}
use Rattle.refine_formulas.specs.declared.Flaw.TheVariants.{AboveMargin, TooSmall, NotFinite}
use Rattle.refine_formulas.specs.declared.Unsolved.{Unsolved}
use Rattle.refine_formulas.specs.declared.Slope.{Slope}
use Rattle.refine_seed.specs.declared.Estimate.{Estimate}
use Rattle.refine_formulas.specs.declared.Covariance.{Covariance}
use Rattle.refine_seed.specs.declared.Unrefined.{Unrefined}
use Rattle.refine_seed.specs.declared.Unrefined.TheVariants.{Unmoved, Refused}
use Rattle.refine_seed.specs.declared.Why.{Why}
use Rattle.refine_seed.specs.declared.Why.TheVariants.{Rejected, OutOfBounds, IllConditioned, BadSeed, Flawed}
use Rattle.refusals.specs.declared.Refusal.TheVariants.{BadImage, BadSample, BadRadius, BadLimit}
use Rattle.refusals.specs.Numbers as Refusals
use Rattle.refine_fits.specs.declared.Seed.{Seed}
use Rattle.refine_fits.specs.Candidate.{task_at, Task, near_seed}
use Rattle.refine_fits.specs.Fit.{coefficients}
use Rattle.refine_formulas.specs.Solve.{solve, score_of, good_limit, settled}
use Rattle.refine_fits.specs.Windows.{WindowPlace, window_place}
use Rattle.refine_formulas.specs.Sensitivity.{regular, slope_within, saddle_jacobian, sensitivity}
use Rattle.refine_seed.specs.PixelSlope.{slope_at}
use Rattle.refine_seed.specs.Run.{Finish, at_start, at_stand, run_of}
use Rattle.refine_formulas.specs.Numbers.{◌⊕◌}
use Rattle.refine_formulas.specs.Covariance.{covariance_of}

-- ---- the end of a run
-- the first fit, where the steps did not settle
abbrev pub single : Task → PatchSaddle → ℕ → Estimate
single t f n = record { x = of_int binary32 t.centre_x ⊕ f.ux; y = of_int binary32 t.centre_y ⊕ f.uy; score = score_of f; converged = false; tries = n; covariance = None }

abbrev pub estimate : Task → Float → Float → PatchSaddle → Bool → ℕ → Option Covariance → Estimate
estimate t ox oy f c n v = record { x = of_int binary32 t.centre_x ⊕ ox ⊕ f.ux; y = of_int binary32 t.centre_y ⊕ oy ⊕ f.uy; score = score_of f; converged = c; tries = n; covariance = v }

-- with the slope there, whether it converged and the covariance where it is wanted
abbrev pub closed : Task → List Float → Bool → Float → Float → WindowPlace → PatchSaddle → ℕ → Slope → Estimate
closed t overlap wanted ox oy w f n s =
    let j = saddle_jacobian f in
    let m = sensitivity j s in
    cond (regular m) (estimate t ox oy f true n (cond wanted (covariance_of overlap w.tx w.ty j m) None)) (estimate t ox oy f false n None)

abbrev pub closed_at : Task → List Float → Bool → WindowPlace → PatchSaddle → ℕ → Option Slope → Estimate
closed_at t overlap wanted w f n None = estimate t plus_zero plus_zero f false n None
closed_at t overlap wanted w f n (Some s) = closed t overlap wanted plus_zero plus_zero w f n s

-- first is the first fit's saddle
abbrev pub finished : Task → List Float → Bool → PatchSaddle → Finish → Estimate
finished t overlap wanted first (at_start n) =
    cond (settled first)
    (closed_at t overlap wanted (window_place t.centre_x t.centre_y plus_zero plus_zero) first n (slope_at t.img t.columns t.cfg.radius t.centre_x t.centre_y))
    (single t first n)
finished t overlap wanted first (at_stand s n) =
    cond (settled s.fit) (closed t overlap wanted s.ox s.oy s.place s.fit n (slope_within s.corners s.place.tx s.place.ty)) (single t first n)

-- ---- the tests of a seed
-- the seed rounded half away from zero and converted as Rust does
abbrev pub centre_of : Float → ℤ
centre_of v = to_signed 31 (round_away binary32 v)

-- the seed with the pixel that it rounds to; where its patch lies in the image, no coordinate of that is below zero
abbrev pub seed_of : Float → Float → Seed
seed_of x y = record { x = x; y = y; centre_x = nat_abs (centre_of x); centre_y = nat_abs (centre_of y) }

abbrev pub good_limits : SaddlePointConfig → Bool
good_limits cfg = good_limit cfg.det_margin && good_limit cfg.max_offset && good_limit cfg.min_abs_det

-- a place: both coordinates are finite
abbrev pub is_place : Float → Float → Bool
is_place x y = finite x && finite y

-- ---- what a seed is answered
-- its estimate; or why there is none, with the score where the seed stays where it is
abbrev pub Refined : Type 0
Refined = Result Estimate Unrefined

-- why it stays where it is before there is a fit: with the score 0.0
abbrev pub unmoved : Why → Unrefined
unmoved why = Unmoved why plus_zero

-- the tests in their order
abbrev pub admit_of : Image → SaddlePointConfig → Float → Float → Result Seed Unrefined
admit_of img cfg x y =
    cond (not (is_image img)) (Err (Refused BadImage))
    (cond (not (in_range img)) (Err (Refused BadSample))
    (cond (not (leb cfg.radius 7)) (Err (Refused BadRadius))
    (cond (not (good_limits cfg)) (Err (Refused BadLimit))
    (cond (not (is_place x y)) (Err (unmoved BadSeed))
    (cond (not (supports_patch img cfg.radius (centre_of x) (centre_of y))) (Err (unmoved OutOfBounds))
    (Ok (seed_of x y)))))))

-- a seed that passed them goes on; any other is answered at once
abbrev pub answered : Result Seed Unrefined → (Seed → Refined) → Refined
answered (Ok seed) go = go seed
answered (Err e) go = Err e

-- ---- the first fit decides
abbrev pub from_saddle : Task → List Float → Bool → Result PatchSaddle Unsolved → Refined
from_saddle t overlap wanted (Err u) = Err (Unmoved (Flawed u.flaw) u.det_h)
from_saddle t overlap wanted (Ok f) = cond (near_seed t f.ux f.uy) (Ok (finished t overlap wanted f (run_of t f))) (Err (Unmoved Rejected f.det_h))

-- a seed that passed its tests, with an operator
abbrev pub refine_with : Image → SaddlePointConfig → Seed → Bool → List Float → List Float → Refined
refine_with img cfg seed wanted columns overlap =
    from_saddle (task_at img columns cfg seed) overlap wanted (solve cfg (coefficients img columns cfg.radius seed.centre_x seed.centre_y))

-- why there is no operator
abbrev pub unbuilt : OperatorError → Unrefined
unbuilt OperatorError.Singular = unmoved IllConditioned
unbuilt (OperatorError.Refused r) = Refused r

-- with the operator that is built for it
abbrev pub with_operator : Image → SaddlePointConfig → Seed → Bool → Operator.Way → Refined
with_operator img cfg seed wanted (Operator.refused r) = Err (Refused r)
with_operator img cfg seed wanted Operator.none = Err (unmoved IllConditioned)
with_operator img cfg seed wanted (Operator.built columns overlap) = refine_with img cfg seed wanted columns overlap

-- at radius 0 there is no operator, whatever is lent
abbrev pub lent_with : SaddlePointConfig → Refined → Refined
lent_with cfg answer = cond (eqb cfg.radius 0) (Err (unmoved IllConditioned)) answer

-- ---- the two calls: for whatever operator is lent, and with its own
unfoldable pub refine_lent : Image → SaddlePointConfig → Float → Float → Bool → List Float → List Float → Refined
refine_lent img cfg x y wanted columns overlap = answered (admit_of img cfg x y) (λ seed. lent_with cfg (refine_with img cfg seed wanted columns overlap))

unfoldable pub refine_of : Image → SaddlePointConfig → Float → Float → Bool → Refined
refine_of img cfg x y wanted = answered (admit_of img cfg x y) (λ seed. with_operator img cfg seed wanted (Operator.way_of cfg.radius))

-- ---- the number, place and score of each case; a refusal from 10 up has nothing else
abbrev pub flaw_number : Flaw → ℕ
flaw_number AboveMargin = 5
flaw_number TooSmall = 6
flaw_number NotFinite = 7

abbrev pub why_number : Why → ℕ
why_number Rejected = 1
why_number OutOfBounds = 2
why_number IllConditioned = 3
why_number BadSeed = 4
why_number (Flawed flaw) = flaw_number flaw

abbrev pub number_of : Refined → ℕ
number_of (Ok e) = 0
number_of (Err (Unmoved why score)) = why_number why
number_of (Err (Refused r)) = Refusals.number_of r

-- the number that stood for a number while every refused fit had 3
abbrev pub old_number : ℕ → ℕ
old_number n = cond (leb 5 n && leb n 7) 3 n

pub data Values : Type 0 where
  nothing : Values
  values : Float → Float → Float → Values

abbrev pub values_of : Float → Float → Refined → Values
values_of x y (Ok e) = values e.x e.y e.score
values_of x y (Err (Unmoved why score)) = values x y score
values_of x y (Err (Refused r)) = nothing

-- What the steps of the work promise: where the steps toward a window end, how far a seed comes by the columns alone, and its whole answer with the overlaps.
use Rattle.std.specs.Prelude.{◌≡◌, Bool, false, cond, List, ℕ, suc, zero, ◌+◌, pos, Float, Option, Some, None, Result, Ok, Err}
use Rattle.std.specs.Float.{binary32}
use Rattle.std.specs.Float.Ieee.{of_int}
use Rattle.shapes.specs.Numbers.{plus_zero, one}
use Rattle.imageview.specs.Image.{Image}
use Rattle.refine_operator.specs.Call as Operator
use Rattle.refine_formulas.specs.declared.SaddlePointConfig.{SaddlePointConfig}
use Rattle.refine_formulas.specs.declared.PatchSaddle.{PatchSaddle}
use Rattle.refine_formulas.specs.declared.Covariance.{Covariance}
use Rattle.refine_formulas.specs.declared.Matrix.{Matrix}
use Rattle.refine_formulas.specs.declared.Move.{Move}
use Rattle.refine_formulas.specs.declared.Slope.{Slope}
use Rattle.refine_formulas.specs.declared.Unsolved.{Unsolved}
use Rattle.refine_formulas.specs.Numbers.{◌⊕◌}
use Rattle.refine_formulas.specs.Solve.{solve, score_of, settled}
use Rattle.refine_formulas.specs.Sensitivity.{saddle_jacobian, sensitivity, regular, slope_within, newton_step}
use Rattle.refine_formulas.specs.Covariance.{covariance_of}
use Rattle.refine_fits.specs.declared.Seed.{Seed}
use Rattle.refine_fits.specs.Fit.{coefficients}
use Rattle.refine_fits.specs.StepsCache.{Kept}
use Rattle.refine_fits.specs.StepsBases.{Held}
use Rattle.refine_fits.specs.Candidate.{Task, task_at, near_seed, Stand, Tried, passed, taken}
use Rattle.refine_seed.specs.declared.Ended.{Ended}
use Rattle.refine_seed.specs.declared.Taken.{Taken}
use Rattle.refine_seed.specs.declared.Nearby.{Nearby}
use Rattle.refine_seed.specs.declared.Noise.{Noise}
use Rattle.refine_seed.specs.declared.Opened.{Opened}
use Rattle.refine_seed.specs.declared.Spot.{Spot}
use Rattle.refine_seed.specs.declared.Estimate.{Estimate}
use Rattle.refine_seed.specs.declared.Unrefined.{Unrefined}
use Rattle.refine_seed.specs.Run.{Finish, at_start, at_stand, search_from, steps_from, run_of}
use Rattle.refine_seed.specs.declared.Unrefined.TheVariants.{Unmoved, Refused}
use Rattle.refine_seed.specs.declared.Why.TheVariants.{Rejected, IllConditioned, Flawed}
use Rattle.refine_seed.specs.PixelSlope.{slope_at}
use Rattle.refine_seed.specs.Refine.{Refined, unmoved, with_operator}

-- ---- the steps
-- a candidate as the code has it: of its window's place it keeps the fractions
abbrev pub taken_at : Stand → Taken
taken_at s = record { ox = s.ox; oy = s.oy; tx = s.place.tx; ty = s.place.ty; fit = s.fit; corners = s.corners }

abbrev pub taken_of : Tried → Option Taken
taken_of passed = None
taken_of (taken s) = Some (taken_at s)

-- the end of a run that began at a fit that is not settled: its tries, and the last stand where that is settled
abbrev pub ended_of : Finish → Ended
ended_of (at_start n) = record { tries = n; settled = None }
ended_of (at_stand s n) = record { tries = n; settled = cond (settled s.fit) (Some (taken_at s)) None }

-- where a step's candidates are all passed no step follows
abbrev pub onward : Tried → (Stand → Ended) → ℕ → Ended
onward passed go n = record { tries = n; settled = None }
onward (taken s) go n = go s

-- the end from within a step: as many candidates as are left of it, then as many steps
abbrev pub from_candidate : Task → ℕ → ℕ → PatchSaddle → Float → Float → Move → Float → ℕ → Ended
from_candidate t left halvings f ox oy m scale n =
    let r = search_from halvings t f ox oy m scale in
    onward r.outcome (λ s. ended_of (steps_from left t s (n + r.count))) (n + r.count)

-- the end from before as many steps
abbrev pub from_step : Task → ℕ → PatchSaddle → Float → Float → Move → ℕ → Ended
from_step t zero f ox oy m n = record { tries = n; settled = None }
from_step t (suc left) f ox oy m n = from_candidate t left 4 f ox oy m one n

-- how the saddle moves with a window that has this slope
abbrev pub moves_of : PatchSaddle → Slope → Matrix
moves_of f s = sensitivity (saddle_jacobian f) s

-- the step from a window
abbrev pub next_move : Taken → Move
next_move s = newton_step (moves_of s.fit (slope_within s.corners s.tx s.ty)) s.fit

-- the fits that a run has worked out are those of its image and operator
pub record Holds (img : Image) (columns : List Float) (radius : ℕ) (n : Nearby) : Type 0 where
  pub kept : Kept img columns radius n.kept
  pub held : Held img columns radius n.bases n.flat

-- fits of none serve every image and operator
pub record HoldsNone (n : Nearby) : Type 0 where
  pub is : (img : Image) (columns : List Float) (radius : ℕ) → Holds img columns radius n

-- ---- the estimate
-- the middle of a seed's centre pixel, and a place moved on
abbrev pub middle_of : Seed → Spot
middle_of seed = record { x = of_int binary32 (pos seed.centre_x); y = of_int binary32 (pos seed.centre_y) }

abbrev pub moved : Spot → Float → Float → Spot
moved s x y = record { x = s.x ⊕ x; y = s.y ⊕ y }

-- the estimate of a saddle in a window with its middle at s, without a covariance
abbrev pub estimate_in : Spot → PatchSaddle → Bool → ℕ → Estimate
estimate_in s f c n = record { x = s.x ⊕ f.ux; y = s.y ⊕ f.uy; score = score_of f; converged = c; tries = n; covariance = None }

-- a run that settled in a window with its middle at s
abbrev pub opened_at : Spot → ℕ → Noise → Opened
opened_at s n w = record { estimate = estimate_in s w.fit (regular w.moves) n; noise = cond (regular w.moves) (Some w) None }

-- one that did not
abbrev pub unsettled : Spot → PatchSaddle → ℕ → Opened
unsettled s f n = record { estimate = estimate_in s f false n; noise = None }

-- ---- with overlaps
abbrev pub covariance_with : List Float → Bool → Option Noise → Option Covariance
covariance_with overlap wanted None = None
covariance_with overlap wanted (Some w) = cond wanted (covariance_of overlap w.tx w.ty (saddle_jacobian w.fit) w.moves) None

abbrev pub closed_with : List Float → Bool → Opened → Estimate
closed_with overlap wanted o =
    let e = o.estimate in
    record { x = e.x; y = e.y; score = e.score; converged = e.converged; tries = e.tries; covariance = covariance_with overlap wanted o.noise }

abbrev pub answer_with : List Float → Bool → Result Opened Unrefined → Refined
answer_with overlap wanted (Ok o) = Ok (closed_with overlap wanted o)
answer_with overlap wanted (Err e) = Err e

-- ---- what the columns decide
-- from a first fit that is settled, by the slope at the centre pixel: the window is moved by nothing
abbrev pub opened_there : Seed → PatchSaddle → Option Slope → Opened
opened_there seed f None = unsettled (moved (middle_of seed) plus_zero plus_zero) f 0
opened_there seed f (Some s) = opened_at (moved (middle_of seed) plus_zero plus_zero) 0 (record { tx = plus_zero; ty = plus_zero; fit = f; moves = moves_of f s })

-- from one that is not, by where the steps ended
abbrev pub opened_on : Seed → PatchSaddle → ℕ → Option Taken → Opened
opened_on seed f n None = unsettled (middle_of seed) f n
opened_on seed f n (Some s) = opened_at (moved (middle_of seed) s.ox s.oy) n (record { tx = s.tx; ty = s.ty; fit = s.fit; moves = moves_of s.fit (slope_within s.corners s.tx s.ty) })

abbrev pub opened_from : Task → Seed → PatchSaddle → Opened
opened_from t seed f =
    let e = ended_of (run_of t f) in
    cond (settled f) (opened_there seed f (slope_at t.img t.columns t.cfg.radius t.centre_x t.centre_y)) (opened_on seed f e.tries e.settled)

abbrev pub open_by : Task → Seed → Result PatchSaddle Unsolved → Result Opened Unrefined
open_by t seed (Err u) = Err (Unmoved (Flawed u.flaw) u.det_h)
open_by t seed (Ok f) = cond (near_seed t f.ux f.uy) (Ok (opened_from t seed f)) (Err (Unmoved Rejected f.det_h))

-- with these columns
abbrev pub open_of : Image → SaddlePointConfig → Seed → List Float → Result Opened Unrefined
open_of img cfg seed columns = open_by (task_at img columns cfg seed) seed (solve cfg (coefficients img columns cfg.radius seed.centre_x seed.centre_y))

-- with those that are built for it
abbrev pub open_with : Image → SaddlePointConfig → Seed → Operator.Way → Result Opened Unrefined
open_with img cfg seed (Operator.refused r) = Err (Refused r)
open_with img cfg seed Operator.none = Err (unmoved IllConditioned)
open_with img cfg seed (Operator.built columns overlap) = open_of img cfg seed columns

-- a seed that came so far with its own operator comes to its whole answer
pub record ClosesFresh (cfg : SaddlePointConfig) (wanted : Bool) (o : Opened) (r : Refined) : Type 0 where
  pub is : (img : Image) (seed : Seed) → open_with img cfg seed (Operator.way_of cfg.radius) ≡ Ok o → r ≡ with_operator img cfg seed wanted (Operator.way_of cfg.radius)

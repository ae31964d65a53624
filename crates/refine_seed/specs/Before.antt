-- The refiner of one seed as it answered before a refused fit had a number for each test (5, 6, 7): every refused fit was 3. `refine_once` and `lent_once` are those
-- definitions; the claim is that they are what is answered now, with the names of the three tests forgotten. A run is one
-- definition for both: each candidate of its steps is taken or passed over as it was (`CandidatesAsBefore`). The proofs are in proofs/Before.antt.
use Rattle.std.specs.Prelude.{◌≡◌, Bool, ◌&&◌, ◌||◌, cond, List, Float, Ok, Err}
use Rattle.std.specs.Float.Ieee.{lt}
use Rattle.std.specs.Float.Ieee.Scale.{finite}
use Rattle.shapes.specs.Numbers.{one, entry}
use Rattle.imageview.specs.Image.{Image}
use Rattle.refine_operator.specs.Call as Operator
use Rattle.refine_formulas.specs.declared.SaddlePointConfig.{SaddlePointConfig}
use Rattle.refine_formulas.specs.declared.PatchSaddle.{PatchSaddle}
use Rattle.refine_formulas.specs.declared.Corners.{Corners}
use Rattle.refine_formulas.specs.Numbers.{◌⊕◌, ◌⊘◌}
use Rattle.refine_formulas.specs.Solve.{determinant, above_margin, too_small, offset_x, offset_y, saddle_of, solve, norm2}
use Rattle.refine_fits.specs.declared.Seed.{Seed}
use Rattle.refine_fits.specs.Candidate.{Task, task_at, near_seed, Tried, passed, taken, judged}
use Rattle.refine_fits.specs.Windows.{WindowPlace}
use Rattle.refine_fits.specs.Fit.{coefficients}
use Rattle.refine_seed.specs.declared.Unrefined.TheVariants.{Unmoved, Refused}
use Rattle.refine_seed.specs.declared.Why.{Why}
use Rattle.refine_seed.specs.declared.Why.TheVariants.{Rejected, OutOfBounds, IllConditioned, BadSeed, Flawed}
use Rattle.refine_seed.specs.Run.{run_of}
use Rattle.refine_seed.specs.Refine.{Refined, unmoved, answered, admit_of, finished, lent_with, refine_of, refine_lent, number_of, old_number, values_of}

-- ---- as it was
pub data Once : Type 0 where
  refused : Float → Once
  saddle : PatchSaddle → Once

unfoldable pub solve_once : SaddlePointConfig → List Float → Once
solve_once cfg l =
    let det = determinant (entry l 0) (entry l 1) (entry l 2) in
    let inv = one ⊘ det in
    let x = offset_x l inv in
    let y = offset_y l inv in
    cond (above_margin cfg det || too_small cfg det) (refused det) (cond (finite x && finite y) (saddle (saddle_of l det x y)) (refused det))

abbrev pub from_once : Task → List Float → Bool → Once → Refined
from_once t overlap wanted (refused det) = Err (Unmoved IllConditioned det)
from_once t overlap wanted (saddle f) = cond (near_seed t f.ux f.uy) (Ok (finished t overlap wanted f (run_of t f))) (Err (Unmoved Rejected f.det_h))

-- a candidate of the steps: one that is refused is passed over
abbrev pub judged_once : Task → PatchSaddle → Float → Float → WindowPlace → Corners → Once → Tried
judged_once t f ox oy w c (refused det) = passed
judged_once t f ox oy w c (saddle g) =
    cond (lt (norm2 g) (norm2 f) && near_seed t (ox ⊕ g.ux) (oy ⊕ g.uy)) (taken (record { ox = ox; oy = oy; place = w; corners = c; fit = g })) passed

abbrev pub seed_once : Image → SaddlePointConfig → Seed → Bool → List Float → List Float → Refined
seed_once img cfg seed wanted columns overlap =
    from_once (task_at img columns cfg seed) overlap wanted (solve_once cfg (coefficients img columns cfg.radius seed.centre_x seed.centre_y))

abbrev pub with_once : Image → SaddlePointConfig → Seed → Bool → Operator.Way → Refined
with_once img cfg seed wanted (Operator.refused r) = Err (Refused r)
with_once img cfg seed wanted Operator.none = Err (unmoved IllConditioned)
with_once img cfg seed wanted (Operator.built columns overlap) = seed_once img cfg seed wanted columns overlap

unfoldable pub lent_once : Image → SaddlePointConfig → Float → Float → Bool → List Float → List Float → Refined
lent_once img cfg x y wanted columns overlap = answered (admit_of img cfg x y) (λ seed. lent_with cfg (seed_once img cfg seed wanted columns overlap))

unfoldable pub refine_once : Image → SaddlePointConfig → Float → Float → Bool → Refined
refine_once img cfg x y wanted = answered (admit_of img cfg x y) (λ seed. with_once img cfg seed wanted (Operator.way_of cfg.radius))

-- ---- the claim
-- an answer with the name of the test forgotten
abbrev pub old_why : Why → Why
old_why Rejected = Rejected
old_why OutOfBounds = OutOfBounds
old_why IllConditioned = IllConditioned
old_why BadSeed = BadSeed
old_why (Flawed flaw) = IllConditioned

abbrev pub forgotten : Refined → Refined
forgotten (Ok e) = Ok e
forgotten (Err (Unmoved why score)) = Err (Unmoved (old_why why) score)
forgotten (Err (Refused r)) = Err (Refused r)

-- the number and the values of an answer before, from those now
pub record AsBefore (x y : Float) (now before : Refined) : Type 0 where
  pub same : before ≡ forgotten now
  pub number : number_of before ≡ old_number (number_of now)
  pub values : values_of x y before ≡ values_of x y now

abbrev pub CandidatesAsBefore : Type 0
CandidatesAsBefore =
    (t : Task) (f : PatchSaddle) (ox oy : Float) (w : WindowPlace) (c : Corners) (l : List Float)
    → judged_once t f ox oy w c (solve_once t.cfg l) ≡ judged t f ox oy w c (solve t.cfg l)

abbrev pub RefinesAsBefore : Type 0
RefinesAsBefore = (img : Image) (cfg : SaddlePointConfig) (x y : Float) (wanted : Bool) → AsBefore x y (refine_of img cfg x y wanted) (refine_once img cfg x y wanted)

abbrev pub LentAsBefore : Type 0
LentAsBefore =
    (img : Image) (cfg : SaddlePointConfig) (x y : Float) (wanted : Bool) (columns overlap : List Float)
    → AsBefore x y (refine_lent img cfg x y wanted columns overlap) (lent_once img cfg x y wanted columns overlap)

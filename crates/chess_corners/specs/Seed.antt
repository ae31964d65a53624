-- The exported refiner of one seed. Numbers 0 to 7 write x, y and score, the values of the case; 0 also writes whether it converged, the tries and
-- whether there is a covariance, and that where there is one. A number from 10 up writes nothing. And the operator, which is built once for many seeds.
use Rattle.std.specs.Prelude.{◌≡◌, Bool, not, cond, List, [], ◌∷◌, ℕ, eqb, Float, Option, None, Some, Ok, Err}
use Rattle.refine_operator.specs.Call as Operator
use Rattle.refine_formulas.specs.declared.SaddlePointConfig.{SaddlePointConfig}
use Rattle.refine_formulas.specs.declared.Covariance.{Covariance}
use Rattle.refine_seed.specs.declared.Estimate.{Estimate}
use Rattle.refine_seed.specs.Refine.{Refined, number_of, Values, nothing, values, values_of}

abbrev pub settings : ℕ → Float → Float → Float → SaddlePointConfig
settings radius margin offset least = record { radius = radius; det_margin = margin; max_offset = offset; min_abs_det = least }

-- a number that says yes or no
abbrev pub asked : ℕ → Bool
asked n = not (eqb n 0)

abbrev pub flag : Bool → ℕ
flag b = cond b 1 0

-- x, y and score
abbrev pub place_after : List Float → Values → List Float
place_after old nothing = old
place_after old (values x y score) = x ∷ y ∷ score ∷ []

abbrev pub given : Option Covariance → ℕ
given (Some v) = 1
given None = 0

-- converged, tries, whether there is a covariance
abbrev pub state_of : Estimate → List ℕ
state_of e = flag e.converged ∷ e.tries ∷ given e.covariance ∷ []

abbrev pub state_after : List ℕ → Refined → List ℕ
state_after old (Ok e) = state_of e
state_after old (Err u) = old

-- xx, xy and yy, where there is one
abbrev pub entries_after : List Float → Option Covariance → List Float
entries_after old (Some v) = v.xx ∷ v.xy ∷ v.yy ∷ []
entries_after old None = old

abbrev pub covariance_after : List Float → Refined → List Float
covariance_after old (Ok e) = entries_after old e.covariance
covariance_after old (Err u) = old

-- what is told of a seed's answer
pub record Told (answer : Refined) (x y : Float) (place : List Float) (state : List ℕ) (covariance : List Float) (number : ℕ) (place' : List Float) (state' : List ℕ) (covariance' : List Float) : Type 0 where
  pub says : number ≡ number_of answer
  pub leaves-place : place' ≡ place_after place (values_of x y answer)
  pub leaves-state : state' ≡ state_after state answer
  pub leaves-covariance : covariance' ≡ covariance_after covariance answer

-- ---- the operator
pub record Operating (radius : ℕ) (columns overlap : List Float) (number : ℕ) (columns' overlap' : List Float) : Type 0 where
  pub says : number ≡ Operator.number_of (Operator.answer_of (Operator.way_of radius))
  pub leaves-columns : columns' ≡ Operator.columns_after radius columns (Operator.way_of radius)
  pub leaves-overlap : overlap' ≡ Operator.overlap_after overlap (Operator.way_of radius)

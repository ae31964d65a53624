-- What the steps to a spot ask and promise: the image and the settings tested, the seed's first fit; it is the spot of the seed's answer, whatever the overlaps and whether the covariance is wanted.
use Rattle.std.specs.Prelude.{◌≡◌, Bool, true, ◌&&◌, not, cond, List, ℕ, leb, Float, Option, Some, None, Result, Ok, Err}
use Rattle.imageview.specs.Image.{Image, is_image, in_range}
use Rattle.imageview.specs.Patch.{inside}
use Rattle.refine_formulas.specs.declared.SaddlePointConfig.{SaddlePointConfig}
use Rattle.refine_fits.specs.declared.Seed.{Seed}
use Rattle.refine_fits.specs.Fit.{coefficients}
use Rattle.refine_fits.specs.StepsBases.{first_place}
use Rattle.refine_seed.specs.declared.Opened.{Opened}
use Rattle.refine_seed.specs.declared.Spot.{Spot}
use Rattle.refine_seed.specs.declared.Unrefined.{Unrefined}
use Rattle.refine_seed.specs.declared.Why.TheVariants.{OutOfBounds, BadSeed}
use Rattle.refine_seed.specs.Refine.{good_limits, is_place, centre_of, seed_of, admit_of, unmoved, Refined}
use Rattle.refine_seed.specs.Spot.{spot_at, spot_of}

-- an image and settings that passed their tests
pub record Ready (img : Image) (cfg : SaddlePointConfig) : Type 0 where
  pub image : is_image img ≡ true
  pub range : in_range img ≡ true
  pub small : leb cfg.radius 7 ≡ true
  pub limits : good_limits cfg ≡ true

-- the tests of a seed that are left then, in an image of this width and height
abbrev pub seed_alone : ℕ → ℕ → ℕ → Float → Float → Result Seed Unrefined
seed_alone width height radius x y =
    cond (not (is_place x y)) (Err (unmoved BadSeed))
    (cond (not (inside radius width (centre_of x) && inside radius height (centre_of y))) (Err (unmoved OutOfBounds))
    (Ok (seed_of x y)))

-- where the patch about a seed begins, 0 where it did not pass its tests
abbrev pub first_for : ℕ → ℕ → Result Seed Unrefined → ℕ
first_for pitch radius (Ok seed) = first_place pitch radius seed.centre_x seed.centre_y
first_for pitch radius (Err e) = 0

-- the first fit of a seed that passed its tests; of any other it may be anything
pub record Fitted (img : Image) (columns : List Float) (cfg : SaddlePointConfig) (x y : Float) (here : List Float) : Type 0 where
  pub is : (seed : Seed) → admit_of img cfg x y ≡ Ok seed → here ≡ coefficients img columns cfg.radius seed.centre_x seed.centre_y

-- the spot of a seed that came so far by the columns
abbrev pub spot_in : Result Opened Unrefined → Option Spot
spot_in (Ok o) = Some (spot_at o.estimate)
spot_in (Err e) = None

-- the spot of an answer, whatever the overlaps and whether the covariance is wanted
pub record Lands (answer : List Float → Bool → Refined) (r : Option Spot) : Type 0 where
  pub is : (overlap : List Float) (wanted : Bool) → r ≡ spot_of (answer overlap wanted)

-- Refining a list of corners, x, y and strength of each: the tests of docs/RULES.md in their order (`way_of`), what each way answers and leaves in the lent
-- output. No refusal writes; elements past the last record stay.
use Rattle.std.specs.Prelude.{◌≡◌, false, not, cond, List, [], ◌∷◌, ◌++◌, ℕ, zero, suc, ◌+◌, ◌*◌, ◌/◌, leb, ltb, length, drop, Float, Result, Ok, Err, Option, Some, None}
use Rattle.shapes.specs.Numbers.{entry}
use Rattle.corners.specs.Corners.{whole, too_many}
use Rattle.refusals.specs.declared.Refusal.{Refusal}
use Rattle.refusals.specs.declared.Refusal.TheVariants.{BadImage, BadSample, BadRadius, BadLimit, BadLength, TooMany, BadOut}
use Rattle.refusals.specs.Numbers as Refusals
use Rattle.imageview.specs.Image.{Image, is_image, in_range}
use Rattle.refine_formulas.specs.declared.SaddlePointConfig.{SaddlePointConfig}
use Rattle.refine_seed.specs.declared.Spot.{Spot}
use Rattle.refine_seed.specs.Refine.{good_limits, refine_of, refine_lent}
use Rattle.refine_seed.specs.Spot.{spot_of}

-- the number of each case; 0 is done
abbrev pub number_of : Result ℕ Refusal → ℕ
number_of (Ok n) = 0
number_of (Err r) = Refusals.number_of r

-- what is written of a seed: where it was refined to and its own strength, if it was accepted
abbrev pub record_of : Option Spot → Float → List Float
record_of (Some spot) strength = spot.x ∷ spot.y ∷ strength ∷ []
record_of None strength = []

-- where the seed number i is refined to
unfoldable pub spot_for : Image → SaddlePointConfig → List Float → ℕ → Option Spot
unfolding refine_of
spot_for img cfg corners i = spot_of (refine_of img cfg (entry corners (3 * i)) (entry corners (3 * i + 1)) false)

-- and with columns that are lent, whatever they hold; no covariance is wanted, so no overlap is asked for
unfoldable pub lent_for : Image → SaddlePointConfig → List Float → List Float → ℕ → Option Spot
unfolding refine_lent
lent_for img cfg columns corners i = spot_of (refine_lent img cfg (entry corners (3 * i)) (entry corners (3 * i + 1)) false columns [])

-- the records of the first n seeds, in input order, where seed i is refined to `spots i`
unfoldable pub records_by : (ℕ → Option Spot) → List Float → ℕ → List Float
records_by spots corners zero = []
records_by spots corners (suc n) = records_by spots corners n ++ record_of (spots n) (entry corners (3 * n + 2))

abbrev pub records_of : Image → SaddlePointConfig → List Float → ℕ → List Float
records_of img cfg corners = records_by (spot_for img cfg corners) corners

pub data Way : Type 0 where
  refused : Refusal → Way
  wrote : List Float → Way

-- room is the output's length
unfoldable pub way_of : Image → SaddlePointConfig → List Float → ℕ → Way
unfolding records_by
way_of img cfg corners room =
    cond (not (is_image img)) (refused BadImage)
    (cond (not (in_range img)) (refused BadSample)
    (cond (not (leb cfg.radius 7)) (refused BadRadius)
    (cond (not (good_limits cfg)) (refused BadLimit)
    (cond (not (whole (length corners))) (refused BadLength)
    (cond (too_many (length corners)) (refused TooMany)
    (cond (ltb room (length corners)) (refused BadOut)
    (wrote (records_of img cfg corners (length corners / 3)))))))))

-- a record is three numbers
abbrev pub answer_of : Way → Result ℕ Refusal
answer_of (refused r) = Err r
answer_of (wrote l) = Ok (length l / 3)

abbrev pub out_after : List Float → Way → List Float
out_after out (refused r) = out
out_after out (wrote l) = l ++ drop (length l) out

pub record Done (img : Image) (cfg : SaddlePointConfig) (corners out : List Float) (answer : Result ℕ Refusal) (out' : List Float) : Type 0 where
  pub answers : answer ≡ answer_of (way_of img cfg corners (length out))
  pub leaves : out' ≡ out_after out (way_of img cfg corners (length out))

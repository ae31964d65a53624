-- What may be claimed of every run and of every accepted answer, as docs/SAFETY.md does: each fit that was taken is a saddle that passed the box, an accepted score is
-- above zero, the tries are at most 64, a lent operator that was built for the radius is as good as an own one, and 4 is given exactly where a coordinate of the seed is no finite number.
-- The proofs are in proofs/Theorems.antt, proofs/LentLaws.antt and proofs/BadSeed.antt.
use Rattle.std.specs.Prelude.{◌≡◌, Bool, true, false, List, ℕ, ◌≤◌, leb, Float, Result, Ok, Err}
use Rattle.std.specs.Float.Ieee.{lt}
use Rattle.shapes.specs.Numbers.{plus_zero}
use Rattle.imageview.specs.Image.{Image, is_image, in_range}
use Rattle.refine_operator.specs.Call as Operator
use Rattle.refine_operator.specs.declared.OperatorError.{OperatorError}
use Rattle.refine_formulas.specs.declared.SaddlePointConfig.{SaddlePointConfig}
use Rattle.refine_formulas.specs.declared.PatchSaddle.{PatchSaddle}
use Rattle.refine_formulas.specs.Numbers.{◌⊕◌}
use Rattle.refine_formulas.specs.Solve.{solve}
use Rattle.refine_fits.specs.Candidate.{Task, near_seed, Stand}
use Rattle.refine_seed.specs.Run.{Finish, at_start, at_stand, run_of}
use Rattle.refine_seed.specs.declared.Estimate.{Estimate}
use Rattle.refine_seed.specs.declared.Why.TheVariants.{BadSeed}
use Rattle.refine_seed.specs.Refine.{good_limits, is_place, Refined, unmoved, refine_of, refine_lent, number_of}

-- a saddle of some fit
pub record Solves (cfg : SaddlePointConfig) (f : PatchSaddle) : Type 0 where
  pub fit : List Float
  pub is : solve cfg fit ≡ Ok f

-- where a run stands, it stands at a saddle in the box about the seed
pub record Boxed (t : Task) (s : Stand) : Type 0 where
  pub solves : Solves t.cfg s.fit
  pub near : near_seed t (s.ox ⊕ s.fit.ux) (s.oy ⊕ s.fit.uy) ≡ true

-- how a run ends: at a stand in the box, after at most so many tries
abbrev pub EndsBoxed : Task → ℕ → Finish → Type 0
EndsBoxed t most (at_start n) = n ≤ most
EndsBoxed t most (at_stand s n) = Boxed t s × (n ≤ most)

abbrev pub RunsBoxed : Type 0
RunsBoxed = (t : Task) (f : PatchSaddle) → EndsBoxed t 64 (run_of t f)

-- of an accepted answer
pub record Scored (e : Estimate) : Type 0 where
  pub score : lt plus_zero e.score ≡ true
  pub tries : e.tries ≤ 64

abbrev pub AcceptedScored : Type 0
AcceptedScored = (img : Image) (cfg : SaddlePointConfig) (x y : Float) (wanted : Bool) (e : Estimate) → refine_of img cfg x y wanted ≡ Ok e → Scored e

-- with what `fit_operator` built for the radius, in whatever the arrays held before, the answer is that of the call that builds its own
abbrev pub LentIsBuilt : Type 0
LentIsBuilt =
    (img : Image) (cfg : SaddlePointConfig) (x y : Float) (wanted : Bool) (columns overlap columns' overlap' : List Float) (r : Result Unit OperatorError)
    → Operator.Done cfg.radius columns overlap r columns' overlap' → r ≡ Ok tt → refine_lent img cfg x y wanted columns' overlap' ≡ refine_of img cfg x y wanted

-- ---- seeds that are no places
-- image and settings can be used: no refusal
pub record Usable (img : Image) (cfg : SaddlePointConfig) : Type 0 where
  pub image : is_image img ≡ true
  pub range : in_range img ≡ true
  pub radius : leb cfg.radius 7 ≡ true
  pub limits : good_limits cfg ≡ true

-- of an answer for the seed (x, y): the number is 4 exactly where image and settings can be used and a coordinate is NaN or infinite
abbrev pub FourExactly : Image → SaddlePointConfig → Float → Float → Refined → Type 0
FourExactly img cfg x y answer =
    (number_of answer ≡ 4 → Usable img cfg × (is_place x y ≡ false))
    × (Usable img cfg → is_place x y ≡ false → answer ≡ Err (unmoved BadSeed))

abbrev pub BadSeedExactly : Type 0
BadSeedExactly = (img : Image) (cfg : SaddlePointConfig) (x y : Float) (wanted : Bool) → FourExactly img cfg x y (refine_of img cfg x y wanted)

abbrev pub LentBadSeedExactly : Type 0
LentBadSeedExactly =
    (img : Image) (cfg : SaddlePointConfig) (x y : Float) (wanted : Bool) (columns overlap : List Float) → FourExactly img cfg x y (refine_lent img cfg x y wanted columns overlap)

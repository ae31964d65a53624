-- The spot of a seed's answer needs no overlaps: where it is refined to, or nowhere.
use mathlib.Core.Path.{◌≡◌, refl, sym, ap, ◌∙◌}
use mathlib.Core.Bool.{Bool}
use mathlib.Core.List.{List}
use lib.Ieee.{Float}
use Rattle.std.specs.Prelude.{Option, Some, None, Result, Ok, Err}
use Rattle.std.specs.Result.{result_ok}
use Rattle.imageview.specs.Image.{Image}
use Rattle.refine_formulas.specs.declared.SaddlePointConfig.{SaddlePointConfig}
use Rattle.refine_fits.specs.declared.Seed.{Seed}
use Rattle.refine_seed.specs.declared.Opened.{Opened}
use Rattle.refine_seed.specs.declared.Spot.{Spot}
use Rattle.refine_seed.specs.declared.Unrefined.{Unrefined}
use Rattle.refine_seed.specs.Refine.{Refined, admit_of, refine_with, refine_lent}
use Rattle.refine_seed.specs.Spot.{spot_of}
use Rattle.refine_seed.specs.StepsEnding.{answer_with, open_of}
use Rattle.refine_seed.specs.StepsSpot.{Ready, seed_alone, spot_in, Lands}
use Rattle.refine_seed.proofs.ClosingLaws.{refined-opened}
use Rattle.refine_seed.proofs.EntryLaws.{alone, lent_answer, lent_zero, lent_other}

spot-opened : (overlap : List Float) (wanted : Bool) (o : Result Opened Unrefined) → spot_in o ≡ spot_of (answer_with overlap wanted o)
spot-opened overlap wanted (Ok o) = refl
spot-opened overlap wanted (Err e) = refl

module _ (img : Image) (columns : List Float) (cfg : SaddlePointConfig) (x y : Float) where
  abbrev whole : List Float → Bool → Refined
  whole overlap wanted = refine_lent img cfg x y wanted columns overlap

  -- a seed that did not pass its tests goes nowhere
  pub lands_nowhere : (e : Unrefined) → Err e ≡ admit_of img cfg x y → Lands whole None
  lands_nowhere e h = record { is = λ overlap wanted. ap spot_of (lent_answer img cfg x y wanted columns overlap (Err e) h) }

  module _ (seed : Seed) (h : Ok seed ≡ admit_of img cfg x y) where
    pub lands_zero : cfg.radius ≡ 0 → Lands whole None
    lands_zero z = record { is = λ overlap wanted. ap spot_of (lent_zero cfg (refine_with img cfg seed wanted columns overlap) z ∙ lent_answer img cfg x y wanted columns overlap (Ok seed) h) }

    pub lands_seed : (cfg.radius ≡ 0 → ⊥) → (r : Option Spot) → r ≡ spot_in (open_of img cfg seed columns) → Lands whole r
    lands_seed z r e =
        record {
          is = λ overlap wanted.
              e
              ∙ spot-opened overlap wanted (open_of img cfg seed columns)
              ∙ ap spot_of
              (sym (refined-opened img columns cfg seed overlap wanted)
              ∙ lent_other cfg (refine_with img cfg seed wanted columns overlap) z
              ∙ lent_answer img cfg x y wanted columns overlap (Ok seed) h);
        }

  -- by what the code keeps of the tests
  pub lands_unplaced : (d : Result Seed Unrefined) → d ≡ admit_of img cfg x y → None ≡ result_ok d → Lands whole None
  lands_unplaced (Ok s) h k = cc
  lands_unplaced (Err e) h k = lands_nowhere e h

placed : (d : Result Seed Unrefined) (seed : Seed) → Some seed ≡ result_ok d → d ≡ Ok seed
placed (Ok s) seed h = let k : s ≡ seed = cc in ap Ok k
placed (Err e) seed h = cc

-- where the image and the settings passed their tests, a seed that the code keeps passed them all
pub was_placed : (img : Image) (cfg : SaddlePointConfig) (x y : Float) → Ready img cfg → (d : Result Seed Unrefined) (seed : Seed) → d ≡ seed_alone img.width img.height cfg.radius x y → Some seed ≡ result_ok d → Ok seed ≡ admit_of img cfg x y
was_placed img cfg x y r d seed h k = sym (placed d seed k) ∙ h ∙ alone img cfg x y r

-- Refining a list depends on the pixels alone, since each seed does.
use mathlib.Core.Path.{◌≡◌, refl, ap, ◌∙◌}
use mathlib.Core.Bool.{Bool, false, not, cond}
use mathlib.Core.List.{List, ◌++◌}
use Prim.Native.Nat.{ℕ, zero, suc, ◌+◌, ◌*◌, ◌/◌}
use lib.Dec.{leb, ltb}
use lib.ListN.{length}
use lib.Ieee.{Float}
use Rattle.shapes.specs.Numbers.{entry}
use Rattle.corners.specs.Corners.{whole, too_many}
use Rattle.refusals.specs.declared.Refusal.TheVariants.{BadImage, BadSample, BadRadius, BadLimit, BadLength, TooMany, BadOut}
use Rattle.imageview.specs.Image.{Image, is_image, in_range}
use Rattle.imageview.specs.Same.{SamePixels, unpadded}
use Rattle.imageview.proofs.SameLaws.{range-alike}
use Rattle.imageview.proofs.Unpadded.{shows-unpadded}
use Rattle.refine_formulas.specs.declared.SaddlePointConfig.{SaddlePointConfig}
use Rattle.std.specs.Prelude.{Option}
use Rattle.refine_seed.specs.declared.Spot.{Spot}
use Rattle.refine_seed.specs.Refine.{good_limits}
use Rattle.refine_seed.specs.Spot.{spot_of}
use Rattle.refine_seed.proofs.PixelsAlone as seed
use Rattle.refine_list.specs.Refining.{record_of, spot_for, records_by, records_of, Way, refused, wrote, way_of}
use Rattle.refine_list.specs.Alone.{ByPixels, Unpadded}

module _ (a b : Image) (s : SamePixels a b) (cfg : SaddlePointConfig) (corners : List Float) where
  spot-same : (i : ℕ) → spot_for a cfg corners i ≡ spot_for b cfg corners i
  unfolding spot_for
  spot-same i = ap spot_of (seed.by-pixels a b s cfg (entry corners (3 * i)) (entry corners (3 * i + 1)) false)

  records-same : (n : ℕ) → records_of a cfg corners n ≡ records_of b cfg corners n
  unfolding records_by
  records-same zero = refl
  records-same (suc n) =
      ap (λ (l : List Float). l ++ record_of (spot_for a cfg corners n) (entry corners (3 * n + 2))) (records-same n)
      ∙ ap (λ (v : Option Spot). records_of b cfg corners n ++ record_of v (entry corners (3 * n + 2))) (spot-same n)

  way_same : (room : ℕ) → way_of a cfg corners room ≡ way_of b cfg corners room
  unfolding way_of
  way_same room =
      ap (λ (i : Bool). way i (in_range a) (records_of a cfg corners (length corners / 3))) s.image
      ∙ ap (λ (g : Bool). way (is_image b) g (records_of a cfg corners (length corners / 3))) (range-alike a b s)
      ∙ ap (λ (l : List Float). way (is_image b) (in_range b) l) (records-same (length corners / 3))
    where
      way : Bool → Bool → List Float → Way
      way i g l =
          cond (not i) (refused BadImage)
          (cond (not g) (refused BadSample)
          (cond (not (leb cfg.radius 7)) (refused BadRadius)
          (cond (not (good_limits cfg)) (refused BadLimit)
          (cond (not (whole (length corners))) (refused BadLength)
          (cond (too_many (length corners)) (refused TooMany)
          (cond (ltb room (length corners)) (refused BadOut)
          (wrote l)))))))

pub by-pixels : ByPixels
by-pixels a b s cfg corners room = way_same a b s cfg corners room

pub by-unpadded : Unpadded
by-unpadded img is cfg corners room = by-pixels img (unpadded img) (shows-unpadded img is) cfg corners room

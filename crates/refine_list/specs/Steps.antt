-- What the list's inner functions do: records written to the front of the output, and the first fits of four seeds at once.
use Rattle.std.specs.Prelude.{◌≡◌, Bool, ◌&&◌, cond, List, ◌++◌, ℕ, ◌+◌, ◌-◌, ◌*◌, ◌/◌, ◌≤◌, ◌<◌, leb, ltb, length, drop, Float, Result, Option}
use Rattle.shapes.specs.Lists.{tabulated}
use Rattle.shapes.specs.Numbers.{entry}
use Rattle.imageview.specs.Image.{Image}
use Rattle.refine_operator.specs.Call.{ColumnsDone}
use Rattle.refine_operator.specs.declared.OperatorError.{OperatorError}
use Rattle.refine_patch.specs.StepsFrom.{Repeats}
use Rattle.refine_formulas.specs.declared.SaddlePointConfig.{SaddlePointConfig}
use Rattle.refine_fits.specs.StepsBases.{coefs_in}
use Rattle.refine_seed.specs.declared.Spot.{Spot}
use Rattle.refine_seed.specs.Refine.{refine_lent, refine_of}
use Rattle.refine_seed.specs.StepsSpot.{seed_alone, first_for, Fitted}
use Rattle.refine_list.specs.Refining.{records_by, records_of}

-- so many numbers, those of l, were written to the front
pub record Front (l out : List Float) (n : ℕ) (out' : List Float) : Type 0 where
  pub count : n ≡ length l
  pub leaves : out' ≡ l ++ drop (length l) out

-- the records of all seeds
abbrev pub AllWritten : Image → SaddlePointConfig → List Float → List Float → ℕ → List Float → Type 0
AllWritten img cfg corners = Front (records_of img cfg corners (length corners / 3))

-- after i seeds, each refined to its spot, with w numbers written
pub record Going (spots : ℕ → Option Spot) (corners out : List Float) (i w : ℕ) (now : List Float) : Type 0 where
  pub count : w ≡ length (records_by spots corners i)
  pub leaves : now ≡ records_by spots corners i ++ drop (length (records_by spots corners i)) out
  pub most : length (records_by spots corners i) ≤ 3 * i

-- columns with which every seed is refined as by the operator of the settings' radius, whatever the overlaps
pub record Usable (cfg : SaddlePointConfig) (columns : List Float) : Type 0 where
  pub overlap : List Float
  pub same : (img : Image) (x y : Float) (wanted : Bool) → refine_lent img cfg x y wanted columns overlap ≡ refine_of img cfg x y wanted

-- ---- columns that repeat their numbers
-- each of the first 125 once more four times, side by side, from 624 on
unfoldable pub repeated : List Float → List Float
unfolding tabulated
repeated old = tabulated 1125 (λ i. cond (leb 624 i && ltb i 1124) (entry old ((i - 624) / 4)) (entry old i))

-- after k of them
pub record Repeating (old : List Float) (k : ℕ) (now : List Float) : Type 0 where
  pub long : length now ≡ 1125
  pub front : (i : ℕ) → i < 624 → entry now i ≡ entry old i
  pub here : (i l : ℕ) → i < k → l < 4 → entry now (624 + 4 * i + l) ≡ entry old i
  pub past : (i : ℕ) → 624 + 4 * k ≤ i → entry now i ≡ entry old i

-- ---- the first fits of four seeds at once
-- those of the seeds 4 · group to 4 · group + 3 stand at the front of the list, one after the other; past the last seed anything may stand
pub record FirstFits (img : Image) (cfg : SaddlePointConfig) (columns corners : List Float) (group : ℕ) (flat : List Float) : Type 0 where
  pub long : length flat ≡ 40
  pub fitted : (l : ℕ) → l < 4 → 4 * group + l < length corners / 3 → Fitted img columns cfg (entry corners (3 * (4 * group + l))) (entry corners (3 * (4 * group + l) + 1)) (coefs_in flat l)

-- the first fits of a group that is one of the list's
pub record Held (img : Image) (cfg : SaddlePointConfig) (columns corners : List Float) (group : ℕ) (flat : List Float) : Type 0 where
  pub long : length flat ≡ 40
  pub fits : group < length corners / 3 → FirstFits img cfg columns corners group flat

-- where the patch of the seed number i begins, or of some patch of the image
pub record Begins (width height pitch radius : ℕ) (corners : List Float) (i r : ℕ) : Type 0 where
  pub is : i < length corners / 3 → r ≡ first_for pitch radius (seed_alone width height radius (entry corners (3 * i)) (entry corners (3 * i + 1)))
  pub else : length corners / 3 ≤ i → r ≡ 0

-- columns that were built for a radius, or not: those of its operator over some list, and below radius 3 each number once more
pub record Building (radius : ℕ) (r : Result Unit OperatorError) (columns : List Float) : Type 0 where
  pub before : List Float
  pub done : ColumnsDone radius before r columns
  pub repeats : Repeats (ltb radius 3) radius columns

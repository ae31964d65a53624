-- What may be claimed of a second try: with equal settings it is the single pass; the corners of the first pass keep their bits and their order; and each pass byte
-- says which settings gave its record. The proofs are in proofs/Theorems.antt.
use Rattle.std.specs.Prelude.{◌≡◌, cond, List, [], ◌∷◌, ◌++◌, ℕ, ◌*◌, ◌/◌, ◌≤◌, eqb, length, take, drop, Float, Option, Some, None}
use Rattle.imageview.specs.Image.{Image}
use Rattle.refine_formulas.specs.declared.SaddlePointConfig.{SaddlePointConfig}
use Rattle.refine_seed.specs.declared.Spot.{Spot}
use Rattle.refine_list.specs.Refining as Single
use Rattle.refine_list.specs.Refining.{records_by}
use Rattle.refine_fallback.specs.Call.{either, passes_by, way_of, answer_of, out_after}

-- with equal settings: the same answer, and the same is left in the output
abbrev pub EqualIsSingle : Type 0
EqualIsSingle =
    (img : Image) (cfg : SaddlePointConfig) (corners out : List Float) (bytes : ℕ) → length corners / 3 ≤ bytes
    → (answer_of (way_of img cfg cfg corners (length out) bytes) ≡ Single.answer_of (Single.way_of img cfg corners (length out)))
    × (out_after out (way_of img cfg cfg corners (length out) bytes) ≡ Single.out_after out (Single.way_of img cfg corners (length out)))

-- the records whose byte is p
abbrev pub chosen : ℕ → List ℕ → List Float → List Float
chosen p [] l = []
chosen p (b ∷ bytes) l = cond (eqb b p) (take 3 l) [] ++ chosen p bytes (drop 3 l)

-- the second's spot where the first has none
abbrev pub second-alone : Option Spot → Option Spot → Option Spot
second-alone (Some spot) other = None
second-alone None other = other

-- one byte a record; those with 1 are the first pass's own, those with 2 the second's of the seeds that the first refused
pub record Told (first second : ℕ → Option Spot) (corners : List Float) (n : ℕ) : Type 0 where
  pub one_each : length (records_by (λ i. either (first i) (second i)) corners n) ≡ 3 * length (passes_by first second n)
  pub firsts : chosen 1 (passes_by first second n) (records_by (λ i. either (first i) (second i)) corners n) ≡ records_by first corners n
  pub seconds : chosen 2 (passes_by first second n) (records_by (λ i. either (first i) (second i)) corners n) ≡ records_by (λ i. second-alone (first i) (second i)) corners n

abbrev pub EachTold : Type 0
EachTold = (first second : ℕ → Option Spot) (corners : List Float) (n : ℕ) → Told first second corners n

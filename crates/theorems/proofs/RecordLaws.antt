-- Lists of whole records of which each has a property: those that peaks write, each a pixel's, and those that refining writes, each a seed's.
use mathlib.Core.Path.{◌≡◌, refl, sym, ap}
use mathlib.Core.Bool.{Bool, true, false, cond}
use mathlib.Core.List.{List, [], ◌∷◌, ◌++◌, append-nil}
use Prim.Native.Nat.{ℕ, zero, suc, ◌+◌, ◌*◌, ◌/◌, ◌≤◌, ◌<◌}
use native.Mathlib.Omega.{arith}
use lib.IntN.{pos}
use lib.ListN.{length}
use lib.Ieee.{Float, nan, binary32, of_int}
use Rattle.shapes.specs.Numbers.{entry}
use Rattle.corners.specs.declared.Corner.{Corner}
use Rattle.corners.specs.Corners.{corner, corners_of, corner_at}
use Rattle.corners.proofs.CornerLaws.{corner-at}
use Rattle.imageview.specs.Image.{Image}
use Rattle.peaks.specs.Peak.{Scan, value_at, is_peak}
use Rattle.peaks.specs.Call as P
use Rattle.refine_formulas.specs.declared.SaddlePointConfig.{SaddlePointConfig}
use Rattle.refine_seed.specs.declared.Spot.{Spot}
use Rattle.std.specs.Prelude.{Option, Some, None}
use Rattle.refine_list.specs.Refining as L

-- ---- whole records, each of which has P
pub data Each (P : Corner → Type 0) : List Float → Type 0 where
  none : Each P []
  one : {a b s : Float} {l : List Float} → P (corner a b s) → Each P l → Each P (a ∷ b ∷ s ∷ l)

module _ {P : Corner → Type 0} where
  joined : {l m : List Float} → Each P l → Each P m → Each P (l ++ m)
  joined none k = k
  joined (one p h) k = one p (joined h k)

  pub whole-records : {l : List Float} → Each P l → length l ≡ 3 * (length l / 3)
  whole-records none = refl
  whole-records (one {l = l} p h) = let e : length l ≡ 3 * (length l / 3) = whole-records h in omega arith

  pub record-at : {l : List Float} → Each P l → (j : ℕ) → j < length l / 3 → P (corner_at (corners_of l) j)
  record-at none j k = absurd (omega arith)
  record-at (one p h) zero k = p
  record-at (one {l = l} p h) (suc j) k = record-at h j (omega arith)

-- ---- peaks: a record is that of a pixel
pub record Peaked (s : Scan) (c : Corner) : Type 0 where
  pub x : ℕ
  pub y : ℕ
  pub peak : is_peak s x y ≡ true
  pub stands : c ≡ corner (of_int binary32 (pos x)) (of_int binary32 (pos y)) (value_at s x y)

module _ (s : Scan) where
  one_more : (l : List ℕ) (k : ℕ) → P.peak_at s k ≡ true → Each (Peaked s) (P.records_of s l) → Each (Peaked s) (P.records_of s (l ++ (k ∷ [])))
  unfolding P.records_of
  one_more [] k e h = one (record { x = _; y = _; peak = e; stands = refl }) none
  one_more (j ∷ l) k e (one p h) = one p (one_more l k e h)

  pub peak-records : (n : ℕ) → Each (Peaked s) (P.records_of s (P.chosen n (P.peak_at s)))
  unfolding P.chosen P.records_of
  peak-records zero = none
  peak-records (suc n) = by (P.peak_at s n) refl (peak-records n)
    where
      by : (b : Bool) → P.peak_at s n ≡ b → Each (Peaked s) (P.records_of s (P.chosen n (P.peak_at s))) → Each (Peaked s) (P.records_of s (P.chosen n (P.peak_at s) ++ cond b (n ∷ []) []))
      by true e h = one_more (P.chosen n (P.peak_at s)) n e h
      by false e h = rw append-nil h

-- ---- refining: a record is where a seed was refined to, with the seed's strength
pub record Moved (img : Image) (cfg : SaddlePointConfig) (corners : List Float) (c : Corner) : Type 0 where
  pub seed : ℕ
  pub within : seed < length corners / 3
  pub moved : L.spot_for img cfg corners seed ≡ Some (record { x = c.x; y = c.y })
  pub strength : c.strength ≡ (corner_at (corners_of corners) seed).strength

module _ (img : Image) (cfg : SaddlePointConfig) (corners : List Float) where
  written : (n : ℕ) → n < length corners / 3 → (p : Option Spot) → L.spot_for img cfg corners n ≡ p → Each (Moved img cfg corners) (L.record_of p (entry corners (3 * n + 2)))
  written n h (Some spot) e =
      one (record { seed = n; within = h; moved = e; strength = sym (ap (λ (c : Corner). c.strength) (corner-at corners n nan (omega arith))) }) none
  written n h None e = none

  pub refined-records : (n : ℕ) → n ≤ length corners / 3 → Each (Moved img cfg corners) (L.records_of img cfg corners n)
  unfolding L.records_by
  refined-records zero h = none
  refined-records (suc n) h = joined (refined-records n (omega arith)) (written n (omega arith) (L.spot_for img cfg corners n) refl)

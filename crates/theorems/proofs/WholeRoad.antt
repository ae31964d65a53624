-- The whole road of specs/WholeRoad.antt: the corner of a place traced back through the calls to a pixel, and N of that pixel by demand 3.
use mathlib.Core.Path.{◌≡◌, sym, ap, ◌∙◌}
use mathlib.Core.Logic.{◌⊎◌, inl, inr, ⊎_elim}
use mathlib.Core.Bool.{true, false≢true}
use mathlib.Core.List.{List}
use Prim.Native.Nat.{ℕ, ◌*◌, ◌/◌, ◌≤◌, ◌<◌}
use native.Mathlib.Nat.{min-le_left, eq-or-lt_of_le}
use native.Mathlib.Omega.{arith}
use lib.ListN.{length, get_or, length-take}
use lib.Ieee.{Float, lt}
use Rattle.shapes.specs.Numbers.{plus_zero}
use Rattle.floats.proofs.OrderLaws.{lt_irrefl, lt-asym}
use Rattle.imageview.specs.Image.{Image}
use Rattle.corners.specs.declared.Corner.{Corner}
use Rattle.corners.specs.Corners.{corners_of, corner_at}
use Rattle.corners.proofs.CornerLaws.{length-corners}
use Rattle.pixel_response.specs.Near.{Near}
use Rattle.peaks.specs.Peak.{Scan, is_peak}
use Rattle.peaks.proofs.PeakLaws.{lt-or-le}
use Rattle.peaks.proofs.Theorems.{is-inside, above_zero}
use Rattle.std.specs.Prelude.{Option, Some}
use Rattle.refine_seed.specs.declared.Spot.{Spot}
use Rattle.board.specs.Call as B
use Rattle.board_theorems.specs.Claims.{Assigned}
use Rattle.board_theorems.proofs.Theorems.{accepted-exactly}
use Rattle.theorems.specs.Claims.{Positive}
use Rattle.theorems.specs.WholeRoad.{Settings, scan_of, records, Left, Road, Traced, WholeRoad}
use Rattle.theorems.proofs.PixelLaws.{Clear, stands_at, framed, framed-clear}
use Rattle.theorems.proofs.RecordLaws.{Each, whole-records, record-at, Peaked, Moved}
use Rattle.theorems.proofs.CallLaws.{sized, keeps, scanned-records, moved-records, Again, merges, ties}

-- N is above zero where the value that stands for it is
positive_of : {P : ℕ} {v : Float} {plus minus : ℕ} → Near P v plus minus → lt plus_zero v ≡ true → minus < plus
positive_of {P} {v} {plus} {minus} n h = by (lt-or-le minus plus)
  where
    by : (minus < plus) ⊎ (plus ≤ minus) → minus < plus
    by (inl l) = l
    by (inr l) = ⊎_elim (λ e. absurd (false≢true (sym (lt_irrefl plus_zero) ∙ sym (ap (λ (w : Float). lt plus_zero w) (n.none e)) ∙ h)))
        (λ k. absurd (false≢true (sym (lt-asym v plus_zero (n.below k)) ∙ h))) (eq-or-lt_of_le l)

abbrev spot_at : Corner → Spot
spot_at c = record { x = c.x; y = c.y }

abbrev placed : Corner → Option Spot
placed c = Some (spot_at c)

in-front : (n : ℕ) (l : List Float) → length (records n l) / 3 ≤ n
in-front n l = omega (arith, length-take (3 * n) l, min-le_left (3 * n) (length l))

module _ (s : Settings) (img : Image) (left : Left) (road : Road s img left) where
  abbrev scan : Scan
  scan = scan_of s img left.values

  abbrev scanned : List Float
  scanned = records left.peaks left.scanned

  abbrev moved : List Float
  moved = records left.refined left.moved

  abbrev kept : List Float
  kept = records left.merged left.kept

  abbrev inner : ℕ
  inner = B.inner_corners s.rows s.columns

  refined : Each (Moved img s.fit scanned) moved
  refined = moved-records road.refining

  -- N of a peak is above zero
  positive : (x y : ℕ) → is_peak scan x y ≡ true → Positive img s.ring x y
  positive x y p =
      positive_of (stands_at img s.radius left.values s.window s.refine s.threshold s.cluster (sized road.responded clear) clear (keeps road.responded road.bytes))
      (above_zero scan x y p)
    where
      clear : Clear img s.radius x y
      clear = framed-clear (framed scan x y (is-inside scan x y p))

  module _ (given : Assigned s.places s.limit kept inner left.answers) (k : ℕ) (h : k < inner) where
    -- where the corner stands in the refined list, its seed, and the seed's pixel
    again : Again (corners_of moved) (corners_of kept) (get_or left.answers k 0)
    again = merges road.merging (whole-records refined) (get_or left.answers k 0) (omega (arith, (given.serves k h).listed, length-corners kept))

    origin : Moved img s.fit scanned (corner_at (corners_of moved) again.from)
    origin = record-at refined again.from (omega (arith, again.within, length-corners moved))

    pixel : Peaked scan (corner_at (corners_of scanned) origin.seed)
    pixel = record-at (scanned-records road.peaked) origin.seed origin.within

    traced : Traced s img left k
    traced =
        record {
          serves = given.serves k h;
          listed = omega (arith, (given.serves k h).listed, in-front left.merged left.kept);
          corner = again.from;
          refined = omega (arith, again.within, length-corners moved, in-front left.refined left.moved);
          same = again.same;
          seed = origin.seed;
          seeded = omega (arith, origin.within, in-front left.peaks left.scanned);
          moved = origin.moved ∙ ap placed (sym again.same);
          x = pixel.x;
          y = pixel.y;
          peak = pixel.peak;
          stands = pixel.stands;
          strength = ap (λ (c : Corner). c.strength) again.same ∙ origin.strength ∙ ap (λ (c : Corner). c.strength) pixel.stands;
          positive = positive pixel.x pixel.y pixel.peak;
        }

pub whole-road : WholeRoad
whole-road s img left road = (traced s img left road given, given.own)
  where
    given : Assigned s.places s.limit (kept s img left road) (inner s img left road) left.answers
    given = ((accepted-exactly s.rows s.columns s.places s.limit (kept s img left road) (length road.answers_before) left.answers).0 (ties road.tying)).1

-- The public call: the tests of docs/RULES.md in their order (`way_of`), what each way answers and leaves in the lent output. No refusal writes; elements past
-- the last record stay.
use Rattle.std.specs.Prelude.{◌≡◌, Bool, ◌&&◌, not, cond, List, [], ◌∷◌, ◌++◌, ℕ, zero, suc, ◌*◌, ◌/◌, ◌%◌, leb, ltb, pos, length, drop, Float, Result, Ok, Err}
use Rattle.std.specs.Float.{binary32}
use Rattle.std.specs.Float.Ieee.{of_int}
use Rattle.std.specs.Float.Ieee.Scale.{finite}
use Rattle.corners.specs.Corners.{whole}
use Rattle.imageview.specs.Image.{sizes_fit}
use Rattle.refusals.specs.declared.Refusal.{Refusal}
use Rattle.refusals.specs.declared.Refusal.TheVariants.{BadImage, BadRadius, BadLimit, BadLength, TooMany}
use Rattle.refusals.specs.Numbers as Refusals
use Rattle.peaks.specs.Peak.{Scan, value_at, is_peak}

-- the number of each case; 0 is done
abbrev pub number_of : Result ℕ Refusal → ℕ
number_of (Ok n) = 0
number_of (Err r) = Refusals.number_of r

-- the numbers below n that have p, in order
unfoldable pub chosen : ℕ → (ℕ → Bool) → List ℕ
chosen zero p = []
chosen (suc n) p = chosen n p ++ cond (p n) (n ∷ []) []

-- a pixel by its number in row order
abbrev pub peak_at : Scan → ℕ → Bool
peak_at s k = is_peak s (k % s.width) (k / s.width)

-- all peaks in row order
unfoldable pub peaks_of : Scan → List ℕ
unfolding chosen is_peak
peaks_of s = chosen (s.width * s.height) (peak_at s)

-- x, y and value of each
unfoldable pub records_of : Scan → List ℕ → List Float
unfolding value_at
records_of s [] = []
records_of s (k ∷ l) = of_int binary32 (pos (k % s.width)) ∷ of_int binary32 (pos (k / s.width)) ∷ value_at s (k % s.width) (k / s.width) ∷ records_of s l

abbrev pub radii_fit : Scan → Bool
radii_fit s = leb 1 s.ring && leb s.ring 10 && leb 1 s.window && leb s.window 8 && leb s.refine 7

pub data Way : Type 0 where
  refused : Refusal → Way
  found : List ℕ → Way

-- room is the output's length
unfoldable pub way_of : Scan → ℕ → Way
unfolding peaks_of
way_of s room =
    cond (not (sizes_fit (length s.values) s.width s.height)) (refused BadImage)
    (cond (not (radii_fit s)) (refused BadRadius)
    (cond (not (finite s.threshold)) (refused BadLimit)
    (cond (not (whole room)) (refused BadLength)
    (cond (ltb (room / 3) (length (peaks_of s))) (refused TooMany)
    (found (peaks_of s))))))

abbrev pub answer_of : Way → Result ℕ Refusal
answer_of (refused r) = Err r
answer_of (found l) = Ok (length l)

abbrev pub out_after : Scan → List Float → Way → List Float
out_after s out (refused r) = out
out_after s out (found l) = records_of s l ++ drop (3 * length l) out

pub record Done (s : Scan) (out : List Float) (answer : Result ℕ Refusal) (out' : List Float) : Type 0 where
  pub answers : answer ≡ answer_of (way_of s (length out))
  pub leaves : out' ≡ out_after s out (way_of s (length out))

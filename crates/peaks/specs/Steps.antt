-- What the steps below the public call promise each other.
use Rattle.std.specs.Prelude.{◌≡◌, Bool, true, false, ◌&&◌, cond, List, [], ◌∷◌, ◌++◌, ℕ, ◌+◌, ◌-◌, ◌*◌, ◌/◌, ◌%◌, ◌≤◌, ◌<◌, ltb, length, get_or, drop, Float, Result}
use Rattle.std.specs.Float.Ieee.{lt, le}
use Rattle.shapes.specs.Numbers.{entry}
use Rattle.refusals.specs.declared.Refusal.{Refusal}
use Rattle.refusals.specs.declared.Refusal.TheVariants.{TooMany}
use Rattle.peaks.specs.declared.Response.{Response}
use Rattle.shapes.specs.Tests.{every, some}
use Rattle.peaks.specs.Peak.{Scan, border, inside, beats_at}
use Rattle.peaks.specs.Sound.{scan_for, Sound}
use Rattle.peaks.specs.Listed.{between}
use Rattle.peaks.specs.Call.{chosen, peak_at, peaks_of, records_of, Way, refused, found, answer_of, out_after}

-- a response as it is scanned
abbrev pub scan_of : Response → Scan
scan_of r = scan_for r.values.now r.width r.height r.ring r.window r.refine r.threshold r.cluster

-- ---- runs of a row, and blocks of n rows of `side` values each, `width` apart
abbrev pub run_at : List Float → ℕ → ℕ → Float
run_at values start i = entry values (start + i)

abbrev pub block_at : List Float → ℕ → ℕ → ℕ → ℕ → Float
block_at values start width side j = entry values (start + j / side * width + j % side)

abbrev pub BlockFits : List Float → ℕ → ℕ → ℕ → ℕ → Type 0
BlockFits values start width side n = (r : ℕ) → r < n → start + r * width + side ≤ length values

-- what a closure answers of a value is whether that has p
abbrev pub TellsValue : (Float → Bool → Type 0) → (Float → Bool) → Type 0
TellsValue answers p = (w : Float) (r : Bool) → answers w r → r ≡ p w

-- the pixel (x, y) beats all on its right
abbrev pub Right : Scan → ℕ → ℕ → Type 0
Right s x y = every s.window (λ i. beats_at false (entry s.values (y * s.width + x)) (run_at s.values (y * s.width + x + 1) i)) ≡ true

-- the window of (x, y) lies in the response
pub record Framed (s : Scan) (x y : ℕ) : Type 0 where
  pub sound : Sound s
  pub left : s.window ≤ x
  pub right : x + s.window < s.width
  pub above : s.window ≤ y
  pub below : y + s.window < s.height

-- a pixel inside the border
pub record InsideBorder (s : Scan) (x y : ℕ) : Type 0 where
  pub framed : Framed s x y
  pub inner : inside s x y ≡ true

-- n columns of row y from `start` on, inside the border
pub record Bordered (s : Scan) (y start n : ℕ) : Type 0 where
  pub sound : Sound s
  pub above : border s ≤ y
  pub below : y + border s < s.height
  pub left : border s ≤ start
  pub right : start + n + border s ≤ s.width
  pub few : n ≤ 256

-- ---- lists of pixels
-- the value of pixel k exceeds the floor and beats those before and after it
abbrev pub stands_out : List Float → Float → ℕ → Bool
stands_out values floor k = lt floor (entry values k) && lt (entry values (k - 1)) (entry values k) && le (entry values (k + 1)) (entry values k)

-- and beats the three above it and the three below
abbrev pub beats_six : List Float → ℕ → ℕ → Bool
beats_six values width k =
    lt (entry values (k - width - 1)) (entry values k) && lt (entry values (k - width)) (entry values k) && lt (entry values (k - width + 1)) (entry values k) && le (entry values (k + width - 1)) (entry values k)
    && le (entry values (k + width)) (entry values k)
    && le (entry values (k + width + 1)) (entry values k)

-- both, as every peak does
abbrev pub may_peak : List Float → Float → ℕ → ℕ → Bool
may_peak values floor width k = stands_out values floor k && beats_six values width k

-- group g of eight values, counted from `start`, has one above the floor
abbrev pub any_above : List Float → Float → ℕ → ℕ → Bool
any_above values floor start g = some 8 (λ i. lt floor (run_at values (start + 8 * g) i))

-- the pixels of the groups listed that stand out
unfoldable pub gathered : List Float → Float → ℕ → List ℕ → List ℕ
gathered values floor start [] = []
gathered values floor start (g ∷ l) = between (start + 8 * g) 8 (stands_out values floor) ++ gathered values floor start l

-- the peaks from pixel k on, up to `next`, are added to the list
pub record Part (s : Scan) (list list' : List ℕ) (k next : ℕ) : Type 0 where
  pub on : k < next
  pub most : next ≤ length s.values
  pub few : length list' ≤ length list + 256
  pub added : list' ≡ list ++ between k (next - k) (peak_at s)

-- the scan stands at the pixel k, or at the end, with n peaks before
abbrev pub Stands : Scan → ℕ → ℕ → Type 0
Stands s n k = (n ≡ length (chosen k (peak_at s))) × (k ≤ length s.values)

-- the peaks before the pixel k are listed
pub record Noted (s : Scan) (list : List ℕ) (k : ℕ) : Type 0 where
  pub within : k ≤ length s.values
  pub few : length list ≤ 1024
  pub listed : list ≡ chosen k (peak_at s)

-- what is listed are pixels
abbrev pub Pixels : Scan → List ℕ → Type 0
Pixels s list = (i : ℕ) → i < length list → get_or list i 0 < length s.values

-- the records of the pixels listed follow n others
abbrev pub Follow : Scan → List ℕ → ℕ → List Float → List Float → Type 0
Follow s list n out out' =
    (l : List ℕ) (o : List Float) → n ≡ length l → length o ≡ length out → out ≡ records_of s l ++ drop (3 * n) o → out' ≡ records_of s (l ++ list) ++ drop (3 * (n + length list)) o

-- ---- the most peaks that there can be
-- as many lengths of window + 1 as cover what the border leaves of a side
abbrev pub covers : ℕ → ℕ → ℕ → ℕ
covers size border window = (size - 2 * border + window) / (window + 1)

abbrev pub most_of : Scan → ℕ
most_of s = covers s.width (border s) s.window * covers s.height (border s) s.window

-- the output after the n peaks before k
abbrev pub Written : Scan → List Float → ℕ → ℕ → List Float → Type 0
Written s out n k out' = out' ≡ records_of s (chosen k (peak_at s)) ++ drop (3 * n) out

-- records of all peaks, and what stood past them
abbrev pub all_recorded : Scan → List Float → List Float
all_recorded s out = records_of s (peaks_of s) ++ drop (3 * length (peaks_of s)) out

-- what is left of the call once its tests have passed
abbrev pub rest_of : Scan → ℕ → Way
rest_of s room = cond (ltb (room / 3) (length (peaks_of s))) (refused TooMany) (found (peaks_of s))

pub record Recorded (s : Scan) (out : List Float) (answer : Result ℕ Refusal) (out' : List Float) : Type 0 where
  pub answers : answer ≡ answer_of (rest_of s (length out))
  pub leaves : out' ≡ out_after s out (rest_of s (length out))

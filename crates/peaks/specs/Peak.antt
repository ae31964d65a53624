-- The rule by which a pixel of a response is a peak: it is inside the border, its value exceeds max(threshold, 0), it beats every other value of its
-- square window, and enough of those are positive. A value beats an earlier one in row order where it is greater, a later one where it is at least equal: so of
-- equal values the first can be a peak. A NaN on either side is neither.
use Rattle.std.specs.Prelude.{Bool, ◌&&◌, ◌||◌, not, cond, List, ℕ, zero, suc, ◌+◌, ◌-◌, ◌*◌, ◌/◌, ◌%◌, leb, ltb, eqb, Float}
use Rattle.std.specs.Float.Ieee.{lt, le}
use Rattle.shapes.specs.Numbers.{plus_zero, entry}
use Rattle.shapes.specs.Tests.{every}

-- a response, row after row, and the settings
pub record Scan : Type 0 where
  pub values : List Float
  pub width : ℕ
  pub height : ℕ
  pub ring : ℕ
  pub window : ℕ
  pub refine : ℕ
  pub threshold : Float
  pub cluster : ℕ

unfoldable pub value_at : Scan → ℕ → ℕ → Float
value_at s x y = entry s.values (y * s.width + x)

-- ---- inside the border, which leaves room for the ring, the window and the refiner's patch
abbrev pub border : Scan → ℕ
border s = s.ring + s.window + s.refine

unfoldable pub inside : Scan → ℕ → ℕ → Bool
inside s x y = leb (border s) x && ltb (x + border s) s.width && leb (border s) y && ltb (y + border s) s.height

-- max(threshold, 0)
abbrev pub floor_of : Scan → Float
floor_of s = cond (lt plus_zero s.threshold) s.threshold plus_zero

-- ---- the window: its pixels by number, row after row; the pixel itself is the middle one
abbrev pub side : Scan → ℕ
side s = 2 * s.window + 1

abbrev pub cells : Scan → ℕ
cells s = side s * side s

abbrev pub middle : Scan → ℕ
middle s = cells s / 2

unfoldable pub neighbour : Scan → ℕ → ℕ → ℕ → Float
unfolding value_at
neighbour s x y j = value_at s (x + j % side s - s.window) (y + j / side s - s.window)

-- how many numbers below n have p
unfoldable pub count : ℕ → (ℕ → Bool) → ℕ
count zero p = 0
count (suc n) p = count n p + cond (p n) 1 0

-- v beats w: strictly where w comes earlier
abbrev pub beats_at : Bool → Float → Float → Bool
beats_at earlier v w = cond earlier (lt w v) (le w v)

-- the value v of a pixel beats the value w of its window's pixel j, which comes earlier where j is before the middle one
unfoldable pub beats : Scan → ℕ → Float → Float → Bool
beats s j v w = beats_at (ltb j (middle s)) v w

unfoldable pub highest : Scan → ℕ → ℕ → Bool
unfolding every beats neighbour
highest s x y = every (cells s) (λ j. eqb j (middle s) || beats s j (value_at s x y) (neighbour s x y j))

-- how many other values of the window are positive
unfoldable pub positives : Scan → ℕ → ℕ → ℕ
unfolding count neighbour
positives s x y = count (cells s) (λ j. not (eqb j (middle s)) && lt plus_zero (neighbour s x y j))

unfoldable pub is_peak : Scan → ℕ → ℕ → Bool
unfolding inside highest positives
is_peak s x y = inside s x y && lt (floor_of s) (value_at s x y) && highest s x y && leb s.cluster (positives s x y)

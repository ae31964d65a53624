-- That r is the value of the format f nearest to the exact root of x, said without a root: by squares, over fractions of whole numbers.
-- A finite value's size is the fraction num / den (lib.Ieee.Positive).
-- The root is nearer to r than to y where it lies on r's side of their middle, (r + y) / 2: which side that is, is asked by comparing 4 * x with
-- (r + y) * (r + y). `NearestRoot` says so of each other value y of the format. So none is nearer to the root than r, and none is as near.
use Rattle.std.specs.Prelude.{ℕ, ◌+◌, ◌*◌, ◌<◌, T}
use lib.Ieee.{Float, Format, fits}
use Rattle.std.specs.Float.Ieee.Positive.{num, den, positive}
use Rattle.std.specs.Float.Ieee.Scale.{finite}

-- r < y
abbrev pub Below : Float → Float → Type 0
Below r y = num r * den y < num y * den r

-- r + y is the fraction total r y / (den r * den y)
abbrev pub total : Float → Float → ℕ
total r y = num r * den y + num y * den r

-- 4 * x < (r + y) * (r + y): the root of x is below the middle of r and y
abbrev pub RootBelowMiddle : Float → Float → Float → Type 0
RootBelowMiddle x r y = 4 * num x * (den r * den y * (den r * den y)) < total r y * total r y * den x

-- (r + y) * (r + y) < 4 * x: the root of x is above the middle of r and y
abbrev pub RootAboveMiddle : Float → Float → Float → Type 0
RootAboveMiddle x r y = total r y * total r y * den x < 4 * num x * (den r * den y * (den r * den y))

-- y is taken by its size: a value below zero is farther from a root than its magnitude is
pub record NearestRoot (f : Format) (x r : Float) : Type 0 where
  -- r is finite and above zero, and the format holds it
  pub number : T (positive r)
  pub held : T (fits f r)
  -- the root is nearer to r than to any value y of the format that is above r, or below it
  pub above : (y : Float) → T (fits f y) → T (finite y) → Below r y → RootBelowMiddle x r y
  pub below : (y : Float) → T (fits f y) → T (finite y) → Below y r → RootAboveMiddle x r y

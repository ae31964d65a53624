-- Demand 3 of one pixel, for samples below a limit P, a power of two up to 4096 (256 for bytes): the written value v stands for N / 5, N = gain - loss.
-- It is a whole number q of 2 ^ -22, with a sign; five times that number differs from N · 2 ^ 22 by at most 40 · P (10240 for bytes, so
-- |v - N / 5| <= 1/2048); and it is positive, +0.0 or negative exactly as N is.
use Rattle.std.specs.Prelude.{◌≡◌, Bool, true, false, ℕ, ◌+◌, ◌*◌, ◌^◌, ◌≤◌, ◌<◌, Float}
use Rattle.std.specs.Float.Ieee.{lt}
use Rattle.std.specs.Float.Ieee.Exact.{HasValue}
use Rattle.shapes.specs.Numbers.{plus_zero}
use Rattle.pixel_response.specs.Samples.{gain, loss, response_of}

-- ±a and ±b differ by at most d, where the sign of a is s (true: negative) and b is given as plus - minus
abbrev pub ByAtMost : ℕ → Bool → ℕ → ℕ → ℕ → Type 0
ByAtMost d false a plus minus = (a + minus ≤ plus + d) × (plus ≤ a + minus + d)
ByAtMost d true a plus minus = (minus ≤ a + plus + d) × (a + plus ≤ minus + d)

pub record Near (P : ℕ) (v : Float) (plus minus : ℕ) : Type 0 where
  pub negative : Bool
  pub units : ℕ
  pub size : HasValue v negative units (2 ^ 22)
  pub close : ByAtMost (40 * P) negative (5 * units) (plus * 2 ^ 22) (minus * 2 ^ 22)
  pub above : minus < plus → lt plus_zero v ≡ true
  pub none : plus ≡ minus → v ≡ plus_zero
  pub below : plus < minus → lt v plus_zero ≡ true

-- samples below P
abbrev pub Under : ℕ → ℕ → (ℕ → ℕ) → Type 0
Under P n s = (k : ℕ) → k < n → s k < P

-- the sentence of demand 3, of one pixel's samples, and of two pixels' by their order
abbrev pub Stands : ℕ → Type 0
Stands P = (s c : ℕ → ℕ) → Under P 16 s → Under P 5 c → Near P (response_of s c) (gain s) (loss s c)

-- N of the second is larger: gain - loss < gain' - loss'
abbrev pub Orders : ℕ → Type 0
Orders P =
    (s c s' c' : ℕ → ℕ) → Under P 16 s → Under P 5 c → Under P 16 s' → Under P 5 c'
    → gain s + loss s' c' < gain s' + loss s c → lt (response_of s c) (response_of s' c') ≡ true

-- What whoever relies on the peaks may claim of every response: the words of the theorems in proofs/Theorems.antt.
use Rattle.std.specs.Prelude.{◌≡◌, true, ℕ, ◌+◌, ◌≤◌}
use Rattle.std.specs.Float.{nan}
use Rattle.std.specs.Float.Ieee.{lt}
use Rattle.shapes.specs.Numbers.{plus_zero}
use Rattle.peaks.specs.Peak.{Scan, value_at, is_peak}

-- Two peaks that lie in each other's window are one.
abbrev pub PeaksApart : Scan → Type 0
PeaksApart s =
    (x y a b : ℕ) → is_peak s x y ≡ true → is_peak s a b ≡ true
    → x ≤ a + s.window → a ≤ x + s.window → y ≤ b + s.window → b ≤ y + s.window → (x ≡ a) × (y ≡ b)

-- Every peak exceeds zero.
abbrev pub AboveZero : Scan → Type 0
AboveZero s = (x y : ℕ) → is_peak s x y ≡ true → lt plus_zero (value_at s x y) ≡ true

-- Every peak exceeds the threshold, where that is a number.
abbrev pub AboveThreshold : Scan → Type 0
AboveThreshold s = (x y : ℕ) → (s.threshold ≡ nan → ⊥) → is_peak s x y ≡ true → lt s.threshold (value_at s x y) ≡ true

-- Pixels that beat the three above and the three below: where those lie, and that a peak is one of them.
use mathlib.Core.Path.{◌≡◌, refl, sym, ap, ◌∙◌}
use mathlib.Core.Bool.{Bool, true, false, ◌&&◌}
use Prim.Native.Nat.{ℕ, suc, ◌+◌, ◌-◌, ◌*◌, ◌/◌, ◌%◌, ◌≤◌, ◌<◌}
use native.Mathlib.Nat.{suc-mul, mul-le-mul_right}
use native.Mathlib.Omega.{arith}
use lib.Arith.{digits_div, digits_mod}
use lib.ListN.{length, get_or}
use lib.Ieee.{Float, nan, lt, le}
use Rattle.peaks.specs.Peak.{Scan, side, highest, is_peak}
use Rattle.peaks.specs.Steps.{block_at, beats_six, Framed}
use Rattle.shapes.proofs.TestLaws.{every-miss}
use Rattle.peaks.proofs.PeakLaws.{not-highest}
use Rattle.peaks.proofs.WindowLaws.{corner-is, lost-above, lost-below}
use Rattle.peaks.proofs.FrameLaws.{in_row, rows-least}

-- a row and a pixel more lie before one whose window is in the response
pub rim : (s : Scan) (x y : ℕ) → Framed s x y → s.width + 1 ≤ y * s.width + x
rim s x y f =
    let a = rows-least s x y f in
    let b : 1 * s.width ≤ s.window * s.width = mul-le-mul_right s.width f.sound.window-least in
    let c = f.sound.window-least in
    omega arith

-- and after it
pub rim-below : (s : Scan) (x y : ℕ) → Framed s x y → y * s.width + x + s.width + 2 ≤ length s.values
rim-below s x y f =
    let g = f.sound.window-least in
    below (y * s.width) (suc y * s.width) (suc-mul y s.width) (in_row s x (suc y) 2 f.sound (omega (arith, f.right)) (omega (arith, f.below)))
  where
    below : (q p : ℕ) → p ≡ q + s.width → p + x + 2 ≤ length s.values → q + x + s.width + 2 ≤ length s.values
    below q p e h = omega arith

-- one of two tests fails
pub one_of : {P : Type 0} (a b : Bool) → (a && b) ≡ false → (a ≡ false → P) → (b ≡ false → P) → P
one_of false b e f g = f refl
one_of true b e f g = g e

module _ (s : Scan) (x y p : ℕ) (e : s.window ≡ suc p) (low : s.window ≤ x) (high : s.window ≤ y) where
  abbrev n : ℕ
  n = s.window

  abbrev at : ℕ
  at = y * s.width + x

  abbrev value : Float
  value = get_or s.values at nan

  abbrev corner : ℕ
  corner = at - n * s.width - n

  times : (m : ℕ) → n * m ≡ p * m + m
  times m = ap (λ (k : ℕ). k * m) e ∙ suc-mul p m

  -- the three above are the middle ones of the last row above
  up-miss : (d k : ℕ) → d ≤ 2 → k + s.width + 1 ≡ at + d → lt (get_or s.values k nan) value ≡ false → false ≡ highest s x y
  up-miss d k h i f =
      lost-above s x y low high
      (every-miss (λ j. lt (block_at s.values corner s.width (side s) j) value) (n * side s) (p * side s + (p + d)) (bound (p * side s) (n * side s) (times (side s)))
      (ap (λ (z : ℕ). lt (get_or s.values z nan) value) place ∙ f))
    where
      less : p + d < side s
      less = omega (arith, e)

      bound : (q r : ℕ) → r ≡ q + side s → q + (p + d) < r
      bound q r g = omega (arith, less)

      join : (c q r w m : ℕ) → c + r + n ≡ m → r ≡ q + w → k + w + 1 ≡ m + d → c + q + (p + d) ≡ k
      join c q r w m a b g = omega (arith, e)

      place : corner + (p * side s + (p + d)) / side s * s.width + (p * side s + (p + d)) % side s ≡ k
      place =
          ap (λ (z : ℕ). corner + z * s.width + (p * side s + (p + d)) % side s) (digits_div p less) ∙ ap (λ (z : ℕ). corner + p * s.width + z) (digits_mod p less)
          ∙ join corner (p * s.width) (n * s.width) s.width at (corner-is s x y low high) (times s.width) i

  -- the three below those of the first row below
  down-miss : (d k : ℕ) → d ≤ 2 → k + 1 ≡ at + s.width + d → le (get_or s.values k nan) value ≡ false → false ≡ highest s x y
  down-miss d k h i f =
      lost-below s x y low high
      (every-miss (λ j. le (block_at s.values (at + s.width - n) s.width (side s) j) value) (n * side s) (0 * side s + (p + d)) (bound (p * side s) (n * side s) (times (side s)))
      (ap (λ (z : ℕ). le (get_or s.values z nan) value) place ∙ f))
    where
      less : p + d < side s
      less = omega (arith, e)

      bound : (q r : ℕ) → r ≡ q + side s → 0 * side s + (p + d) < r
      bound q r g = omega (arith, less)

      join : (m w : ℕ) → n ≤ m → k + 1 ≡ m + w + d → m + w - n + 0 * w + (p + d) ≡ k
      join m w a g = omega (arith, e)

      place : at + s.width - n + (0 * side s + (p + d)) / side s * s.width + (0 * side s + (p + d)) % side s ≡ k
      place =
          ap (λ (z : ℕ). at + s.width - n + z * s.width + (0 * side s + (p + d)) % side s) (digits_div 0 less) ∙ ap (λ (z : ℕ). at + s.width - n + 0 * s.width + z) (digits_mod 0 less)
          ∙ join at s.width (omega arith) i

  -- so what does not beat the six is no peak
  pub six-peak : s.width + 1 ≤ at → beats_six s.values s.width at ≡ false → is_peak s x y ≡ false
  six-peak h f =
      sym (not-highest s x y
      (sym (one_of (a && b && c && d && g) l f
      (λ f. one_of (a && b && c && d) g f
      (λ f. one_of (a && b && c) d f
      (λ f. one_of (a && b) c f
      (λ f. one_of a b f (up-miss 0 (at - s.width - 1) (omega arith) (omega arith)) (up-miss 1 (at - s.width) (omega arith) (omega arith)))
      (up-miss 2 (at - s.width + 1) (omega arith) (omega arith)))
      (down-miss 0 (at + s.width - 1) (omega arith) (omega arith)))
      (down-miss 1 (at + s.width) (omega arith) (omega arith)))
      (down-miss 2 (at + s.width + 1) (omega arith) (omega arith)))))
    where
      a : Bool
      a = lt (get_or s.values (at - s.width - 1) nan) value

      b : Bool
      b = lt (get_or s.values (at - s.width) nan) value

      c : Bool
      c = lt (get_or s.values (at - s.width + 1) nan) value

      d : Bool
      d = le (get_or s.values (at + s.width - 1) nan) value

      g : Bool
      g = le (get_or s.values (at + s.width) nan) value

      l : Bool
      l = le (get_or s.values (at + s.width + 1) nan) value

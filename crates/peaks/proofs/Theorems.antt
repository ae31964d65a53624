-- What holds of every peak of every response: the claims of specs/Claims.antt.
use mathlib.Core.Path.{◌≡◌, refl, sym, ap, ◌∙◌, subst}
use mathlib.Core.Logic.{⊎_elim}
use mathlib.Core.Bool.{Bool, true, false, ◌&&◌, ◌||◌, cond, false≢true}
use Prim.Native.Nat.{ℕ, ◌+◌, ◌-◌, ◌*◌, ◌/◌, ◌%◌, ◌≤◌, ◌<◌}
use native.Mathlib.Nat.{add-mul, suc-mul, mul-le-mul_right, zero-mul, mul-pos, eq-or-lt_of_le}
use native.Mathlib.Omega.{arith}
use lib.Arith.{digits_div, digits_mod}
use lib.Dec.{leb, eqb}
use lib.Ieee.{Float, nan, inf, fin, up, down, below, lt}
use lib.Ieee.Fits.{down_pos}
use lib.Ieee.Scale.{finite}
use borrow.Author.Tests.{ne_eqb, ltb-true, ltb-false, lt-ltb}
use Rattle.floats.proofs.OrderLaws.{lt_trans, lt_not_le}
use Rattle.shapes.specs.Numbers.{plus_zero}
use Rattle.peaks.specs.Peak.{Scan, value_at, floor_of, side, cells, middle, neighbour, beats, inside, highest, positives, is_peak}
use Rattle.peaks.specs.Claims.{PeaksApart, AboveZero, AboveThreshold}
use Rattle.shapes.proofs.TestLaws.{first_of, second-of, every-at}
use Rattle.peaks.proofs.PeakLaws.{lt-or-le}
use Rattle.peaks.proofs.WindowLaws.{beats-before, beats-after, middle-is}

-- ---- the tests of a peak
module _ (s : Scan) (x y : ℕ) (peak : is_peak s x y ≡ true) where
  pub is-highest : highest s x y ≡ true
  unfolding is_peak
  is-highest = second-of (inside s x y && lt (floor_of s) (value_at s x y)) (highest s x y) (first_of (inside s x y && lt (floor_of s) (value_at s x y) && highest s x y) (leb s.cluster (positives s x y)) peak)

  is-strong : (inside s x y && lt (floor_of s) (value_at s x y)) ≡ true
  unfolding is_peak
  is-strong = first_of (inside s x y && lt (floor_of s) (value_at s x y)) (highest s x y) (first_of (inside s x y && lt (floor_of s) (value_at s x y) && highest s x y) (leb s.cluster (positives s x y)) peak)

  pub is-inside : inside s x y ≡ true
  is-inside = first_of (inside s x y) (lt (floor_of s) (value_at s x y)) is-strong

  is-above : lt (floor_of s) (value_at s x y) ≡ true
  is-above = second-of (inside s x y) (lt (floor_of s) (value_at s x y)) is-strong

-- ---- two peaks are apart
-- the number of (a, b) in the window of (x, y)
abbrev pub number : Scan → ℕ → ℕ → ℕ → ℕ → ℕ
number s x y a b = (b + s.window - y) * side s + (a + s.window - x)

module _ (s : Scan) (x y a b : ℕ) (left : x ≤ a + s.window) (right : a ≤ x + s.window) (high : y ≤ b + s.window) (low : b ≤ y + s.window) where
  column-small : a + s.window - x < side s
  column-small = omega arith

  number-row : number s x y a b / side s ≡ b + s.window - y
  number-row = digits_div (b + s.window - y) column-small

  number-column : number s x y a b % side s ≡ a + s.window - x
  number-column = digits_mod (b + s.window - y) column-small

  number-most : number s x y a b < cells s
  number-most = whole (side s * side s) ((b + s.window - y) * side s) (subst (λ (k : ℕ). k ≤ side s * side s) (suc-mul (b + s.window - y) (side s)) (mul-le-mul_right (side s) (let h : b + s.window - y < side s = omega arith in h)))
    where
      whole : (p q : ℕ) → q + side s ≤ p → q + (a + s.window - x) < p
      whole p q h = omega (arith, column-small)

  pub number-value : neighbour s x y (number s x y a b) ≡ value_at s a b
  unfolding neighbour
  number-value =
      ap (λ (k : ℕ). value_at s (x + k - s.window) (y + number s x y a b / side s - s.window)) number-column
      ∙ ap (λ (k : ℕ). value_at s (x + (a + s.window - x) - s.window) (y + k - s.window)) number-row
      ∙ ap (λ (k : ℕ). value_at s k (y + (b + s.window - y) - s.window)) (let e : x + (a + s.window - x) - s.window ≡ a = omega arith in e)
      ∙ ap (λ (k : ℕ). value_at s a k) (let e : y + (b + s.window - y) - s.window ≡ b = omega arith in e)

  pub not_itself : (number s x y a b ≡ middle s → ⊥) → highest s x y ≡ true → beats s (number s x y a b) (value_at s x y) (value_at s a b) ≡ true
  unfolding highest
  not_itself e h =
      sym (ap (λ (w : Float). beats s (number s x y a b) (value_at s x y) w) number-value)
      ∙ other (eqb (number s x y a b) (middle s)) (beats s (number s x y a b) (value_at s x y) (neighbour s x y (number s x y a b))) (ne_eqb (number s x y a b) (middle s) e)
      (every-at (λ j. eqb j (middle s) || beats s j (value_at s x y) (neighbour s x y j)) (cells s) (number s x y a b) number-most h)
    where
      other : (p q : Bool) → p ≡ false → (p || q) ≡ true → q ≡ true
      other false q f g = g
      other true q f g = absurd (false≢true (sym f))

  -- seen from the other pixel, this one lies as far on the other side of the middle
  pub mirrored : number s x y a b + number s a b x y ≡ middle s + middle s
  mirrored =
      join ((b + s.window - y) * side s) ((y + s.window - b) * side s) (s.window * side s)
      (middle s) (sym (add-mul (b + s.window - y) (y + s.window - b) (side s)) ∙ ap (λ (k : ℕ). k * side s) (let e : b + s.window - y + (y + s.window - b) ≡ s.window + s.window = omega arith in e) ∙ add-mul s.window s.window (side s)) (middle-is s)
    where
      join : (p q r m : ℕ) → p + q ≡ r + r → m ≡ r + s.window → p + (a + s.window - x) + (q + (x + s.window - a)) ≡ m + m
      join p q r m e f = omega arith

  -- the middle one is the pixel itself
  pub itself : number s x y a b ≡ middle s → (x ≡ a) × (y ≡ b)
  itself e =
      let f : b + s.window - y ≡ s.window = sym number-row ∙ ap (λ (k : ℕ). k / side s) (e ∙ middle-is s) ∙ digits_div s.window (let h : s.window < side s = omega arith in h) in
      let g : a + s.window - x ≡ s.window = sym number-column ∙ ap (λ (k : ℕ). k % side s) (e ∙ middle-is s) ∙ digits_mod s.window (let h : s.window < side s = omega arith in h) in
      (omega arith, omega arith)

-- of two values neither of two pixels beats the other's, one of them before the other
never_both : (s : Scan) (j i : ℕ) (v w : Float) → j < middle s → middle s < i → beats s j v w ≡ true → beats s i w v ≡ true → ⊥
never_both s j i v w h l e f = false≢true (sym (lt_not_le w v (sym (beats-before s j v w h) ∙ e)) ∙ sym (beats-after s i w v l) ∙ f)

-- two peaks that lie in each other's window are one
pub peaks-apart : (s : Scan) → PeaksApart s
peaks-apart s x y a b p q left right high low =
    ⊎_elim (λ l. absurd (never_both s j i (value_at s x y) (value_at s a b) l (omega (arith, m)) (mine (λ e. omega arith)) (others (λ e. omega (arith, m)))))
    (λ h. ⊎_elim (λ e. itself s x y a b left right high low (sym e)) (λ l. absurd (never_both s i j (value_at s a b) (value_at s x y) (omega (arith, m)) l (others (λ e. omega (arith, m))) (mine (λ e. omega arith)))) (eq-or-lt_of_le h))
    (lt-or-le j (middle s))
  where
    j : ℕ
    j = number s x y a b

    i : ℕ
    i = number s a b x y

    m : j + i ≡ middle s + middle s
    m = mirrored s x y a b left right high low

    mine : (j ≡ middle s → ⊥) → beats s j (value_at s x y) (value_at s a b) ≡ true
    mine e = not_itself s x y a b left right high low e (is-highest s x y p)

    others : (i ≡ middle s → ⊥) → beats s i (value_at s a b) (value_at s x y) ≡ true
    others e = not_itself s a b x y right left low high e (is-highest s a b q)

-- ---- a peak exceeds zero, and the threshold where that is a number
-- what is not above zero is below all that is
fractions : (z u : Bool) (a c p r : ℕ) → 0 < p → below false (0 * p) z (a * 1) ≡ false → below false (0 * r) u (c * 1) ≡ true → below z (a * r) u (c * p) ≡ true
fractions z true a c p r l h k = absurd (false≢true k)
fractions true false a c p r l h k =
    let m : 0 < c * p = mul-pos (let n = ltb-true (0 * r) (c * 1) k in omega arith) l in
    lt-ltb 0 (a * r + c * p) (omega arith)
fractions false false a c p r l h k =
    let m : 0 < c * p = mul-pos (let n = ltb-true (0 * r) (c * 1) k in omega arith) l in
    lt-ltb (a * r) (c * p) (subst (λ (q : ℕ). q < c * p) (sym (ap (λ (q : ℕ). q * r) (let e : a ≡ 0 = omega (arith, ltb-false (0 * p) (a * 1) h) in e) ∙ zero-mul r)) m)

below-positive : (t v : Float) → (t ≡ nan → ⊥) → lt plus_zero t ≡ false → lt plus_zero v ≡ true → lt t v ≡ true
unfolding lt
below-positive nan v e h k = absurd (e refl)
below-positive (inf true) nan e h k = absurd (false≢true k)
below-positive (inf true) (inf u) e h k = k
below-positive (inf true) (fin u c r) e h k = refl
below-positive (inf false) v e h k = absurd (false≢true (sym h))
below-positive (fin z a p) nan e h k = absurd (false≢true k)
below-positive (fin z a p) (inf u) e h k = k
below-positive (fin z a p) (fin u c r) e h k = fractions z u (a * up p) (c * up r) (down p) (down r) (down_pos p) h k

pub above_zero : (s : Scan) → AboveZero s
above_zero s x y peak = go (lt plus_zero s.threshold) refl
  where
    go : (z : Bool) → lt plus_zero s.threshold ≡ z → lt plus_zero (value_at s x y) ≡ true
    go true e = lt_trans plus_zero s.threshold (value_at s x y) e (sym (ap (λ (z : Bool). lt (cond z s.threshold plus_zero) (value_at s x y)) e) ∙ is-above s x y peak)
    go false e = sym (ap (λ (z : Bool). lt (cond z s.threshold plus_zero) (value_at s x y)) e) ∙ is-above s x y peak

pub above-threshold : (s : Scan) → AboveThreshold s
above-threshold s x y number peak = go (lt plus_zero s.threshold) refl
  where
    go : (z : Bool) → lt plus_zero s.threshold ≡ z → lt s.threshold (value_at s x y) ≡ true
    go true e = sym (ap (λ (z : Bool). lt (cond z s.threshold plus_zero) (value_at s x y)) e) ∙ is-above s x y peak
    go false e = below-positive s.threshold (value_at s x y) number e (above_zero s x y peak)

pub above-finite : (s : Scan) (x y : ℕ) → finite s.threshold ≡ true → is_peak s x y ≡ true → lt s.threshold (value_at s x y) ≡ true
above-finite s x y f = above-threshold s x y (λ e. false≢true (sym (ap finite e) ∙ f))

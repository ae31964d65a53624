-- N does not change where every sample p becomes m - p (an inverted board), nor where one number is added to all 21 samples.
use mathlib.Core.Path.{◌≡◌, ap, ◌∙◌}
use Prim.Native.Nat.{ℕ, zero, suc, ◌+◌, ◌-◌, ◌*◌, ◌≤◌, ◌<◌}
use native.Mathlib.Omega.{arith}
use Rattle.pixel_response.proofs.SumLaws.{total-le}
use Rattle.pixel_response.proofs.PixelLaws.{total-cong}
use Rattle.pixel_response.specs.Samples.{total, apart, square_sum, edge_sum, ring_sum, cross_sum, gain, loss}

-- ---- one distance
apart-inverted : (m a b : ℕ) → a ≤ m → b ≤ m → apart (m - a) (m - b) ≡ apart a b
unfolding apart
apart-inverted m a b h k = omega arith

apart-shifted : (t a b : ℕ) → apart (a + t) (b + t) ≡ apart a b
unfolding apart
apart-shifted t a b = omega arith

-- ---- sums of samples inverted, and of samples moved
abbrev pub Most : ℕ → ℕ → (ℕ → ℕ) → Type 0
Most m n s = (k : ℕ) → k < n → s k ≤ m

total-inverted : (m n : ℕ) (s : ℕ → ℕ) → Most m n s → total n (λ k. m - s k) ≡ n * m - total n s
unfolding total
total-inverted m zero s h = omega arith
total-inverted m (suc n) s h =
    ap (λ (z : ℕ). z + (m - s n)) (total-inverted m n s (λ k l. h k (omega arith)))
    ∙ by (total n s) (s n) (n * m) (suc n * m) (total-le n s m (λ k l. h k (omega arith))) (h n (omega arith)) (native.Mathlib.Nat.suc-mul n m)
  where
    by : (a b c d : ℕ) → a ≤ c → b ≤ m → d ≡ c + m → c - a + (m - b) ≡ d - (a + b)
    by a b c d p q e = omega arith

total-shifted : (t n : ℕ) (s : ℕ → ℕ) → total n (λ k. s k + t) ≡ total n s + n * t
unfolding total
total-shifted t zero s = omega arith
total-shifted t (suc n) s = ap (λ (z : ℕ). z + (s n + t)) (total-shifted t n s) ∙ by (total n s) (s n) (n * t) (suc n * t) (native.Mathlib.Nat.suc-mul n t)
  where
    by : (a b c d : ℕ) → d ≡ c + t → a + c + (b + t) ≡ a + b + d
    by a b c d e = omega arith

-- ---- the inverted samples
module _ (m : ℕ) (s c : ℕ → ℕ) (ring : Most m 16 s) (cross : Most m 5 c) where
  abbrev pub inverted : (ℕ → ℕ) → ℕ → ℕ
  inverted f k = m - f k

  square-inverted : square_sum (inverted s) ≡ square_sum s
  unfolding square_sum
  square-inverted =
      total-cong 4 (λ k. apart (inverted s k + inverted s (k + 8)) (inverted s (k + 4) + inverted s (k + 12))) (λ k. apart (s k + s (k + 8)) (s (k + 4) + s (k + 12)))
      (λ k l. pair (s k) (s (k + 8)) (s (k + 4)) (s (k + 12)) (ring k (omega arith)) (ring (k + 8) (omega arith)) (ring (k + 4) (omega arith)) (ring (k + 12) (omega arith)))
    where
      both : (a b : ℕ) → a ≤ m → b ≤ m → m - a + (m - b) ≡ 2 * m - (a + b)
      both a b h k = omega arith

      pair : (a b c d : ℕ) → a ≤ m → b ≤ m → c ≤ m → d ≤ m → apart (m - a + (m - b)) (m - c + (m - d)) ≡ apart (a + b) (c + d)
      pair a b c d h i j k =
          ap (λ (z : ℕ). apart z (m - c + (m - d))) (both a b h i) ∙ ap (λ (z : ℕ). apart (2 * m - (a + b)) z) (both c d j k) ∙ apart-inverted (2 * m) (a + b) (c + d) (omega arith) (omega arith)

  edge-inverted : edge_sum (inverted s) ≡ edge_sum s
  unfolding edge_sum
  edge-inverted =
      total-cong 8 (λ k. apart (inverted s k) (inverted s (k + 8))) (λ k. apart (s k) (s (k + 8))) (λ k l. apart-inverted m (s k) (s (k + 8)) (ring k (omega arith)) (ring (k + 8) (omega arith)))

  mean-inverted : apart (5 * ring_sum (inverted s)) (16 * cross_sum (inverted c)) ≡ apart (5 * ring_sum s) (16 * cross_sum c)
  unfolding ring_sum cross_sum
  mean-inverted =
      ap (λ (z : ℕ). apart (5 * z) (16 * total 5 (inverted c))) (total-inverted m 16 s ring)
      ∙ ap (λ (z : ℕ). apart (5 * (16 * m - total 16 s)) (16 * z)) (total-inverted m 5 c cross)
      ∙ ap (λ (z : ℕ). apart z (16 * (5 * m - total 5 c))) (first (total 16 s) (total-le 16 s m ring))
      ∙ ap (λ (z : ℕ). apart (80 * m - 5 * total 16 s) z) (second (total 5 c) (total-le 5 c m cross))
      ∙ apart-inverted (80 * m) (5 * total 16 s) (16 * total 5 c) (under (total 16 s) (total-le 16 s m ring)) (under' (total 5 c) (total-le 5 c m cross))
    where
      first : (a : ℕ) → a ≤ 16 * m → 5 * (16 * m - a) ≡ 80 * m - 5 * a
      first a h = omega arith

      second : (a : ℕ) → a ≤ 5 * m → 16 * (5 * m - a) ≡ 80 * m - 16 * a
      second a h = omega arith

      under : (a : ℕ) → a ≤ 16 * m → 5 * a ≤ 80 * m
      under a h = omega arith

      under' : (a : ℕ) → a ≤ 5 * m → 16 * a ≤ 80 * m
      under' a h = omega arith

  pub gain-inverted : gain (inverted s) ≡ gain s
  unfolding gain
  gain-inverted = ap (λ (z : ℕ). 5 * z) square-inverted

  pub loss-inverted : loss (inverted s) (inverted c) ≡ loss s c
  unfolding loss
  loss-inverted = ap (λ (z : ℕ). 5 * z + apart (5 * ring_sum (inverted s)) (16 * cross_sum (inverted c))) edge-inverted ∙ ap (λ (z : ℕ). 5 * edge_sum s + z) mean-inverted

-- ---- the samples moved by one number
module _ (t : ℕ) (s c : ℕ → ℕ) where
  abbrev pub shifted : (ℕ → ℕ) → ℕ → ℕ
  shifted f k = f k + t

  square-shifted : square_sum (shifted s) ≡ square_sum s
  unfolding square_sum
  square-shifted =
      total-cong 4 (λ k. apart (shifted s k + shifted s (k + 8)) (shifted s (k + 4) + shifted s (k + 12))) (λ k. apart (s k + s (k + 8)) (s (k + 4) + s (k + 12)))
      (λ k l. pair (s k) (s (k + 8)) (s (k + 4)) (s (k + 12)))
    where
      both : (a b : ℕ) → a + t + (b + t) ≡ a + b + 2 * t
      both a b = omega arith

      pair : (a b c d : ℕ) → apart (a + t + (b + t)) (c + t + (d + t)) ≡ apart (a + b) (c + d)
      pair a b c d = ap (λ (z : ℕ). apart z (c + t + (d + t))) (both a b) ∙ ap (λ (z : ℕ). apart (a + b + 2 * t) z) (both c d) ∙ apart-shifted (2 * t) (a + b) (c + d)

  edge-shifted : edge_sum (shifted s) ≡ edge_sum s
  unfolding edge_sum
  edge-shifted = total-cong 8 (λ k. apart (shifted s k) (shifted s (k + 8))) (λ k. apart (s k) (s (k + 8))) (λ k l. apart-shifted t (s k) (s (k + 8)))

  mean-shifted : apart (5 * ring_sum (shifted s)) (16 * cross_sum (shifted c)) ≡ apart (5 * ring_sum s) (16 * cross_sum c)
  unfolding ring_sum cross_sum
  mean-shifted =
      ap (λ (z : ℕ). apart (5 * z) (16 * total 5 (shifted c))) (total-shifted t 16 s)
      ∙ ap (λ (z : ℕ). apart (5 * (total 16 s + 16 * t)) (16 * z)) (total-shifted t 5 c)
      ∙ ap (λ (z : ℕ). apart z (16 * (total 5 c + 5 * t))) (first (total 16 s))
      ∙ ap (λ (z : ℕ). apart (5 * total 16 s + 80 * t) z) (second (total 5 c))
      ∙ apart-shifted (80 * t) (5 * total 16 s) (16 * total 5 c)
    where
      first : (a : ℕ) → 5 * (a + 16 * t) ≡ 5 * a + 80 * t
      first a = omega arith

      second : (a : ℕ) → 16 * (a + 5 * t) ≡ 16 * a + 80 * t
      second a = omega arith

  pub gain-shifted : gain (shifted s) ≡ gain s
  unfolding gain
  gain-shifted = ap (λ (z : ℕ). 5 * z) square-shifted

  pub loss-shifted : loss (shifted s) (shifted c) ≡ loss s c
  unfolding loss
  loss-shifted = ap (λ (z : ℕ). 5 * z + apart (5 * ring_sum (shifted s)) (16 * cross_sum (shifted c))) edge-shifted ∙ ap (λ (z : ℕ). 5 * edge_sum s + z) mean-shifted

-- The four sums of samples below a limit P: how large each can be.
use Prim.Native.Nat.{ℕ, zero, suc, ◌+◌, ◌*◌, ◌≤◌, ◌<◌, zero-le}
use native.Mathlib.Nat.{le_of_lt, lt-suc_self, lt_trans, suc-mul}
use native.Mathlib.Omega.{arith}
use Rattle.pixel_response.specs.Samples.{total, apart, square_sum, edge_sum, ring_sum, cross_sum}
use Rattle.pixel_response.specs.Near.{Under}
use Rattle.pixel_response.proofs.PixelLaws.{apart-most}

pub record Bounded (P sr dr ring cross : ℕ) : Type 0 where
  pub by-square : sr ≤ 8 * P
  pub by-edge : dr ≤ 8 * P
  pub by-ring : ring + 16 ≤ 16 * P
  pub by-cross : cross + 5 ≤ 5 * P

-- ---- totals
pub total-le : (n : ℕ) (f : ℕ → ℕ) (most : ℕ) → ((k : ℕ) → k < n → f k ≤ most) → total n f ≤ n * most
unfolding total
total-le zero f most h = zero-le
total-le (suc n) f most h =
    let rest = total-le n f most (λ k l. h k (lt_trans l (lt-suc_self n))) in
    omega (arith, suc-mul n most, h n (lt-suc_self n))

pub total-under : (n : ℕ) (f : ℕ → ℕ) (P : ℕ) → Under P n f → total n f + n ≤ n * P
unfolding total
total-under zero f P h = zero-le
total-under (suc n) f P h =
    let rest = total-under n f P (λ k l. h k (lt_trans l (lt-suc_self n))) in
    omega (arith, suc-mul n P, h n (lt-suc_self n))

-- ---- of samples below P
module _ (P : ℕ) (s : ℕ → ℕ) (h : Under P 16 s) where
  two-under : (i j : ℕ) → i < 16 → j < 16 → s i + s j ≤ 2 * P
  two-under i j a b = omega (arith, h i a, h j b)

  pub square_le : square_sum s ≤ 8 * P
  unfolding square_sum
  square_le =
      let t = total-le 4 (λ k. apart (s k + s (k + 8)) (s (k + 4) + s (k + 12))) (2 * P)
      (λ k l. apart-most (s k + s (k + 8)) (s (k + 4) + s (k + 12)) (2 * P) (two-under k (k + 8) (omega arith) (omega arith)) (two-under (k + 4) (k + 12) (omega arith) (omega arith))) in
      omega arith

  pub edge-le : edge_sum s ≤ 8 * P
  unfolding edge_sum
  edge-le = total-le 8 (λ k. apart (s k) (s (k + 8))) P (λ k l. apart-most (s k) (s (k + 8)) P (le_of_lt (h k (omega arith))) (le_of_lt (h (k + 8) (omega arith))))

  pub ring-under : ring_sum s + 16 ≤ 16 * P
  unfolding ring_sum
  ring-under = total-under 16 s P h

pub cross-under : (P : ℕ) (c : ℕ → ℕ) → Under P 5 c → cross_sum c + 5 ≤ 5 * P
unfolding cross_sum
cross-under P c h = total-under 5 c P h

pub bounded : (P : ℕ) (s c : ℕ → ℕ) → Under P 16 s → Under P 5 c → Bounded P (square_sum s) (edge_sum s) (ring_sum s) (cross_sum c)
bounded P s c h k = record { by-square = square_le P s h; by-edge = edge-le P s h; by-ring = ring-under P s h; by-cross = cross-under P c k }

-- Signs: that of a difference, and that samples that agree have the same.
use mathlib.Core.Path.{◌≡◌, sym, ap, ◌∙◌, subst}
use Prim.Native.Nat.{ℕ, zero, suc, ◌+◌, ◌*◌, ◌/◌, ◌%◌, ◌≤◌, ◌<◌}
use native.Mathlib.Nat.{mod-lt}
use native.Mathlib.Omega.{arith}
use lib.Dec.{ltb, eqb, leb→le}
use lib.IntN.{ℤ, pos, negsuc, neg_ℤ, sub_ℕ, ◌+ℤ◌, ◌-ℤ◌}
use lib.Signed.{mag, ◌≤ℤ◌}
use mir.Syntax.{w32}
use mir.Val.{to_z, of_z}
use mir.ValLaws.{to_z-of_z}
use mathlib.Core.Logic.{⊎_elim}
use Rattle.gradient.proofs.Differences.{upward, downward}
use Rattle.response.proofs.PassLaws.{lt-or-le}
use Rattle.pixel_response.specs.Samples.{total, ring_sum, cross_sum}
use Rattle.pixel_response.proofs.PixelLaws.{total-cong}
use Rattle.gradient.specs.Coefficients.{sign_of, square_sign, edge_sign, mean_sign, minus_where, coefficient}

-- ---- how far a sum of signs may lie from zero
mag-sign : (z : ℤ) → negsuc 0 ≤ℤ z → z ≤ℤ pos 1 → mag z ≤ 1
mag-sign (pos n) low high = leb→le n 1 high.le
mag-sign (negsuc n) low high = let l : n ≤ 0 = leb→le n 0 low.le in omega arith

mag-neg : (z : ℤ) → mag (neg_ℤ z) ≤ mag z + 1
mag-neg (pos zero) = omega arith
mag-neg (pos (suc n)) = omega arith
mag-neg (negsuc n) = omega arith

mag-add : (a b : ℤ) → mag (a +ℤ b) ≤ mag a + mag b + 1
mag-add (pos m) (pos n) = omega arith
mag-add (pos m) (negsuc n) = apart m n
  where
    apart : (m n : ℕ) → mag (sub_ℕ m (suc n)) ≤ m + n + 1
    apart m n = ⊎_elim (λ h. subst (λ (z : ℤ). mag z ≤ m + n + 1) (sym (downward m (suc n) h)) (omega arith)) (λ h. subst (λ (z : ℤ). mag z ≤ m + n + 1) (sym (upward m (suc n) h)) (omega arith)) (lt-or-le m (suc n))
mag-add (negsuc m) (pos n) = apart m n
  where
    apart : (m n : ℕ) → mag (sub_ℕ n (suc m)) ≤ m + n + 1
    apart m n = ⊎_elim (λ h. subst (λ (z : ℤ). mag z ≤ m + n + 1) (sym (downward n (suc m) h)) (omega arith)) (λ h. subst (λ (z : ℤ). mag z ≤ m + n + 1) (sym (upward n (suc m) h)) (omega arith)) (lt-or-le n (suc m))
mag-add (negsuc m) (negsuc n) = omega arith

-- so that a sum of three, as the machine has it, is the sum
pub sum-back : (x y mean : ℤ) → negsuc 0 ≤ℤ x → x ≤ℤ pos 1 → negsuc 0 ≤ℤ y → y ≤ℤ pos 1 → negsuc 0 ≤ℤ mean → mean ≤ℤ pos 1
    → to_z w32 (of_z w32 (to_z w32 (of_z w32 (to_z w32 (of_z w32 x) +ℤ to_z w32 (of_z w32 y))) -ℤ to_z w32 (of_z w32 mean))) ≡ x +ℤ y -ℤ mean
sum-back x y mean a b c d e f =
    let fits : (z : ℤ) → mag z ≤ 10 → to_z w32 (of_z w32 z) ≡ z = λ z h. to_z-of_z w32 z (record { sfits = omega arith }) in
    let p = mag-sign x a b in
    let q = mag-sign y c d in
    let r = mag-sign mean e f in
    let sum : to_z w32 (of_z w32 (to_z w32 (of_z w32 x) +ℤ to_z w32 (of_z w32 y))) ≡ x +ℤ y = ap (λ (z : ℤ). to_z w32 (of_z w32 (z +ℤ to_z w32 (of_z w32 y)))) (fits x (omega (arith, p))) ∙ ap (λ (z : ℤ). to_z w32 (of_z w32 (x +ℤ z))) (fits y (omega (arith, q))) ∙ fits (x +ℤ y) (omega (arith, mag-add x y, p, q)) in
    ap (λ (z : ℤ). to_z w32 (of_z w32 (z -ℤ to_z w32 (of_z w32 mean)))) sum ∙ ap (λ (z : ℤ). to_z w32 (of_z w32 (x +ℤ y -ℤ z))) (fits mean (omega (arith, r)))
    ∙ fits (x +ℤ y -ℤ mean) (omega (arith, mag-add (x +ℤ y) (neg_ℤ mean), mag-add x y, mag-neg mean, p, q, r))

-- the coefficient from its two signs, less the sign of the means
pub coefficient_less : (s : ℕ → ℕ) (k : ℕ) (mean square edge x y : ℤ) → square ≡ square_sign s (k % 4) → x ≡ minus_where (eqb (k / 4 % 2) 1) square → edge ≡ edge_sign s (k % 8) → y ≡ minus_where (ltb k 8) edge → x +ℤ y -ℤ mean ≡ coefficient s k -ℤ mean
unfolding coefficient
coefficient_less s k mean square edge x y p q r t = rw (q, p, t, r)

-- ---- of samples that agree
module _ (s t : ℕ → ℕ) (e : (k : ℕ) → k < 21 → s k ≡ t k) where
  square-same : (q : ℕ) → q < 4 → square_sign s q ≡ square_sign t q
  unfolding square_sign
  square-same q h =
      ap (λ (a : ℕ). sign_of (a + s (q + 8)) (s (q + 4) + s (q + 12))) (e q (omega arith))
      ∙ ap (λ (b : ℕ). sign_of (t q + b) (s (q + 4) + s (q + 12))) (e (q + 8) (omega arith))
      ∙ ap (λ (c : ℕ). sign_of (t q + t (q + 8)) (c + s (q + 12))) (e (q + 4) (omega arith))
      ∙ ap (λ (d : ℕ). sign_of (t q + t (q + 8)) (t (q + 4) + d)) (e (q + 12) (omega arith))

  edge_same : (k : ℕ) → k < 8 → edge_sign s k ≡ edge_sign t k
  unfolding edge_sign
  edge_same k h = ap (λ (a : ℕ). sign_of a (s (k + 8))) (e k (omega arith)) ∙ ap (λ (b : ℕ). sign_of (t k) b) (e (k + 8) (omega arith))

  pub mean-same : mean_sign s (λ k. s (16 + k)) ≡ mean_sign t (λ k. t (16 + k))
  unfolding mean_sign ring_sum cross_sum
  mean-same =
      ap (λ (a : ℕ). sign_of (5 * a) (16 * total 5 (λ k. s (16 + k)))) (total-cong 16 s t (λ k h. e k (omega arith)))
      ∙ ap (λ (b : ℕ). sign_of (5 * total 16 t) (16 * b)) (total-cong 5 (λ k. s (16 + k)) (λ k. t (16 + k)) (λ k h. e (16 + k) (omega arith)))

  pub coefficient-same : (k : ℕ) → coefficient s k ≡ coefficient t k
  unfolding coefficient
  coefficient-same k = rw (square-same (k % 4) (mod-lt k (let h : 0 < 4 = omega arith in h)), edge_same (k % 8) (mod-lt k (let h : 0 < 8 = omega arith in h)))

-- `count`, cut in two and by equal tests.
use mathlib.Core.Path.{◌≡◌, refl, sym, ap, ◌∙◌}
use mathlib.Core.Bool.{Bool, true, false, cond}
use Prim.Native.Nat.{ℕ, zero, suc, ◌+◌, ◌≤◌, ◌<◌}
use native.Mathlib.Nat.{add-zero, add-suc, add_assoc}
use native.Mathlib.Numerals.{add-one}
use native.Mathlib.Omega.{arith}
use Rattle.std.specs.Int.{from_bool}
use Rattle.peaks.specs.Peak.{count}

module _ (p : ℕ → Bool) where
  pub count_cut : (a b : ℕ) → count (a + b) p ≡ count a p + count b (λ j. p (a + j))
  unfolding count
  count_cut a zero = ap (λ (n : ℕ). count n p) (add-zero a) ∙ sym (add-zero (count a p))
  count_cut a (suc b) =
      ap (λ (n : ℕ). count n p) (add-suc a b) ∙ ap (λ (z : ℕ). z + cond (p (a + b)) 1 0) (count_cut a b) ∙ add_assoc (count a p) (count b (λ j. p (a + j))) (cond (p (a + b)) 1 0)

  pub count-more : (n : ℕ) → count (n + 1) p ≡ count n p + cond (p n) 1 0
  unfolding count
  count-more n = ap (λ (m : ℕ). count m p) (add-one n)

  pub count_none : count 0 p ≡ 0
  unfolding count
  count_none = refl

pub cond-most : (b : Bool) → cond b 1 0 ≤ 1
cond-most true = omega arith
cond-most false = omega arith

pub count_most : (n : ℕ) (p : ℕ → Bool) → count n p ≤ n
unfolding count
count_most zero p = omega arith
count_most (suc n) p = let h : count n p ≤ n = count_most n p in omega (arith, cond-most (p n))

pub count_same : (n : ℕ) (p q : ℕ → Bool) → ((j : ℕ) → j < n → p j ≡ q j) → count n p ≡ count n q
unfolding count
count_same zero p q e = refl
count_same (suc n) p q e =
    ap (λ (z : ℕ). z + cond (p n) 1 0) (count_same n p q (λ j h. e j (omega arith))) ∙ ap (λ (z : Bool). count n q + cond z 1 0) (e n (omega arith))

-- one test more, counted as a number
pub count-more-by : (p : ℕ → Bool) (n : ℕ) {sum c : ℕ} → sum ≡ count n p → c ≡ from_bool (p n) → sum + c ≡ count (n + 1) p
count-more-by p n {sum} {c} e f = ap (λ (z : ℕ). z + c) e ∙ ap (λ (z : ℕ). count n p + z) (f ∙ from_bool-cond (p n)) ∙ sym (count-more p n)
  where
    from_bool-cond : (b : Bool) → from_bool b ≡ cond b 1 0
    from_bool-cond true = refl
    from_bool-cond false = refl

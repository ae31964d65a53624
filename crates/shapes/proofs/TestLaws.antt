-- `every` and `some`: one number more, cut in two, by equal tests, and where a test fails.
use mathlib.Core.Path.{◌≡◌, refl, sym, ap, ◌∙◌}
use mathlib.Core.Logic.{◌⊎◌, inl, inr, ⊎_elim}
use mathlib.Core.Bool.{Bool, true, false, ◌&&◌, ◌||◌, false≢true, and_assoc, and-true, and-false, or-false}
use Prim.Native.Nat.{ℕ, zero, suc, ◌+◌, ◌≤◌, ◌<◌}
use native.Mathlib.Nat.{add-zero, add-suc, le_refl, not-suc-le-zero, eq-or-lt_of_le}
use native.Mathlib.Numerals.{add-one}
use native.Mathlib.Omega.{arith}
use Rattle.shapes.specs.Tests.{every, some}

-- ---- of truth values
pub both : {a b : Bool} → a ≡ true → b ≡ true → (a && b) ≡ true
both {a} {b} p q = ap (λ (z : Bool). z && b) p ∙ q

pub first_of : (a b : Bool) → (a && b) ≡ true → a ≡ true
first_of true b e = refl
first_of false b e = e

pub second-of : (a b : Bool) → (a && b) ≡ true → b ≡ true
second-of true b e = e
second-of false b e = absurd (false≢true e)

pub either : (a b : Bool) → (a || b) ≡ true → (a ≡ true) ⊎ (b ≡ true)
either true b e = inl refl
either false b e = inr e

pub first-not : (a b : Bool) → (a || b) ≡ false → a ≡ false
first-not true b e = e
first-not false b e = refl

pub second-not : (a b : Bool) → (a || b) ≡ false → b ≡ false
second-not true b e = absurd (false≢true (sym e))
second-not false b e = e

module _ (p : ℕ → Bool) where
  pub every-cut : (a b : ℕ) → every (a + b) p ≡ (every a p && every b (λ j. p (a + j)))
  unfolding every
  every-cut a zero = ap (λ (n : ℕ). every n p) (add-zero a) ∙ sym (and-true (every a p))
  every-cut a (suc b) =
      ap (λ (n : ℕ). every n p) (add-suc a b) ∙ ap (λ (z : Bool). z && p (a + b)) (every-cut a b) ∙ and_assoc (every a p) (every b (λ j. p (a + j))) (p (a + b))

  pub every_more : (n : ℕ) → every (n + 1) p ≡ (every n p && p n)
  unfolding every
  every_more n = ap (λ (m : ℕ). every m p) (add-one n)

  pub every-none : every 0 p ≡ true
  unfolding every
  every-none = refl

  pub every-lost : (m d : ℕ) → every m p ≡ false → every (m + d) p ≡ false
  every-lost m d e = every-cut m d ∙ ap (λ (z : Bool). z && every d (λ j. p (m + j))) e

  pub every-miss : (n k : ℕ) → k < n → p k ≡ false → every n p ≡ false
  unfolding every
  every-miss zero k h e = absurd (not-suc-le-zero h)
  every-miss (suc n) k h e =
      ⊎_elim (λ q. ap (λ (z : Bool). every n p && z) (ap p (sym q) ∙ e) ∙ and-false (every n p)) (λ l. ap (λ (z : Bool). z && p n) (every-miss n k l e))
      (eq-or-lt_of_le (let l : k ≤ n = omega arith in l))

  pub every-at : (n k : ℕ) → k < n → every n p ≡ true → p k ≡ true
  unfolding every
  every-at zero k h e = absurd (not-suc-le-zero h)
  every-at (suc n) k h e =
      ⊎_elim (λ q. ap p q ∙ second-of (every n p) (p n) e) (λ l. every-at n k l (first_of (every n p) (p n) e)) (eq-or-lt_of_le (let l : k ≤ n = omega arith in l))

pub every-same : (n : ℕ) (p q : ℕ → Bool) → ((j : ℕ) → j < n → p j ≡ q j) → every n p ≡ every n q
unfolding every
every-same zero p q e = refl
every-same (suc n) p q e =
    ap (λ (z : Bool). z && p n) (every-same n p q (λ j h. e j (omega arith))) ∙ ap (λ (z : Bool). every n q && z) (e n (omega arith))

-- ---- of some
pub some_more : (n : ℕ) (p : ℕ → Bool) → some (n + 1) p ≡ (some n p || p n)
unfolding some
some_more n p = ap (λ (m : ℕ). some m p) (add-one n)

pub some-none : (p : ℕ → Bool) → some 0 p ≡ false
unfolding some
some-none p = refl

pub some_at : (n k : ℕ) (p : ℕ → Bool) → k < n → some n p ≡ false → p k ≡ false
unfolding some
some_at zero k p h e = absurd (not-suc-le-zero h)
some_at (suc n) k p h e =
    ⊎_elim (λ q. ap p q ∙ second-not (some n p) (p n) e) (λ l. some_at n k p l (first-not (some n p) (p n) e)) (eq-or-lt_of_le (let l : k ≤ n = omega arith in l))

-- one that passes
pub some_is : (n : ℕ) (p : ℕ → Bool) → some n p ≡ true → (m : ℕ) × (m < n) × (p m ≡ true)
unfolding some
some_is zero p e = absurd (false≢true e)
some_is (suc n) p e = go (p n) refl (some_is n p)
  where
    go : (b : Bool) → p n ≡ b → (some n p ≡ true → (m : ℕ) × (m < n) × (p m ≡ true)) → (m : ℕ) × (m < suc n) × (p m ≡ true)
    go true k before = (n, le_refl (suc n), k)
    go false k before =
        let r = before (sym (or-false (some n p)) ∙ ap (λ (z : Bool). some n p || z) (sym k) ∙ e) in
        (r.0, omega (arith, r.1), r.2)

pub some_same : (n : ℕ) (p q : ℕ → Bool) → ((j : ℕ) → j < n → p j ≡ q j) → some n p ≡ some n q
unfolding some
some_same zero p q e = refl
some_same (suc n) p q e = ap (λ (z : Bool). z || p n) (some_same n p q (λ j h. e j (omega arith))) ∙ ap (λ (z : Bool). some n q || z) (e n (omega arith))

-- The first sample above the maximum: samples passed one by one and many at a time, and what it says of each; the highest of many samples.
use mathlib.Core.Path.{◌≡◌, refl, sym, ap, ◌∙◌, subst}
use mathlib.Core.Logic.{⊎_elim}
use mathlib.Core.Bool.{Bool, true, false, cond}
use Prim.Native.Nat.{ℕ, zero, suc, ◌+◌, ◌≤◌, ◌<◌}
use native.Mathlib.Nat.{add-zero, add-suc, eq-or-lt_of_le, le_of_suc-le-suc, le_refl, not-suc-le-zero}
use native.Mathlib.Numerals.{add-one}
use native.Mathlib.Omega.{arith}
use lib.Dec.{ltb}
use borrow.Author.Tests.{ltb-true, ltb-false, lt-ltb, le-ltb}
use Rattle.shapes.specs.Turns.{turns}
use Rattle.shapes.proofs.TurnLaws.{turns_more}
use Rattle.graymap.specs.Call.{first_above}
use Rattle.graymap.specs.Steps.{higher_of, highest_of}

module _ (f : ℕ → ℕ) (m : ℕ) where
  pub above_none : first_above f m 0 ≡ 0
  unfolding first_above
  above_none = refl

  -- one more sample, where one was above, and where none was
  stays : (n : ℕ) → first_above f m n < n → first_above f m (suc n) ≡ first_above f m n
  unfolding first_above
  stays n h = ap (λ (b : Bool). cond b (first_above f m n) (cond (ltb m (f n)) n (suc n))) (lt-ltb (first_above f m n) n h)

  clear : (n : ℕ) → first_above f m n ≡ n → first_above f m (suc n) ≡ cond (ltb m (f n)) n (suc n)
  unfolding first_above
  clear n e =
      ap (λ (k : ℕ). cond (ltb k n) k (cond (ltb m (f n)) n (suc n))) e
      ∙ ap (λ (b : Bool). cond b n (cond (ltb m (f n)) n (suc n))) (le-ltb n n (le_refl n))

  passed : (n : ℕ) → first_above f m n ≡ n → f n ≤ m → first_above f m (suc n) ≡ suc n
  passed n e h = clear n e ∙ ap (λ (b : Bool). cond b n (suc n)) (le-ltb m (f n) h)

  pub above_passed : (n : ℕ) → first_above f m n ≡ n → f n ≤ m → first_above f m (n + 1) ≡ n + 1
  above_passed n e h = ap (first_above f m) (add-one n) ∙ passed n e h ∙ sym (add-one n)

  pub above_all : (n : ℕ) → ((i : ℕ) → i < n → f i ≤ m) → first_above f m n ≡ n
  above_all zero h = above_none
  above_all (suc n) h = passed n (above_all n (λ i l. h i (omega arith))) (h n (omega arith))

  -- d samples at a time
  many : (n d : ℕ) → first_above f m n ≡ n → ((i : ℕ) → i < d → f (n + i) ≤ m) → first_above f m (n + d) ≡ n + d
  many n zero e h = ap (first_above f m) (add-zero n) ∙ e ∙ sym (add-zero n)
  many n (suc d) e h =
      ap (first_above f m) (add-suc n d) ∙ passed (n + d) (many n d e (λ i l. h i (omega arith))) (h d (omega arith)) ∙ sym (add-suc n d)

  -- the first one is found, and stays the first
  pub above_found : (n k : ℕ) → first_above f m k ≡ k → m < f k → k < n → first_above f m n ≡ k
  above_found zero k e h l = absurd (not-suc-le-zero l)
  above_found (suc n) k e h l =
      ⊎_elim
      (λ q. ap (λ (j : ℕ). first_above f m (suc j)) (sym q) ∙ clear k e ∙ ap (λ (b : Bool). cond b k (suc k)) (lt-ltb m (f k) h))
      (λ q. let before : first_above f m n ≡ k = above_found n k e h q in stays n (subst (λ (j : ℕ). j < n) (sym before) q) ∙ before)
      (eq-or-lt_of_le (le_of_suc-le-suc l))

  -- ---- what it says of each sample
  pub above_most : (n : ℕ) → first_above f m n ≤ n
  unfolding first_above
  above_most zero = omega arith
  above_most (suc n) = by (ltb (first_above f m n) n) (ltb m (f n)) (first_above f m n) (above_most n)
    where
      by : (a b : Bool) (k : ℕ) → k ≤ n → cond a k (cond b n (suc n)) ≤ suc n
      by true b k h = omega arith
      by false true k h = omega arith
      by false false k h = omega arith

  -- where none of one sample more is above, none was before it
  before : (n : ℕ) → first_above f m (suc n) ≡ suc n → first_above f m n ≡ n
  before n e =
      ⊎_elim (λ q. q) (λ l. absurd (let s = stays n l in let z : ⊥ = omega arith in z)) (eq-or-lt_of_le (above_most n))

  last : (n : ℕ) → first_above f m (suc n) ≡ suc n → f n ≤ m
  last n e = by (ltb m (f n)) refl
    where
      by : (b : Bool) → ltb m (f n) ≡ b → f n ≤ m
      by true t = absurd (let p : suc n ≡ n = sym e ∙ clear n (before n e) ∙ ap (λ (b : Bool). cond b n (suc n)) t in let z : ⊥ = omega arith in z)
      by false t = ltb-false m (f n) t

  pub none_above : (n i : ℕ) → first_above f m n ≡ n → i < n → f i ≤ m
  none_above zero i e h = absurd (not-suc-le-zero h)
  none_above (suc n) i e h =
      ⊎_elim (λ q. subst (λ (j : ℕ). f j ≤ m) (sym q) (last n e)) (λ l. none_above n i (before n e) l) (eq-or-lt_of_le (le_of_suc-le-suc h))

-- ---- the highest of many samples
module _ (f : ℕ → ℕ) where
  pub highest_none : highest_of f 0 ≡ 0
  unfolding highest_of turns
  highest_none = refl

  pub highest_more : (n : ℕ) → highest_of f (n + 1) ≡ higher_of (highest_of f n) (f n)
  unfolding highest_of
  highest_more n = turns_more n (λ i a. higher_of a (f i)) 0

  higher-both : (a b : ℕ) → (a ≤ higher_of a b) × (b ≤ higher_of a b)
  higher-both a b = by (ltb a b) refl
    where
      by : (t : Bool) → ltb a b ≡ t → (a ≤ cond t b a) × (b ≤ cond t b a)
      by true e = let l = ltb-true a b e in (omega arith, omega arith)
      by false e = let l = ltb-false a b e in (omega arith, omega arith)

  pub below-highest : (n i : ℕ) → i < n → f i ≤ highest_of f n
  unfolding highest_of turns
  below-highest zero i h = absurd (not-suc-le-zero h)
  below-highest (suc n) i h =
      let t = higher-both (highest_of f n) (f n) in
      ⊎_elim (λ q. subst (λ (j : ℕ). f j ≤ highest_of f (suc n)) (sym q) t.1) (λ l. let b = below-highest n i l in let a = t.0 in omega arith)
      (eq-or-lt_of_le (le_of_suc-le-suc h))

-- a block whose highest sample is not above the maximum is passed
pub above_block : (f : ℕ → ℕ) (m n d top : ℕ) → first_above f m n ≡ n → top ≡ highest_of (λ i. f (n + i)) d → top ≤ m → first_above f m (n + d) ≡ n + d
above_block f m n d top e t h = many f m n d e (λ i l. let b = below-highest (λ i. f (n + i)) d i l in omega arith)

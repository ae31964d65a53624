-- A number cut at a limit: cutting on the way to it changes nothing, and no test below the limit sees the cut.
use mathlib.Core.Path.{◌≡◌, refl, sym, ap, ◌∙◌}
use mathlib.Core.Logic.{◌⊎◌, inl, inr, ⊎_elim}
use mathlib.Core.Bool.{Bool, true, false, cond}
use Prim.Native.Nat.{ℕ, ◌+◌, ◌*◌, ◌≤◌, ◌<◌}
use native.Mathlib.Omega.{arith}
use lib.Dec.{ltb}
use borrow.Author.Tests.{ltb-true, ltb-false, lt-ltb, le-ltb}
use Rattle.graymap.specs.Steps.{cut_at, cut}

pub cut_below : (n : ℕ) → n < cut_at → cut n ≡ n
unfolding cut
cut_below n h = ap (λ (b : Bool). cond b n cut_at) (lt-ltb n cut_at h)

pub cut-above : (n : ℕ) → cut_at ≤ n → cut n ≡ cut_at
unfolding cut
cut-above n h = ap (λ (b : Bool). cond b n cut_at) (le-ltb n cut_at h)

pub sides : (n k : ℕ) → (n < k) ⊎ (k ≤ n)
sides n k = by (ltb n k) refl
  where
    by : (b : Bool) → ltb n k ≡ b → (n < k) ⊎ (k ≤ n)
    by true e = inl (ltb-true n k e)
    by false e = inr (ltb-false n k e)

pub cut_most : (n : ℕ) → cut n ≤ cut_at
cut_most n = ⊎_elim (λ h. omega (arith, cut_below n h)) (λ h. omega (arith, cut-above n h)) (sides n cut_at)

pub cut_cut : (n : ℕ) → cut (cut n) ≡ cut n
cut_cut n =
    ⊎_elim (λ h. ap cut (cut_below n h)) (λ h. ap cut (cut-above n h) ∙ cut-above cut_at (omega arith) ∙ sym (cut-above n h)) (sides n cut_at)

pub cut_digit : (v d : ℕ) → cut (10 * cut v + d) ≡ cut (10 * v + d)
cut_digit v d =
    ⊎_elim (λ h. ap (λ (k : ℕ). cut (10 * k + d)) (cut_below v h))
    (λ h. ap (λ (k : ℕ). cut (10 * k + d)) (cut-above v h) ∙ cut-above (10 * cut_at + d) (omega arith) ∙ sym (cut-above (10 * v + d) (omega arith)))
    (sides v cut_at)

-- Whole numbers as differences of two naturals: when two are equal, and their sum.
use mathlib.Core.Path.{◌≡◌, sym, ap, ◌∙◌}
use mathlib.Core.Logic.{⊎_elim}
use mathlib.Core.Bool.{Bool, cond}
use Prim.Native.Nat.{ℕ, suc, ◌+◌, ◌-◌, ◌≤◌, ◌<◌}
use native.Mathlib.Omega.{arith}
use lib.IntN.{ℤ, pos, negsuc, sub_ℕ, ◌+ℤ◌}
use borrow.Author.Tests.{lt-ltb, le-ltb}
use Rattle.response.proofs.PassLaws.{lt-or-le}

pub upward : (a b : ℕ) → b ≤ a → sub_ℕ a b ≡ pos (a - b)
upward a b h = ap (λ (t : Bool). cond t (negsuc (b - suc a)) (pos (a - b))) (le-ltb a b h)

pub downward : (a b : ℕ) → a < b → sub_ℕ a b ≡ negsuc (b - suc a)
downward a b h = ap (λ (t : Bool). cond t (negsuc (b - suc a)) (pos (a - b))) (lt-ltb a b h)

pub sub_same : (a b c d : ℕ) → a + d ≡ c + b → sub_ℕ a b ≡ sub_ℕ c d
sub_same a b c d e =
    ⊎_elim (λ h. downward a b h ∙ ap negsuc (let g : b - suc a ≡ d - suc c = omega arith in g) ∙ sym (downward c d (omega arith)))
    (λ h. upward a b h ∙ ap pos (let g : a - b ≡ c - d = omega arith in g) ∙ sym (upward c d (omega arith))) (lt-or-le a b)

pub sub-add : (a b c d : ℕ) → sub_ℕ a b +ℤ sub_ℕ c d ≡ sub_ℕ (a + c) (b + d)
sub-add a b c d =
    ⊎_elim
    (λ h. ⊎_elim
    (λ k. ap (λ (z : ℤ). z +ℤ sub_ℕ c d) (downward a b h) ∙ ap (λ (z : ℤ). negsuc (b - suc a) +ℤ z) (downward c d k) ∙ ap negsuc (let g : suc ((b - suc a) + (d - suc c)) ≡ (b + d) - suc (a + c) = omega arith in g) ∙ sym (downward (a + c) (b + d) (omega arith)))
    (λ k. ap (λ (z : ℤ). z +ℤ sub_ℕ c d) (downward a b h) ∙ ap (λ (z : ℤ). negsuc (b - suc a) +ℤ z) (upward c d k) ∙ sub_same (c - d) (suc (b - suc a)) (a + c) (b + d) (omega arith))
    (lt-or-le c d))
    (λ h. ⊎_elim
    (λ k. ap (λ (z : ℤ). z +ℤ sub_ℕ c d) (upward a b h) ∙ ap (λ (z : ℤ). pos (a - b) +ℤ z) (downward c d k) ∙ sub_same (a - b) (suc (d - suc c)) (a + c) (b + d) (omega arith))
    (λ k. ap (λ (z : ℤ). z +ℤ sub_ℕ c d) (upward a b h) ∙ ap (λ (z : ℤ). pos (a - b) +ℤ z) (upward c d k) ∙ ap pos (let g : (a - b) + (c - d) ≡ (a + c) - (b + d) = omega arith in g) ∙ sym (upward (a + c) (b + d) (omega arith)))
    (lt-or-le c d)) (lt-or-le a b)

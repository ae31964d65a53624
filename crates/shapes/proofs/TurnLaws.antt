-- Work in turns: one turn more, turns that say the same, and the end of the turns.
use mathlib.Core.Path.{◌≡◌, refl, ap, ◌∙◌}
use Prim.Native.Nat.{ℕ, zero, suc, ◌+◌, ◌≤◌, ◌<◌}
use native.Mathlib.Numerals.{add-one}
use native.Mathlib.Omega.{arith}
use Rattle.shapes.specs.Turns.{turns}

pub turns_more : {A : Type 0} (n : ℕ) (g : ℕ → A → A) (a : A) → turns (n + 1) g a ≡ g n (turns n g a)
unfolding turns
turns_more n g a = ap (λ (k : ℕ). turns k g a) (add-one n)

pub turns-cong : {A : Type 0} (n : ℕ) (g h : ℕ → A → A) (a : A) → ((k : ℕ) → k < n → (x : A) → g k x ≡ h k x) → turns n g a ≡ turns n h a
unfolding turns
turns-cong zero g h a e = refl
turns-cong (suc n) g h a e = e n (omega arith) (turns n g a) ∙ ap (h n) (turns-cong n g h a (λ k l x. e k (omega arith) x))

pub ended : {i n : ℕ} → i ≤ n → n ≤ i → i ≡ n
ended h l = omega arith

-- Work in turns, as a sum in a fixed order.
use Rattle.std.specs.Prelude.{ℕ, zero, suc}

-- g applied at 0, then at 1, .., then at n - 1
unfoldable pub turns : {A : Type 0} → ℕ → (ℕ → A → A) → A → A
turns zero g a = a
turns (suc n) g a = g n (turns n g a)

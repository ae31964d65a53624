-- The tests of the two sizes, by a quotient and what is left of it.
use mathlib.Core.Path.{◌≡◌, refl, sym, ap, ◌∙◌, subst}
use mathlib.Core.Logic.{⊎_elim}
use mathlib.Core.Bool.{Bool, true, false, ◌&&◌}
use Prim.Native.Nat.{ℕ, ◌+◌, ◌*◌, ◌/◌, ◌%◌, ◌≤◌, ◌<◌}
use native.Mathlib.Nat.{add-zero, div-add-mod, div-eq_of_eq-mul_right, mul-mod_right, mul-le-mul, not-le_of_lt}
use native.Mathlib.Omega.{arith}
use lib.Dec.{eqb}
use borrow.Author.Tests.{eqb-true, eqb-false, eq-eqb, ne_eqb}
use Rattle.response.proofs.PassLaws.{lt-or-le}

-- n is c times m where m is the quotient and nothing is left
pub is-product : (n c m : ℕ) → 0 < c → (eqb (n / c) m && eqb (n % c) 0) ≡ eqb n (c * m)
is-product n c m h = go (eqb (n / c) m) (eqb (n % c) 0) refl refl
  where
    go : (a b : Bool) → eqb (n / c) m ≡ a → eqb (n % c) 0 ≡ b → (a && b) ≡ eqb n (c * m)
    go true true p q =
        sym (eq-eqb n (c * m) (sym (div-add-mod n c) ∙ ap (λ (z : ℕ). c * (n / c) + z) (eqb-true (n % c) 0 q) ∙ add-zero (c * (n / c)) ∙ ap (λ (z : ℕ). c * z) (eqb-true (n / c) m p)))
    go true false p q = sym (ne_eqb n (c * m) (λ e. eqb-false (n % c) 0 q (ap (λ (z : ℕ). z % c) e ∙ mul-mod_right c m)))
    go false b p q = sym (ne_eqb n (c * m) (λ e. eqb-false (n / c) m p (div-eq_of_eq-mul_right h e)))

-- a side whose square is the length of a list is below 2^32
pub side-small : (n side : ℕ) → n < 18446744073709551616 → n ≡ side * side → side < 4294967296
side-small n side h e = ⊎_elim (λ l. l) (λ l. absurd (not-le_of_lt h (subst (λ (z : ℕ). 18446744073709551616 ≤ z) (sym e) (mul-le-mul l l)))) (lt-or-le side 4294967296)

-- both numbers of a cell stand in a grid of two a cell
pub doubled : {cell tile grid : ℕ} → cell < tile → grid ≡ 2 * tile → 2 * cell + 1 < grid
doubled h e = omega arith

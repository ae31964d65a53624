-- The digits of a number: those that the kit's io puts are those that std writes.
use mathlib.Core.Path.{◌≡◌, sym, ap, ap₂, ◌∙◌, subst}
use mathlib.Core.Bool.{Bool, cond}
use mathlib.Core.List.{List, [], ◌∷◌, ◌++◌}
use Prim.Native.Nat.{ℕ, zero, suc, ◌+◌, ◌-◌, ◌*◌, ◌/◌, ◌%◌, ◌^◌, ◌≤◌, ◌<◌}
use native.Mathlib.Nat.{not-suc-le-zero, zero-lt-suc, one-le-pow, pow-suc}
use native.Mathlib.Omega.{arith}
use borrow.Author.Tests.{lt-ltb}
use Rattle.std.specs.Fmt.{decimal}
use Rattle.std.proofs.lemmas.Fmt.{decimal_digit, decimal_step}
use Rattle.io.specs.Digits.{hex_digit_ascii, last_digits, IsDigitCount}

digit : (d : ℕ) → d < 10 → hex_digit_ascii d ≡ 48 + d
digit d h = ap (λ (b : Bool). cond b (48 + d) (87 + d)) (lt-ltb d 10 h)

-- the fewest digits are std's
pub fewest : (k n : ℕ) → n < 2 ^ 64 → IsDigitCount 10 1 n k → last_digits 10 k n ≡ decimal n
fewest zero n s e = absurd (not-suc-le-zero e.0)
fewest (suc zero) n s e =
    let small : n < 10 = e.1 in
    ap (λ (m : ℕ). m ∷ []) (digit (n % 10) (omega arith) ∙ (omega arith)) ∙ sym (decimal_digit n small)
fewest (suc (suc k)) n s e =
    let p : 10 ^ suc k ≤ n = subst (λ (j : ℕ). 10 ^ j ≤ n) (less (suc k)) (e.2 (omega arith)) in
    let q : n < 10 ^ suc k * 10 = subst (λ (m : ℕ). n < m) (pow-suc 10 (suc k)) e.1 in
    let few : IsDigitCount 10 1 (n / 10) (suc k) = (omega arith, under (10 ^ suc k) q, λ (_ : 1 < suc k). subst (λ (j : ℕ). 10 ^ j ≤ n / 10) (sym (less k)) (over (10 ^ k) (subst (λ (m : ℕ). m ≤ n) (pow-suc 10 k) p))) in
    ap₂ (λ (l : List ℕ) (d : ℕ). l ++ (d ∷ [])) (fewest (suc k) (n / 10) (omega (arith, s)) few) (digit (n % 10) (omega arith))
    ∙ sym (decimal_step n (ten (10 ^ k) (one-le-pow k 10 (zero-lt-suc 9)) (subst (λ (m : ℕ). m ≤ n) (pow-suc 10 k) p)) s)
  where
    less : (j : ℕ) → suc j - 1 ≡ j
    less j = omega arith

    under : (m : ℕ) → n < m * 10 → n / 10 < m
    under m h = omega arith

    over : (m : ℕ) → m * 10 ≤ n → m ≤ n / 10
    over m h = omega arith

    ten : (m : ℕ) → 0 < m → m * 10 ≤ n → 10 ≤ n
    ten m g h = omega arith

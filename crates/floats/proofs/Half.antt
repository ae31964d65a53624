-- Rounding moves a fraction by at most half a unit, where the unit is the last digit that the format keeps of it.
-- `closest a b` is a / b rounded to a whole number, a tie to the even one; `grid f a c` is a / c rounded, in units of f's smallest value.
use Rattle.std.proofs.Common.{◌≡◌, ℕ, zero, suc, ◌+◌, ◌*◌, ◌/◌, ◌%◌, ◌^◌, ◌<◌, ◌≤◌, Bool, not, T, ◌⊎◌, sym, refl, ap, ◌∙◌, subst, inl, inr, le_of_eq, le_of_suc-le-suc, not-suc-le-zero, lt_irrefl, mod-lt, mul_assoc, suc-mul, mul_comm, mul-pos, div-add-mod', mul_left_comm, arith, eqb→eq, leb→le, pow_pos}
use Prim.Native.Nat.compare
use Prim.Native.Nat.{compare, Ordering}
use lib.Dec.{is_le, compare_is_eq, nleb→lt}
use lib.Ieee.{Float, Format, prec, low, round, nearest}
use lib.Arith.{lt_of_le-ne}
use lib.Ieee.Fits.{round_is, eq→eqb}
use lib.Ieee.Nearest.{closest}
use lib.Ieee.Order.{drop, kept}
use lib.Ieee.Exact.{HasValue, units_val}
use lib.Ieee.Scale.{grid, overflow}

-- n is within half of b of a
pub record Near (n a b : ℕ) : Type 0 where
  pub under : 2 * n ≤ 2 * a + b
  pub over : 2 * a ≤ 2 * n + b

-- what a comparison's answer says
pub compared-le : (x y : ℕ) → compare x y ≡ Ordering.lt → x ≤ y
compared-le x y e = leb→le x y (subst (λ (o : Ordering). T (is_le o)) (sym e) tt)

pub compared-lt : (x y : ℕ) → compare x y ≡ Ordering.lt → x < y
compared-lt x y e = lt_of_le-ne (compared-le x y e) (λ (h : x ≡ y). subst (λ (o : Ordering). T (compare_is_eq o)) e (eq→eqb h))

pub compared-eq : (x y : ℕ) → compare x y ≡ Ordering.eq → x ≡ y
compared-eq x y e = eqb→eq x y (subst (λ (o : Ordering). T (compare_is_eq o)) (sym e) tt)

pub compared-gt : (x y : ℕ) → compare x y ≡ Ordering.gt → y < x
compared-gt x y e = nleb→lt x y (subst (λ (o : Ordering). T (not (is_le o))) (sym e) tt)

-- and what it is
pub compare-lt : (x y : ℕ) → x < y → compare x y ≡ Ordering.lt
compare-lt zero zero h = absurd (lt_irrefl 0 h)
compare-lt zero (suc y) h = compare.zero-suc y
compare-lt (suc x) zero h = absurd (not-suc-le-zero h)
compare-lt (suc x) (suc y) h = compare.suc-suc x y ∙ compare-lt x y (le_of_suc-le-suc h)

pub compare-gt : (x y : ℕ) → y < x → compare x y ≡ Ordering.gt
compare-gt zero zero h = absurd (lt_irrefl 0 h)
compare-gt zero (suc y) h = absurd (not-suc-le-zero h)
compare-gt (suc x) zero h = compare.suc-zero x
compare-gt (suc x) (suc y) h = compare.suc-suc x y ∙ compare-gt x y (le_of_suc-le-suc h)

below_half : (p r b : ℕ) → r * 2 ≤ b → Near p (p + r) b
below_half p r b h = record { under = omega arith; over = omega arith }

above_half : (p r b : ℕ) → b ≤ r * 2 → r < b → Near (b + p) (p + r) b
above_half p r b h k = record { under = omega arith; over = omega arith }

tie : (q b r p : ℕ) → q * b ≡ p → r * 2 ≡ b → r < b → (q % 2 ≡ 0) ⊎ (q % 2 ≡ 1) → Near ((q + q % 2) * b) (p + r) b
tie q b r p e h k (inl z) = subst (λ (x : ℕ). Near x (p + r) b) (sym (ap (λ (x : ℕ). (q + x) * b) z ∙ ap (λ (x : ℕ). x * b) (native.Mathlib.Nat.add-zero q) ∙ e)) (below_half p r b (le_of_eq h))
tie q b r p e h k (inr z) =
    subst (λ (x : ℕ). Near x (p + r) b) (sym (ap (λ (x : ℕ). (q + x) * b) z ∙ ap (λ (x : ℕ). x * b) (native.Mathlib.Numerals.add-one q) ∙ suc-mul q b ∙ native.Mathlib.Nat.add_comm (q * b) b ∙ ap (λ (x : ℕ). b + x) e))
    (above_half p r b (le_of_eq (sym h)) k)

pub parity : (q : ℕ) → (q % 2 ≡ 0) ⊎ (q % 2 ≡ 1)
parity q = go (q % 2) (mod-lt q (pow_pos 1))
  where
    go : (r : ℕ) → r < 2 → (r ≡ 0) ⊎ (r ≡ 1)
    go zero h = inl refl
    go (suc zero) h = inr refl
    go (suc (suc r)) h = absurd (omega arith)

nearest-near : (q b r p : ℕ) → q * b ≡ p → r < b → (o : Ordering) → compare (r * 2) b ≡ o → Near (nearest q o * b) (p + r) b
nearest-near q b r p e h Ordering.lt c = subst (λ (x : ℕ). Near x (p + r) b) (sym e) (below_half p r b (compared-le (r * 2) b c))
nearest-near q b r p e h Ordering.eq c = tie q b r p e (compared-eq (r * 2) b c) h (parity q)
nearest-near q b r p e h Ordering.gt c =
    subst (λ (x : ℕ). Near x (p + r) b) (sym (suc-mul q b ∙ native.Mathlib.Nat.add_comm (q * b) b ∙ ap (λ (x : ℕ). b + x) e)) (above_half p r b (native.Mathlib.Nat.le_of_lt (compared-gt (r * 2) b c)) h)

pub closest-near : (a b : ℕ) → 0 < b → Near (closest a b * b) a b
closest-near a b B = subst (λ (x : ℕ). Near (closest a b * b) x b) (div-add-mod' a b) (nearest-near (a / b) b (a % b) (a / b * b) refl (mod-lt a B) (compare (a % b * 2) b) refl)

-- a / c rounded, against a / c: in units of f's smallest value, times c. The unit kept is 2 ^ drop of those
pub grid-near : (f : Format) (a c : ℕ) → 0 < c → Near (grid f a c * c) (a * 2 ^ low f) (c * 2 ^ drop (prec f) (a * 2 ^ low f) c)
grid-near f a c C =
    subst (λ (x : ℕ). Near x (a * 2 ^ low f) (c * 2 ^ drop (prec f) (a * 2 ^ low f) c)) (spread (kept (prec f) (a * 2 ^ low f) c) c (2 ^ drop (prec f) (a * 2 ^ low f) c))
    (closest-near (a * 2 ^ low f) (c * 2 ^ drop (prec f) (a * 2 ^ low f) c) (mul-pos C (pow_pos (drop (prec f) (a * 2 ^ low f) c))))
  where
    spread : (q c u : ℕ) → q * (c * u) ≡ q * u * c
    spread q c u = simp (mul_assoc, mul_comm, mul_left_comm)

-- and that is the size of the rounded value, with either sign
pub round_val : (f : Format) (s : Bool) (a c : ℕ) → grid f a c < overflow f → HasValue (round f s a c) s (grid f a c) (2 ^ low f)
round_val f s a c h =
    subst (λ (z : Float). HasValue z s (grid f a c) (2 ^ low f)) (sym (round_is f s a c)) (units_val f s (kept (prec f) (a * 2 ^ low f) c) (drop (prec f) (a * 2 ^ low f) c) h)

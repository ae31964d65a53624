-- One value, one writing: a value that the format holds is decided by its sign and its size, whatever fraction the size is given as.
-- `HasValue x s a c` (lib.Ieee.Exact) says that x is finite with the sign s and the size a / c.
-- So rounding a fraction whose size some value of the format has gives that value (`round-of-value`): every claim of exactness goes by it.
use Rattle.std.proofs.Common.{◌≡◌, ℕ, zero, suc, ◌+◌, ◌-◌, ◌*◌, ◌/◌, ◌%◌, ◌^◌, ◌<◌, ◌≤◌, Bool, cond, ◌&&◌, T, eqb, ltb, leb, ℤ, pos, negsuc, sym, refl, ap, ◌∙◌, subst, le_of_suc-le-suc, mul_assoc, mul_comm, lt_of_mul-lt-mul_right, mul-lt-mul_of_pos_right, lt_of_not-le, zero-mul, not-le_of_lt, mul_left_comm, ltb→lt, leb→le, pow_pos, pow-add}
use native.Mathlib.Nat.{eq_of_mul-eq-mul_right}
use lib.Pow.{pow-lt}
use lib.Ieee.{Float, nan, inf, fin, Format, prec, emax, low, up, down, size, round, fits, to_bits, of_bits, hid, top}
use lib.Ieee.Digits.{back}
use lib.Ieee.Bits.{of_bits-to_bits}
use lib.Ieee.Fits.{round-fits, down_pos, and_l, and_r}
use lib.Ieee.Nearest.{div_same}
use lib.Ieee.Exact.{HasValue, round_exact}

-- a value's size is the fraction that it is written as
pub own_value : (s : Bool) (m : ℕ) (e : ℤ) → HasValue (fin s m e) s (m * up e) (down e)
own_value s m e = (refl, refl)

-- the pattern of a value of n of the format's smallest units
abbrev pub bits_of : Format → Bool → ℕ → ℕ
bits_of f s n = cond s (top f) 0 + (size n - prec f) * hid f + n / 2 ^ (size n - prec f)

times : (x a c d l : ℕ) → x * c ≡ a * d → x * l * c ≡ a * l * d
times x a c d l h = simp (mul_assoc, mul_comm, mul_left_comm) (simp (mul_assoc, mul_comm, mul_left_comm) at (ap (λ (z : ℕ). z * l) h))

pub bits_of_value : (f : Format) (x : Float) (s : Bool) (a c : ℕ) → 0 < c → HasValue x s a c → to_bits f x ≡ bits_of f s (a * 2 ^ low f / c)
unfolding to_bits
bits_of_value f nan s a c C h = absurd h
bits_of_value f (inf t) s a c C h = absurd h
bits_of_value f (fin t m e) s a c C h =
    ap (λ (b : Bool). bits_of f b (m * up e * 2 ^ low f / down e)) h.0
    ∙ ap (λ (n : ℕ). bits_of f s n) (div_same (m * up e * 2 ^ low f) (down e) (a * 2 ^ low f) c (down_pos e) C (times (m * up e) a c (down e) (2 ^ low f) h.1))

pub value-unique : (f : Format) (x y : Float) (s : Bool) (a c : ℕ) → 0 < c → T (fits f x) → T (fits f y) → HasValue x s a c → HasValue y s a c → x ≡ y
value-unique f x y s a c C p q h k =
    sym (of_bits-to_bits f x p)
    ∙ ap (λ (n : ℕ). of_bits f n) (bits_of_value f x s a c C h ∙ sym (bits_of_value f y s a c C k))
    ∙ of_bits-to_bits f y q

-- ---- a value that fits, in the format's smallest units: m * 2 ^ j of them
pow-le-inv : (i j : ℕ) → 2 ^ i ≤ 2 ^ j → i ≤ j
pow-le-inv i j h = le_of_suc-le-suc (lt_of_not-le (λ (g : suc j ≤ i). not-le_of_lt (pow-lt g) h))

pub unit : (e : ℤ) (l : ℕ) → down e ≤ 2 ^ l → (j : ℕ) × (up e * 2 ^ l ≡ 2 ^ j * down e)
unit (pos k) l h = (k + l, sym (pow-add 2 k l) ∙ simp native.Mathlib.Nat.mul-one)
unit (negsuc k) l h = (l - suc k, native.Mathlib.Nat.one-mul (2 ^ l) ∙ ap (λ (z : ℕ). 2 ^ z) (sym (back l (suc k) (pow-le-inv (suc k) l h))) ∙ pow-add 2 (l - suc k) (suc k))

-- what `fits` says of a value that is no zero
pub record Fitting (f : Format) (m : ℕ) (e : ℤ) : Type 0 where
  pub short : m < 2 ^ prec f
  pub fine : down e ≤ 2 ^ low f
  pub small : m * up e < 2 ^ suc (emax f) * down e

pub fitting : (f : Format) (s : Bool) (m : ℕ) (e : ℤ) → T (fits f (fin s (suc m) e)) → Fitting f (suc m) e
unfolding fits
fitting f s m e h =
    let A = eqb (suc m % 2) 1 in
    let B = ltb (suc m) (2 ^ prec f) in
    let C = leb (down e) (2 ^ low f) in
    let D = ltb (suc m * up e) (2 ^ suc (emax f) * down e) in
    record {
      short = ltb→lt (suc m) (2 ^ prec f) (and_r A B (and_l (A && B) C (and_l (A && B && C) D h)));
      fine = leb→le (down e) (2 ^ low f) (and_r (A && B) C (and_l (A && B && C) D h));
      small = ltb→lt (suc m * up e) (2 ^ suc (emax f) * down e) (and_r (A && B && C) D h);
    }

-- x * p ≡ q * y with the factors of the unit put in
pub fine_of : (m u d j l k : ℕ) → u * l ≡ j * d → m * u < k * d → 0 < l → 0 < d → m * j < l * k
fine_of m u d j l k e h L D =
    lt_of_mul-lt-mul_right d
    (subst (λ (z : ℕ). z < l * k * d) (simp (mul_assoc, mul_comm, mul_left_comm) (simp (mul_assoc, mul_comm, mul_left_comm) at (ap (λ (z : ℕ). m * z) e)))
    (subst (λ (z : ℕ). m * u * l < z) (simp (mul_assoc, mul_comm, mul_left_comm)) (mul-lt-mul_of_pos_right h L)))

whole_of : (m u d j l a c : ℕ) → u * l ≡ j * d → m * u * c ≡ a * d → 0 < d → a * l ≡ m * j * c
whole_of m u d j l a c e h D =
    let p : a * l * d ≡ m * u * c * l = simp (mul_assoc, mul_comm, mul_left_comm) (simp (mul_assoc, mul_comm, mul_left_comm) at (ap (λ (z : ℕ). z * l) (sym h))) in
    let q : m * u * c * l ≡ m * j * c * d = simp (mul_assoc, mul_comm, mul_left_comm) (simp (mul_assoc, mul_comm, mul_left_comm) at (ap (λ (z : ℕ). m * c * z) e)) in
    eq_of_mul-eq-mul_right d D (a * l) (m * j * c) (p ∙ q)

pub zero_of : (a d c : ℕ) → 0 < d → 0 * c ≡ a * d → a ≡ 0
zero_of a d c D h = eq_of_mul-eq-mul_right d D a 0 (sym h ∙ zero-mul c ∙ sym (zero-mul d))

pub round-of-value : (f : Format) (s : Bool) (a c : ℕ) (x : Float) → 0 < c → T (fits f x) → HasValue x s a c → round f s a c ≡ x
round-of-value f s a c nan C p h = absurd h
round-of-value f s a c (inf t) C p h = absurd h
round-of-value f s a c (fin t zero e) C p h =
    value-unique f (round f s a c) (fin t zero e) s a c C (round-fits f s a c) p
    (round_exact f s a c 0 0 C (pow_pos (prec f)) (pow_pos (low f + suc (emax f))) (ap (λ (z : ℕ). z * 2 ^ low f) (zero_of a (down e) (up e * c) (down_pos e) (simp mul_assoc at h.1)) ∙ zero-mul (2 ^ low f) ∙ sym (zero-mul c)))
    h
round-of-value f s a c (fin t (suc m) e) C p h =
    let g = fitting f t m e p in
    let u = unit e (low f) g.fine in
    value-unique f (round f s a c) (fin t (suc m) e) s a c C (round-fits f s a c) p
    (round_exact f s a c (suc m) u.0 C g.short
    (subst (λ (z : ℕ). suc m * 2 ^ u.0 < z) (sym (pow-add 2 (low f) (suc (emax f)))) (fine_of (suc m) (up e) (down e) (2 ^ u.0) (2 ^ low f) (2 ^ suc (emax f)) u.1 g.small (pow_pos (low f)) (down_pos e)))
    (whole_of (suc m) (up e) (down e) (2 ^ u.0) (2 ^ low f) a c u.1 h.1 (down_pos e)))
    h

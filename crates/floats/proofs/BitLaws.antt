-- Bit patterns: the value behind a pattern with no sign as a fraction, the sign, and which patterns are a NaN's.
use Rattle.std.proofs.Common.{◌≡◌, ℕ, zero, suc, ◌+◌, ◌*◌, ◌/◌, ◌%◌, ◌^◌, ◌<◌, ◌≤◌, Bool, false, cond, not, T, eqb, leb, sym, refl, ap, ◌∙◌, subst, true≢false, lt_of_lt_of_le, le-add_right, mul_comm, mul-one, lit≤, le→leb, eqb→eq, nltb→le}
use lib.Dec.{not_T}
use lib.Arith.{digits_div, digits_mod, digits_lt, lt→nleb, le→nltb}
use lib.Ieee.{Float, nan, inf, fin, Format, binary32, binary64, prec, low, hid, ones, top, odd, of_bits, to_bits, of_fields, neg, ne, is_nan, nan_bits, fits}
use lib.Ieee.Bits.{is_false, is_true, cond_no, of_bits-to_bits, nan_bits_is, nan_bits_above}
use lib.Ieee.Exact.{HasValue, odd_sign}
use Rattle.floats.proofs.Fractions.{neg-odd, neg-cond}

-- ---- the value behind a pattern with no sign
fields-of : (f : Format) (b : ℕ) → b < top f → of_bits f b ≡ of_fields f false (b / hid f) (b % hid f)
unfolding of_bits
fields-of f b h =
    ap (λ (s : Bool). of_fields f s (b % top f / hid f) (b % hid f)) (is_false (leb (top f) b) (lt→nleb (top f) b h))
    ∙ ap (λ (z : ℕ). of_fields f false (z / hid f) (b % hid f)) (native.Mathlib.Nat.mod-eq_of_lt h)

hid-top : (f : Format) → hid f ≤ top f
hid-top binary32 = lit≤ tt
hid-top binary64 = lit≤ tt

under_top : (f : Format) (x t : ℕ) → x < ones f → t < hid f → x * hid f + t < top f
under_top f x t h g = subst (λ (z : ℕ). x * hid f + t < z) (mul_comm (suc (ones f)) (hid f)) (digits_lt (lt_of_lt_of_le h (native.Mathlib.Nat.le-suc (ones f))) g)

low-fields : (f : Format) (t : ℕ) → of_fields f false 0 t ≡ odd (prec f) false t 0 (low f)
unfolding of_fields
low-fields f t = refl

high-fields : (f : Format) (x t : ℕ) → suc x < ones f → of_fields f false (suc x) t ≡ odd (prec f) false (hid f + t) x (low f)
unfolding of_fields
high-fields f x t h = cond_no (eqb (suc x) (ones f)) (cond (eqb t 0) (inf false) nan) (odd (prec f) false (hid f + t) x (low f)) (not_T (eqb (suc x) (ones f)) (λ (e : T (eqb (suc x) (ones f))). native.Mathlib.Nat.lt_irrefl (ones f) (subst (λ (z : ℕ). z < ones f) (eqb→eq (suc x) (ones f) e) h)))

pub subnormal-value : (f : Format) (b : ℕ) → b < hid f → HasValue (of_bits f b) false b (2 ^ low f)
subnormal-value f b h =
    subst (λ (z : Float). HasValue z false b (2 ^ low f))
    (sym (fields-of f b (lt_of_lt_of_le h (hid-top f)) ∙ ap (λ (z : ℕ). of_fields f false z (b % hid f)) (native.Mathlib.Nat.div-eq_of_lt h) ∙ ap (λ (z : ℕ). of_fields f false 0 z) (native.Mathlib.Nat.mod-eq_of_lt h) ∙ low-fields f b))
    (subst (λ (z : ℕ). HasValue (odd (prec f) false b 0 (low f)) false z (2 ^ low f)) (mul-one b) (odd_sign (prec f) false b 0 (low f)))

pub normal-value : (f : Format) (b x t : ℕ) → b ≡ suc x * hid f + t → t < hid f → suc x < ones f → HasValue (of_bits f b) false ((t + hid f) * 2 ^ x) (2 ^ low f)
normal-value f b x t e h g =
    subst (λ (z : Float). HasValue z false ((t + hid f) * 2 ^ x) (2 ^ low f))
    (sym (fields-of f b (subst (λ (z : ℕ). z < top f) (sym e) (under_top f (suc x) t g h))
    ∙ ap (λ (z : ℕ). of_fields f false z (b % hid f)) (ap (λ (z : ℕ). z / hid f) e ∙ digits_div (suc x) h)
    ∙ ap (λ (z : ℕ). of_fields f false (suc x) z) (ap (λ (z : ℕ). z % hid f) e ∙ digits_mod (suc x) h)
    ∙ high-fields f x t g))
    (subst (λ (z : ℕ). HasValue (odd (prec f) false (hid f + t) x (low f)) false (z * 2 ^ x) (2 ^ low f)) (native.Mathlib.Nat.add_comm (hid f) t) (odd_sign (prec f) false (hid f + t) x (low f)))

-- ---- NaN and the sign of a pattern
pub number : (x : Float) → ne x x ≡ false → T (not (is_nan x))
unfolding ne is_nan
number nan h = absurd (true≢false h)
number (inf s) h = tt
number (fin s m e) h = tt

-- the pattern of a number, less its sign, is at most that of infinity
pub number-bits : (f : Format) (x : Float) → T (fits f x) → T (not (is_nan x)) → to_bits f x % top f ≤ ones f * hid f
number-bits f x p h =
    nltb→le (ones f * hid f) (to_bits f x % top f)
    (subst (λ (b : Bool). T (not b)) (sym (ap is_nan (of_bits-to_bits f x p)) ∙ sym (nan_bits_is f (to_bits f x)) ∙ nan_bits_above f (to_bits f x)) h)

pub not-nan-bits : (f : Format) (n : ℕ) → n % top f ≤ ones f * hid f → T (not (nan_bits f n))
not-nan-bits f n h = subst (λ (b : Bool). T (not b)) (sym (nan_bits_above f n)) (le→nltb (ones f * hid f) (n % top f) h)

neg-fields : (f : Format) (s : Bool) (x t : ℕ) → neg (of_fields f s x t) ≡ of_fields f (not s) x t
unfolding of_fields neg
neg-fields f s zero t = neg-odd (prec f) s t 0 (low f)
neg-fields f s (suc x) t =
    neg-cond (eqb (suc x) (ones f)) (cond (eqb t 0) (inf s) nan) (odd (prec f) s (hid f + t) x (low f))
    ∙ ap (λ (z : Float). cond (eqb (suc x) (ones f)) z (neg (odd (prec f) s (hid f + t) x (low f)))) (neg-cond (eqb t 0) (inf s) nan)
    ∙ ap (λ (z : Float). cond (eqb (suc x) (ones f)) (cond (eqb t 0) (inf (not s)) nan) z) (neg-odd (prec f) s (hid f + t) x (low f))

-- a pattern with the sign set is the one without it, negated
pub sign-bits : (f : Format) (b : ℕ) → b < top f → neg (of_bits f b) ≡ of_bits f (top f + b)
unfolding of_bits
sign-bits f b h =
    neg-fields f (leb (top f) b) (b % top f / hid f) (b % hid f)
    ∙ ap (λ (s : Bool). of_fields f (not s) (b % top f / hid f) (b % hid f)) (is_false (leb (top f) b) (lt→nleb (top f) b h))
    ∙ ap (λ (s : Bool). of_fields f s (b % top f / hid f) (b % hid f)) (sym (is_true (leb (top f) (top f + b)) (le→leb (top f) (top f + b) (le-add_right (top f) b))))
    ∙ ap (λ (z : ℕ). of_fields f (leb (top f) (top f + b)) (z / hid f) (b % hid f)) (sym (native.Mathlib.Nat.add-mod_left (top f) b))
    ∙ ap (λ (z : ℕ). of_fields f (leb (top f) (top f + b)) ((top f + b) % top f / hid f) z) (sym (ap (λ (z : ℕ). z % hid f) (native.Mathlib.Nat.add_comm (top f) b) ∙ native.Mathlib.Nat.add-mul-mod_self_left b (hid f) (suc (ones f))))

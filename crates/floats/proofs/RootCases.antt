-- `sqrt` by the tests that the code makes, over the format: 0 < x < infinity, 0 < x, x == 0, and none of these. And the patterns of the values in the first case.
use Rattle.std.proofs.Common.{◌≡◌, ℕ, zero, suc, ◌+◌, ◌-◌, ◌*◌, ◌/◌, ◌^◌, ◌<◌, ◌≤◌, Bool, true, false, not, ◌&&◌, ◌||◌, T, eqb, ℤ, pos, sym, refl, ap, ◌∙◌, subst, inl, inr, true≢false, zero-le, le_of_eq, lt_of_le_of_lt, mul-le-mul_right, zero-lt-suc, mul_comm, div-lt_iff_lt-mul, add-mul, eq-zero-or-pos, mul-lt-mul_of_pos_right, mul-pos, zero-mul, mul-one, mul_right_comm, not-le_of_lt, arith, lt→ltb, pow_pos, pow-add, ltb-false, ltb-true, eqb-true}
use mathlib.Core.Bool.{beq, and-eq-true_iff}
use lib.Ieee.{Float, nan, inf, fin, Format, binary32, binary64, prec, emax, low, up, down, size, lt, eq, fits, is_nan, to_bits, of_bits, hid, ones}
use lib.Ieee.Bits.{of_bits-to_bits}
use lib.Ieee.Digits.{size-le}
use lib.Ieee.Fits.{up_pos, kept-lt}
use lib.Ieee.Positive.{num, den, den_pos, positive, own_value, first_pos}
use lib.Ieee.Scale.{overflow}
use Rattle.floats.specs.Root.{sqrt}
use Rattle.floats.proofs.Value.{bits_of_value}
use Rattle.floats.proofs.Pattern.{two-hid}
use Rattle.floats.proofs.NearestRoots.{below_top}

abbrev pub +0 : Float
+0 = fin false 0 (pos 0)

no : {X : Type 0} → false ≡ true → X
no e = absurd (true≢false (sym e))

-- the size of a number that is no zero, as the tests compare it with 0's
some : (m : ℕ) (e : ℤ) → 0 * down e < suc m * up e * 1
some m e = subst (λ (z : ℕ). z < suc m * up e * 1) (sym (zero-mul (down e))) (mul-pos (mul-pos (zero-lt-suc m) (up_pos e)) (zero-lt-suc 0))

none : (s : Bool) (a b : ℕ) → a ≡ 0 → b ≡ 0 → (eqb a b && (beq s false || eqb a 0)) ≡ true
none s a b p q = ap (λ (z : ℕ). eqb z b && (beq s false || eqb z 0)) p ∙ ap (λ (z : ℕ). eqb 0 z && (beq s false || true)) q ∙ either s
  where
    either : (t : Bool) → (beq t false || true) ≡ true
    either true = refl
    either false = refl

-- 0 < x < infinity
pub is_positive : (x : Float) → lt +0 x ≡ true → lt x (inf false) ≡ true → T (positive x)
unfolding lt
is_positive nan h k = no h
is_positive (inf true) h k = no h
is_positive (inf false) h k = no k
is_positive (fin true m e) h k = no h
is_positive (fin false m e) h k = lt→ltb 0 m (first_pos m (up e) (first_pos (m * up e) 1 (lt_of_le_of_lt zero-le (ltb-true (0 * down e) (m * up e * 1) h))))

pub not-nan : (x : Float) → T (positive x) → T (not (is_nan x))
unfolding is_nan
not-nan nan p = absurd p
not-nan (inf s) p = absurd p
not-nan (fin s m e) p = tt

-- 0 < x, and not x < infinity
pub sqrt-inf : (f : Format) (x : Float) → lt +0 x ≡ true → lt x (inf false) ≡ false → x ≡ sqrt f x
unfolding lt sqrt
sqrt-inf f nan h k = no h
sqrt-inf f (inf true) h k = no h
sqrt-inf f (inf false) h k = refl
sqrt-inf f (fin s m e) h k = no (sym k)

-- x == 0
pub sqrt-zero : (f : Format) (x : Float) → eq x +0 ≡ true → x ≡ sqrt f x
unfolding eq sqrt
sqrt-zero f nan h = no h
sqrt-zero f (inf s) h = no h
sqrt-zero f (fin s zero e) h = refl
sqrt-zero f (fin s (suc m) e) h = absurd (not-le_of_lt (some m e) (le_of_eq (eqb-true (suc m * up e * 1) (0 * down e) ((and-eq-true_iff (eqb (suc m * up e * 1) (0 * down e)) (beq s false || eqb (suc m * up e * 1) 0)).0 h).0)))

-- not 0 < x, and not x == 0
pub sqrt-none : (f : Format) (x : Float) → lt +0 x ≡ false → eq x +0 ≡ false → nan ≡ sqrt f x
unfolding lt eq sqrt
sqrt-none f nan h k = refl
sqrt-none f (inf true) h k = refl
sqrt-none f (inf false) h k = no (sym h)
sqrt-none f (fin s zero e) h k = no (sym k ∙ none s (0 * up e * 1) (0 * down e) (mul-one (0 * up e) ∙ zero-mul (up e)) (zero-mul (down e)))
sqrt-none f (fin true (suc m) e) h k = refl
sqrt-none f (fin false (suc m) e) h k = absurd (not-le_of_lt (some m e) (ltb-false (0 * down e) (suc m * up e * 1) h))

-- ---- the patterns of the values that are finite and above zero: above 0's and below infinity's
no_zero : (f : Format) → T (positive (of_bits f 0)) → ⊥
unfolding of_bits
no_zero binary32 p = p
no_zero binary64 p = p

pub above_zero : (f : Format) (x : Float) → T (fits f x) → T (positive x) → 0 < to_bits f x
above_zero f x h p = elim (eq-zero-or-pos (to_bits f x)) [
  | inl z ↦ absurd (no_zero f (subst (λ (y : Float). T (positive y)) (sym (of_bits-to_bits f x h) ∙ ap (λ (b : ℕ). of_bits f b) z) p))
  | inr l ↦ l
]

top_field : (f : Format) → low f + suc (emax f) - prec f + 2 ≡ ones f
top_field binary32 = refl
top_field binary64 = refl

pub below_inf : (f : Format) (x : Float) → T (fits f x) → T (positive x) → to_bits f x < ones f * hid f
below_inf f x h p =
    let n = num x * 2 ^ low f / den x in
    let units : num x * 2 ^ low f < overflow f * den x =
    subst (λ (z : ℕ). num x * 2 ^ low f < z) (mul_right_comm (2 ^ suc (emax f)) (den x) (2 ^ low f) ∙ ap (λ (z : ℕ). z * den x) (mul_comm (2 ^ suc (emax f)) (2 ^ low f) ∙ sym (pow-add 2 (low f) (suc (emax f)))))
    (mul-lt-mul_of_pos_right (below_top f x h p) (pow_pos (low f))) in
    subst (λ (z : ℕ). z < ones f * hid f) (sym (bits_of_value f x false (num x) (den x) (den_pos x) (own_value x p)))
    (fields (size n - prec f) (n / 2 ^ (size n - prec f)) (hid f) (ones f) (2 ^ prec f) (kept-lt (prec f) n) (two-hid f)
    (few (size n) (low f + suc (emax f)) (prec f) (ones f) (size-le n (low f + suc (emax f)) ((div-lt_iff_lt-mul (den_pos x)).1 units)) (top_field f)))
  where
    few : (s z p o : ℕ) → s ≤ z → z - p + 2 ≡ o → s - p + 2 ≤ o
    few s z p o h e = omega arith

    fields : (k t H o P : ℕ) → t < P → P ≡ H * 2 → k + 2 ≤ o → 0 + k * H + t < o * H
    fields k t H o P h e g =
        let l : k * H + 2 * H ≤ o * H = subst (λ (z : ℕ). z ≤ o * H) (add-mul k 2 H) (mul-le-mul_right H g) in
        omega arith

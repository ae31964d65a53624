-- What `floor` and `round` rest on: a value of at least 2 ^ (prec - 1) is whole, a whole value comes back as it is, and the sign goes through.
use Rattle.std.proofs.Common.{◌≡◌, ℕ, zero, suc, ◌+◌, ◌-◌, ◌*◌, ◌/◌, ◌^◌, ◌<◌, ◌≤◌, Bool, true, false, cond, not, ◌&&◌, T, ltb, ℤ, pos, negsuc, sym, refl, ap, ◌∙◌, subst, true≢false, le_trans, mul_assoc, mul-pos, one-mul, zero-mul, mul-one, not-le_of_lt, div-one, arith, ltb→lt, nltb→le, pow_pos}
use Prim.Native.Nat.{compare}
use native.Mathlib.Nat.{min-eq_left, add-mul-div_right, div-div-eq-div-mul}
use lib.Arith.{digits_div}
use lib.Ieee.{Float, nan, inf, fin, Format, prec, emax, low, hid, up, down, round, sum, neg, add, lt, fits, of_int, in_float, to_unsigned, below}
use lib.Ieee.Bits.{is_false}
use lib.Ieee.Fits.{down_pos}
use Rattle.floats.specs.Whole.{floor, round_away, ceiling, half_up}
use Rattle.floats.proofs.Value.{round-of-value, fitting}
use Rattle.floats.proofs.Fractions.{neg-round}
use Rattle.floats.proofs.Pattern.{two-hid}

-- a function that leaves NaN, infinities and whole values as they are
pub record Keeps (f : Format) (g : Float → Float) : Type 0 where
  pub at-nan : g nan ≡ nan
  pub at-inf : (s : Bool) → g (inf s) ≡ inf s
  pub at_zero : (s : Bool) (e : ℤ) → T (fits f (fin s zero e)) → g (fin s zero e) ≡ fin s zero e
  pub at-whole : (s : Bool) (m k : ℕ) → T (fits f (fin s m (pos k))) → g (fin s m (pos k)) ≡ fin s m (pos k)

whole-value : (f : Format) (s : Bool) (m k : ℕ) → T (fits f (fin s m (pos k))) → round f s (m * 2 ^ k) 1 ≡ fin s m (pos k)
whole-value f s m k p = round-of-value f s (m * 2 ^ k) 1 (fin s m (pos k)) (pow_pos 0) p (refl, refl)

zero-value : (f : Format) (s : Bool) (e : ℤ) (n : ℕ) → n ≡ 0 → T (fits f (fin s zero e)) → round f s n 1 ≡ fin s zero e
zero-value f s e n z p =
    ap (λ (x : ℕ). round f s x 1) z
    ∙ round-of-value f s 0 1 (fin s zero e) (pow_pos 0) p (refl, mul-one (zero * up e) ∙ zero-mul (up e) ∙ sym (zero-mul (down e)))

none : (u c : ℕ) → 0 < c → zero * u / c ≡ 0
none u c C = ap (λ (z : ℕ). z / c) (zero-mul u) ∙ native.Mathlib.Nat.zero-div c

ceiling-none : (u c : ℕ) → 0 < c → ceiling (zero * u) c ≡ 0
ceiling-none u c C = ap (λ (z : ℕ). (z + (c - 1)) / c) (zero-mul u) ∙ ap (λ (z : ℕ). z / c) (native.Mathlib.Nat.zero-add (c - 1)) ∙ native.Mathlib.Nat.div-eq_of_lt (omega arith)

half-up-none : (u c : ℕ) → 0 < c → half_up (zero * u) c ≡ 0
half-up-none u c C = ap (λ (z : ℕ). (2 * z + c) / (2 * c)) (zero-mul u) ∙ native.Mathlib.Nat.div-eq_of_lt (omega arith)

cond-zero : (s : Bool) (a b : ℕ) → a ≡ 0 → b ≡ 0 → cond s a b ≡ 0
cond-zero true a b p q = p
cond-zero false a b p q = q

ceiling-one : (a : ℕ) → ceiling a 1 ≡ a
ceiling-one a = div-one (a + 0) ∙ native.Mathlib.Nat.add-zero a

half-up-one : (a : ℕ) → half_up a 1 ≡ a
half-up-one a = omega arith

cond_same : (s : Bool) (a b : ℕ) → a ≡ b → cond s a b ≡ b
cond_same true a b e = e
cond_same false a b e = refl

pub floor-keeps : (f : Format) → Keeps f (floor f)
unfolding floor
floor-keeps f = record {
  at-nan = refl;
  at-inf = λ s. refl;
  at_zero = λ s e p. zero-value f s e (cond s (ceiling (zero * up e) (down e)) (zero * up e / down e)) (cond-zero s (ceiling (zero * up e) (down e)) (zero * up e / down e) (ceiling-none (up e) (down e) (down_pos e)) (none (up e) (down e) (down_pos e))) p;
  at-whole = λ s m k p. ap (λ (z : ℕ). round f s z 1) (cond_same s (ceiling (m * 2 ^ k) 1) (m * 2 ^ k / 1) (ceiling-one (m * 2 ^ k) ∙ sym (div-one (m * 2 ^ k))) ∙ div-one (m * 2 ^ k)) ∙ whole-value f s m k p;
}

pub round_keeps : (f : Format) → Keeps f (round_away f)
unfolding round_away
round_keeps f = record {
  at-nan = refl;
  at-inf = λ s. refl;
  at_zero = λ s e p. zero-value f s e (half_up (zero * up e) (down e)) (half-up-none (up e) (down e) (down_pos e)) p;
  at-whole = λ s m k p. ap (λ (z : ℕ). round f s z 1) (half-up-one (m * 2 ^ k)) ∙ whole-value f s m k p;
}

-- ---- a value of at least hid has no fraction
no_fraction : (f : Format) (s : Bool) (m : ℕ) (e : ℤ) → T (fits f (fin s m e)) → hid f * down e ≤ m * up e → (k : ℕ) × (e ≡ pos k)
no_fraction f s m (pos k) p h = (k, refl)
no_fraction f s zero (negsuc k) p h = absurd (not-le_of_lt (mul-pos (pow_pos (prec f - 1)) (pow_pos (suc k))) (subst (λ (z : ℕ). hid f * 2 ^ suc k ≤ z) (zero-mul 1) h))
no_fraction f s (suc m) (negsuc k) p h =
    absurd (not-le_of_lt (fitting f s m (negsuc k) p).short
    (le_trans (subst (λ (z : ℕ). 2 ^ prec f ≤ z) (ap (λ (z : ℕ). z * 2 ^ k) (two-hid f) ∙ mul_assoc (hid f) 2 (2 ^ k) ∙ ap (λ (z : ℕ). hid f * z) (sym (native.Mathlib.Nat.pow-succ' 2 k))) (more (2 ^ prec f) (2 ^ k) (pow_pos k)))
    (subst (λ (z : ℕ). hid f * 2 ^ suc k ≤ z) (mul-one (suc m)) h)))
  where
    more : (a b : ℕ) → 0 < b → a ≤ a * b
    more a b B = subst (λ (z : ℕ). z ≤ a * b) (mul-one a) (native.Mathlib.Nat.mul-le-mul_left a B)

-- the bound from which every value is whole
abbrev pub bound : Format → Float
bound f = fin false 1 (pos (prec f - 1))

pub one-pow : (k d : ℕ) → 1 * 2 ^ k * d ≡ 2 ^ k * d
one-pow k d = ap (λ (z : ℕ). z * d) (one-mul (2 ^ k))

pub false-not : (b : Bool) → b ≡ false → T (not b)
false-not b e = subst (λ (z : Bool). T (not z)) (sym e) tt

some_size : (m : ℕ) (e : ℤ) → 0 < suc m * up e * 1
some_size m e = mul-pos (mul-pos (native.Mathlib.Nat.zero-lt-suc m) (lib.Ieee.Fits.up_pos e)) (pow_pos 0)

not_none : (a d : ℕ) → 0 < a → a ≤ 0 * d → ⊥
not_none a d A h = not-le_of_lt A (subst (λ (z : ℕ). a ≤ z) (zero-mul d) h)

left-none : (a b : ℕ) → 0 < a → a + b ≤ 0 → ⊥
left-none a b A h = omega arith

module _ (f : Format) (g : Float → Float) (keeps : Keeps f g) where
  whole_back : (s : Bool) (m : ℕ) (e : ℤ) → T (fits f (fin s m e)) → hid f * down e ≤ m * up e → g (fin s m e) ≡ fin s m e
  whole_back s m e p h =
      let k = no_fraction f s m e p h in
      ap (λ (z : ℤ). g (fin s m z)) k.1
      ∙ keeps.at-whole s m k.0 (subst (λ (z : ℤ). T (fits f (fin s m z))) k.1 p)
      ∙ ap (λ (z : ℤ). fin s m z) (sym k.1)

  -- above zero and not below the bound
  large : (x : Float) → T (fits f x) → lt (fin false 0 (pos 0)) x ≡ true → lt x (bound f) ≡ false → x ≡ g x
  unfolding lt
  large nan p h k = sym keeps.at-nan
  large (inf s) p h k = sym (keeps.at-inf s)
  large (fin false m e) p h k =
      sym (whole_back false m e p
      (subst (λ (z : ℕ). z ≤ m * up e) (one-pow (prec f - 1) (down e)) (subst (λ (z : ℕ). 1 * 2 ^ (prec f - 1) * down e ≤ z) (mul-one (m * up e)) (nltb→le (m * up e * 1) (1 * 2 ^ (prec f - 1) * down e) (false-not (ltb (m * up e * 1) (1 * 2 ^ (prec f - 1) * down e)) k)))))
  large (fin true m e) p h k = absurd (true≢false (sym h))

  -- below zero and not above minus the bound
  large-below : (x : Float) → T (fits f x) → lt x (fin false 0 (pos 0)) ≡ true → lt (neg (bound f)) x ≡ false → x ≡ g x
  unfolding lt neg
  large-below nan p h k = sym keeps.at-nan
  large-below (inf s) p h k = sym (keeps.at-inf s)
  large-below (fin true m e) p h k =
      sym (whole_back true m e p
      (subst (λ (z : ℕ). z ≤ m * up e) (one-pow (prec f - 1) (down e)) (subst (λ (z : ℕ). 1 * 2 ^ (prec f - 1) * down e ≤ z) (mul-one (m * up e)) (nltb→le (m * up e * 1) (1 * 2 ^ (prec f - 1) * down e) (false-not (ltb (m * up e * 1) (1 * 2 ^ (prec f - 1) * down e)) k)))))
  large-below (fin false m e) p h k = absurd (native.Mathlib.Nat.not-suc-le-zero (subst (λ (z : ℕ). m * up e * 1 < z) (zero-mul (down e)) (ltb→lt (m * up e * 1) (0 * down e) (subst T (sym h) tt))))

  -- neither above zero nor below it
  neither : (x : Float) → T (fits f x) → lt (fin false 0 (pos 0)) x ≡ false → lt x (fin false 0 (pos 0)) ≡ false → x ≡ g x
  unfolding lt
  neither nan p h k = sym keeps.at-nan
  neither (inf s) p h k = sym (keeps.at-inf s)
  neither (fin s zero e) p h k = sym (keeps.at_zero s e p)
  neither (fin false (suc m) e) p h k = absurd (not_none (suc m * up e * 1) (down e) (some_size m e) (nltb→le (0 * down e) (suc m * up e * 1) (false-not (ltb (0 * down e) (suc m * up e * 1)) h)))
  neither (fin true (suc m) e) p h k = absurd (left-none (suc m * up e * 1) (0 * down e) (some_size m e) (nltb→le 0 (suc m * up e * 1 + 0 * down e) (false-not (ltb 0 (suc m * up e * 1 + 0 * down e)) k)))

  -- ---- below zero: the sign goes through
  -- outside both ranges that have fractions
  pub kept : (x : Float) → T (fits f x) → (lt (fin false 0 (pos 0)) x && lt x (bound f)) ≡ false → (lt x (fin false 0 (pos 0)) && lt (neg (bound f)) x) ≡ false → x ≡ g x
  kept x p h k = go (lt (fin false 0 (pos 0)) x) refl (lt x (fin false 0 (pos 0))) refl
    where
      go : (a : Bool) → lt (fin false 0 (pos 0)) x ≡ a → (b : Bool) → lt x (fin false 0 (pos 0)) ≡ b → x ≡ g x
      go true e b l = large x p e (sym (ap (λ (z : Bool). z && lt x (bound f)) e) ∙ h)
      go false e true l = large-below x p l (sym (ap (λ (z : Bool). z && lt (neg (bound f)) x) l) ∙ k)
      go false e false l = neither x p e l

pub neg-neg : (x : Float) → neg (neg x) ≡ x
unfolding neg
neg-neg nan = refl
neg-neg (inf true) = refl
neg-neg (inf false) = refl
neg-neg (fin true m e) = refl
neg-neg (fin false m e) = refl

below-neg : (s t : Bool) (a b : ℕ) → below (not t) b (not s) a ≡ below s a t b
below-neg false false a b = refl
below-neg false true a b = refl
below-neg true false a b = ap (λ (z : ℕ). ltb 0 z) (native.Mathlib.Nat.add_comm b a)
below-neg true true a b = refl

pub lt-neg : (x y : Float) → lt (neg y) (neg x) ≡ lt x y
unfolding lt neg
lt-neg nan nan = refl
lt-neg nan (inf t) = refl
lt-neg nan (fin t n d) = refl
lt-neg (inf s) nan = refl
lt-neg (inf true) (inf true) = refl
lt-neg (inf true) (inf false) = refl
lt-neg (inf false) (inf true) = refl
lt-neg (inf false) (inf false) = refl
lt-neg (inf true) (fin t n d) = refl
lt-neg (inf false) (fin t n d) = refl
lt-neg (fin s m e) nan = refl
lt-neg (fin s m e) (inf true) = refl
lt-neg (fin s m e) (inf false) = refl
lt-neg (fin s m e) (fin t n d) = below-neg s t (m * up e * down d) (n * up d * down e)

-- both zeros are below the same values
zero-sides : (t : Bool) (d b : ℕ) → below false (0 * d) t b ≡ below true (0 * d) t b
zero-sides false d b = ap (λ (z : ℕ). ltb z b) (zero-mul d) ∙ sym (ap (λ (z : ℕ). ltb 0 z) (ap (λ (z : ℕ). z + b) (zero-mul d) ∙ native.Mathlib.Nat.zero-add b))
zero-sides true d b = sym (is_false (ltb b (0 * d)) (lib.Arith.le→nltb b (0 * d) (subst (λ (z : ℕ). z ≤ b) (sym (zero-mul d)) Prim.Native.Nat.zero-le)))

zero-below : (y : Float) → lt (fin false 0 (pos 0)) y ≡ lt (neg (fin false 0 (pos 0))) y
unfolding lt neg
zero-below nan = refl
zero-below (inf t) = refl
zero-below (fin t n d) = zero-sides t (down d) (n * up d * 1)

-- a value between -2 ^ k and zero, its sign changed
pub flipped : (k : ℕ) (x : Float) → lt x (fin false 0 (pos 0)) ≡ true → lt (neg (fin false 1 (pos k))) x ≡ true → T (lt (fin false 0 (pos 0)) (neg x)) × T (lt (neg x) (fin false 1 (pos k)))
flipped k x h g = (
  subst T (sym (zero-below (neg x) ∙ lt-neg x (fin false 0 (pos 0)) ∙ h)) tt,
  subst T (sym (ap (λ (z : Float). lt (neg x) z) (sym (neg-neg (fin false 1 (pos k)))) ∙ lt-neg (neg (fin false 1 (pos k))) x ∙ g)) tt,
)

pub round-neg : (f : Format) (x : Float) → neg (round_away f (neg x)) ≡ round_away f x
unfolding round_away neg
round-neg f nan = refl
round-neg f (inf s) = neg-neg (inf s)
round-neg f (fin s m e) = neg-round f (not s) (half_up (m * up e) (down e)) 1 ∙ ap (λ (b : Bool). round f b (half_up (m * up e) (down e)) 1) (twice-not s)
  where
    twice-not : (s : Bool) → not (not s) ≡ s
    twice-not true = refl
    twice-not false = refl

-- A float as an integer, out of the range and inside it: what Rust's saturating `as` gives in each branch of a test against the ends.
use Rattle.std.proofs.Common.{◌≡◌, ℕ, ◌+◌, ◌-◌, ◌*◌, ◌/◌, ◌^◌, ◌<◌, ◌≤◌, min, Bool, true, false, ◌&&◌, ◌||◌, T, eqb, ltb, ℤ, pos, neg_ℤ, sym, refl, ap, ◌∙◌, subst, true≢false, le_trans, lt_of_lt_of_le, le_of_lt, mul-le-mul_right, div-lt_iff_lt-mul, add_comm, mul-le-mul_left, mul-pos, le-div_iff_mul-le, zero-mul, mul-one, arith, ltb→lt, lt→ltb, nltb→le, pow_pos, pow_mono}
use native.Mathlib.Nat.{zero-div, min-eq_left, min-eq_right}
use lib.Dec.{eqb_refl}
use lib.Pow.{le_ones}
use lib.Ieee.{Float, nan, inf, fin, up, down, lt, le, eq, neg, to_unsigned, to_signed}
use lib.Ieee.Fits.{down_pos}
use lib.Ieee.Bits.{is_true}
use Rattle.floats.proofs.WholeLaws.{one-pow, false-not}

-- 2 ^ k as a float
abbrev pub power : ℕ → Float
power k = fin false 1 (pos k)

-- what a test against 2 ^ k says of a size m * up e / down e
under : (m : ℕ) (e : ℤ) (k : ℕ) → ltb (m * up e * 1) (1 * 2 ^ k * down e) ≡ true → m * up e / down e < 2 ^ k
under m e k h =
    (div-lt_iff_lt-mul (down_pos e)).1
    (subst (λ (z : ℕ). m * up e < z) (one-pow k (down e)) (subst (λ (z : ℕ). z < 1 * 2 ^ k * down e) (mul-one (m * up e)) (ltb→lt (m * up e * 1) (1 * 2 ^ k * down e) (subst T (sym h) tt))))

over : (m : ℕ) (e : ℤ) (k : ℕ) → ltb (m * up e * 1) (1 * 2 ^ k * down e) ≡ false → 2 ^ k ≤ m * up e / down e
over m e k h =
    (le-div_iff_mul-le (down_pos e)).1
    (subst (λ (z : ℕ). z ≤ m * up e) (one-pow k (down e)) (subst (λ (z : ℕ). 1 * 2 ^ k * down e ≤ z) (mul-one (m * up e)) (nltb→le (m * up e * 1) (1 * 2 ^ k * down e) (false-not (ltb (m * up e * 1) (1 * 2 ^ k * down e)) h))))

size-power : (k : ℕ) (e : ℤ) → 0 < 1 * 2 ^ k * down e
size-power k e = mul-pos (mul-pos (pow_pos 0) (pow_pos k)) (down_pos e)

some : (a b : ℕ) → 0 < b → T (ltb 0 (a + b))
some a b h = lt→ltb 0 (a + b) (omega arith)

not_none : (a b : ℕ) → 0 < b → ltb 0 (a + b) ≡ false → ⊥
not_none a b h g = true≢false (sym (is_true (ltb 0 (a + b)) (some a b h)) ∙ g)

-- ---- unsigned
pub unsigned-low : (w : ℕ) (x : Float) → lt (fin false 0 (pos 0)) x ≡ false → 0 ≡ to_unsigned w x
unfolding lt to_unsigned
unsigned-low w nan h = refl
unsigned-low w (inf true) h = refl
unsigned-low w (inf false) h = absurd (true≢false h)
unsigned-low w (fin true m e) h = refl
unsigned-low w (fin false m e) h = sym (ap (λ (z : ℕ). min (z / down e) (2 ^ w - 1)) none ∙ ap (λ (z : ℕ). min z (2 ^ w - 1)) (zero-div (down e)) ∙ min-eq_left Prim.Native.Nat.zero-le)
  where
    le-none : (n : ℕ) → n ≤ 0 → n ≡ 0
    le-none n g = omega arith

    none : m * up e ≡ 0
    none = le-none (m * up e) (subst (λ (z : ℕ). z ≤ 0) (mul-one (m * up e)) (subst (λ (z : ℕ). m * up e * 1 ≤ z) (zero-mul (down e)) (nltb→le (0 * down e) (m * up e * 1) (false-not (ltb (0 * down e) (m * up e * 1)) h))))

pub unsigned-high : (w : ℕ) (x : Float) → lt (fin false 0 (pos 0)) x ≡ true → lt x (power w) ≡ false → 2 ^ w - 1 ≡ to_unsigned w x
unfolding lt to_unsigned
unsigned-high w nan h g = absurd (true≢false (sym h))
unsigned-high w (inf true) h g = absurd (true≢false (sym h))
unsigned-high w (inf false) h g = refl
unsigned-high w (fin true m e) h g = absurd (true≢false (sym h))
unsigned-high w (fin false m e) h g = sym (min-eq_right (le_trans (less (2 ^ w)) (over m e w g)))
  where
    less : (n : ℕ) → n - 1 ≤ n
    less n = omega arith

-- a value above zero is above -1
pub above_minus_one : (x : Float) → lt (fin false 0 (pos 0)) x ≡ true → T (lt (fin true 1 (pos 0)) x)
unfolding lt
above_minus_one nan h = absurd (true≢false (sym h))
above_minus_one (inf true) h = absurd (true≢false (sym h))
above_minus_one (inf false) h = tt
above_minus_one (fin true m e) h = absurd (true≢false (sym h))
above_minus_one (fin false m e) h = subst (λ (z : ℕ). T (ltb 0 z)) (add_comm (m * up e * 1) (1 * down e)) (some (m * up e * 1) (1 * down e) (mul-pos (pow_pos 0) (down_pos e)))

-- ---- signed, with h bits beside the sign
pub signed-nan : (h : ℕ) (x : Float) → eq x x ≡ false → pos 0 ≡ to_signed h x
unfolding eq to_signed
signed-nan h nan g = refl
signed-nan h (inf true) g = absurd (true≢false g)
signed-nan h (inf false) g = absurd (true≢false g)
signed-nan h (fin s m e) g = absurd (true≢false (sym (level-self s (m * up e * down e)) ∙ g))
  where
    level-self : (s : Bool) (a : ℕ) → lib.Ieee.level s a s a ≡ true
    level-self true a = ap (λ (b : Bool). b && true) (is_true (eqb a a) (eqb_refl a))
    level-self false a = ap (λ (b : Bool). b && true) (is_true (eqb a a) (eqb_refl a))

pub signed_high : (h : ℕ) (x : Float) → lt x (power h) ≡ false → eq x x ≡ true → pos (2 ^ h - 1) ≡ to_signed h x
unfolding lt eq to_signed
signed_high h nan g k = absurd (true≢false (sym k))
signed_high h (inf true) g k = absurd (true≢false g)
signed_high h (inf false) g k = refl
signed_high h (fin true m e) g k = absurd (not_none (m * up e * 1) (1 * 2 ^ h * down e) (size-power h e) g)
signed_high h (fin false m e) g k = ap pos (sym (min-eq_right (le_trans (less (2 ^ h)) (over m e h g))))
  where
    less : (n : ℕ) → n - 1 ≤ n
    less n = omega arith

pub signed_low : (h : ℕ) (x : Float) → lt x (power h) ≡ true → lt (neg (power h)) x ≡ false → neg_ℤ (pos (2 ^ h)) ≡ to_signed h x
unfolding lt neg to_signed
signed_low h nan g k = absurd (true≢false (sym g))
signed_low h (inf true) g k = refl
signed_low h (inf false) g k = absurd (true≢false (sym g))
signed_low h (fin false m e) g k = absurd (not_none (m * up e * 1) (1 * 2 ^ h * down e) (size-power h e) (ap (λ (z : ℕ). ltb 0 z) (add_comm (m * up e * 1) (1 * 2 ^ h * down e)) ∙ k))
signed_low h (fin true m e) g k = ap (λ (n : ℕ). neg_ℤ (pos n)) (sym (min-eq_right (over m e h k)))

-- between the ends the wider type gives the same integer
pub signed_same : (h w : ℕ) (x : Float) → h ≤ w → lt x (power h) ≡ true → lt (neg (power h)) x ≡ true → to_signed w x ≡ to_signed h x
unfolding lt neg to_signed
signed_same h w nan l g k = absurd (true≢false (sym g))
signed_same h w (inf true) l g k = absurd (true≢false (sym k))
signed_same h w (inf false) l g k = absurd (true≢false (sym g))
signed_same h w (fin false m e) l g k =
    ap pos (min-eq_left (le_ones w (lt_of_lt_of_le (under m e h g) (pow_mono l))) ∙ sym (min-eq_left (le_ones h (under m e h g))))
signed_same h w (fin true m e) l g k =
    ap (λ (n : ℕ). neg_ℤ (pos n)) (min-eq_left (le_of_lt (lt_of_lt_of_le (under m e h k) (pow_mono l))) ∙ sym (min-eq_left (le_of_lt (under m e h k))))

-- ---- a smaller power bounds as well
wider : (h w n d : ℕ) → h ≤ w → ltb n (1 * 2 ^ h * d) ≡ true → T (ltb n (1 * 2 ^ w * d))
wider h w n d l g = lt→ltb n (1 * 2 ^ w * d) (lt_of_lt_of_le (ltb→lt n (1 * 2 ^ h * d) (subst T (sym g) tt)) (mul-le-mul_right d (mul-le-mul_left 1 (pow_mono l))))

or_left : (a b : Bool) → T a → T (a || b)
or_left true b t = tt
or_left false b t = absurd t

pub under-larger : (h w : ℕ) (x : Float) → h ≤ w → lt x (power h) ≡ true → T (lt x (power w))
unfolding lt
under-larger h w nan l g = absurd (true≢false (sym g))
under-larger h w (inf true) l g = tt
under-larger h w (inf false) l g = absurd (true≢false (sym g))
under-larger h w (fin false m e) l g = wider h w (m * up e * 1) (down e) l g
under-larger h w (fin true m e) l g = some (m * up e * 1) (1 * 2 ^ w * down e) (size-power w e)

pub above-larger : (h w : ℕ) (x : Float) → h ≤ w → lt (neg (power h)) x ≡ true → T (le (neg (power w)) x)
unfolding lt neg le
above-larger h w nan l g = absurd (true≢false (sym g))
above-larger h w (inf true) l g = absurd (true≢false (sym g))
above-larger h w (inf false) l g = tt
above-larger h w (fin false m e) l g =
    or_left (ltb 0 (1 * 2 ^ w * down e + m * up e * 1)) (eq (fin true 1 (pos w)) (fin false m e))
    (subst (λ (z : ℕ). T (ltb 0 z)) (add_comm (m * up e * 1) (1 * 2 ^ w * down e)) (some (m * up e * 1) (1 * 2 ^ w * down e) (size-power w e)))
above-larger h w (fin true m e) l g = or_left (ltb (m * up e * 1) (1 * 2 ^ w * down e)) (eq (fin true 1 (pos w)) (fin true m e)) (wider h w (m * up e * 1) (down e) l g)

-- Each operation of IEEE 754 on finite values, by whatever fractions give their sizes: a comparison compares the fractions, and a sum,
-- a product or a quotient is one rounding of the exact one. Sizes are `HasValue x s a c`: the sign s and a / c.
use Rattle.std.proofs.Common.{◌≡◌, ℕ, zero, suc, ◌+◌, ◌-◌, ◌*◌, ◌/◌, ◌^◌, ◌<◌, min, Bool, true, false, cond, not, ◌&&◌, ◌||◌, T, eqb, ltb, sym, refl, ap, ◌∙◌, subst, mul_assoc, mul_comm, add-mul, lt_of_mul-lt-mul_right, mul-lt-mul_of_pos_right, mul-pos, zero-mul, mul_left_comm, eqb→eq, ltb→lt, lt→ltb}
use native.Mathlib.Nat.{mul-sub, eq_of_mul-eq-mul_right}
use mathlib.Core.Bool.{beq}
use lib.Dec.{eqb_refl, not_T}
use lib.Ieee.{Float, nan, inf, fin, Format, up, down, unlike, odd, units, round, low, neg, sum, add, sub, mul, div, below, level, lt, eq, le, to_unsigned}
use lib.Ieee.Fits.{down_pos, eq→eqb}
use lib.Ieee.Nearest.{div_same}
use lib.Ieee.Exact.{HasValue}
use lib.Ieee.Scale.{round_same}
use lib.Ieee.Positive.{first_pos}

-- ---- a test keeps its answer where both sides are scaled alike
both_ways : (b c : Bool) → (T b → T c) → (T c → T b) → b ≡ c
both_ways true true f g = refl
both_ways true false f g = absurd (f tt)
both_ways false true f g = absurd (g tt)
both_ways false false f g = refl

module _ (p q p' q' K K' : ℕ) (k : 0 < K) (k' : 0 < K') (e : p * K ≡ p' * K') (d : q * K ≡ q' * K') where
  lt-scale : p < q → p' < q'
  lt-scale h = lt_of_mul-lt-mul_right K' (subst (λ (z : ℕ). z < q' * K') e (subst (λ (z : ℕ). p * K < z) d (mul-lt-mul_of_pos_right h k)))

  pos-scale : 0 < p + q → 0 < p' + q'
  pos-scale h = lt_of_mul-lt-mul_right K' (subst (λ (z : ℕ). z < (p' + q') * K') (zero-mul K ∙ sym (zero-mul K')) (subst (λ (z : ℕ). 0 * K < z) (add-mul p q K ∙ ap (λ (z : ℕ). z + q * K) e ∙ ap (λ (z : ℕ). p' * K' + z) d ∙ sym (add-mul p' q' K')) (mul-lt-mul_of_pos_right h k)))

  eq-scale : p ≡ q → p' ≡ q'
  eq-scale h = eq_of_mul-eq-mul_right K' k' p' q' (sym e ∙ ap (λ (z : ℕ). z * K) h ∙ d)

  zero-scale : p ≡ 0 → p' ≡ 0
  zero-scale h = eq_of_mul-eq-mul_right K' k' p' 0 (sym e ∙ ap (λ (z : ℕ). z * K) h ∙ zero-mul K ∙ sym (zero-mul K'))

pub ltb-scale : (p q p' q' K K' : ℕ) → 0 < K → 0 < K' → p * K ≡ p' * K' → q * K ≡ q' * K' → ltb p q ≡ ltb p' q'
ltb-scale p q p' q' K K' k k' e d =
    both_ways (ltb p q) (ltb p' q')
    (λ t. lt→ltb p' q' (lt-scale p q p' q' K K' k k' e d (ltb→lt p q t)))
    (λ t. lt→ltb p q (lt-scale p' q' p q K' K k' k (sym e) (sym d) (ltb→lt p' q' t)))

eqb-scale : (p q p' q' K K' : ℕ) → 0 < K → 0 < K' → p * K ≡ p' * K' → q * K ≡ q' * K' → eqb p q ≡ eqb p' q'
eqb-scale p q p' q' K K' k k' e d =
    both_ways (eqb p q) (eqb p' q')
    (λ t. eq→eqb (eq-scale p q p' q' K K' k k' e d (eqb→eq p q t)))
    (λ t. eq→eqb (eq-scale p' q' p q K' K k' k (sym e) (sym d) (eqb→eq p' q' t)))

below-scale : (s t : Bool) (p q p' q' K K' : ℕ) → 0 < K → 0 < K' → p * K ≡ p' * K' → q * K ≡ q' * K' → below s p t q ≡ below s p' t q'
below-scale false false p q p' q' K K' k k' e d = ltb-scale p q p' q' K K' k k' e d
below-scale false true p q p' q' K K' k k' e d = refl
below-scale true false p q p' q' K K' k k' e d =
    both_ways (ltb 0 (p + q)) (ltb 0 (p' + q'))
    (λ t. lt→ltb 0 (p' + q') (pos-scale p q p' q' K K' k k' e d (ltb→lt 0 (p + q) t)))
    (λ t. lt→ltb 0 (p + q) (pos-scale p' q' p q K' K k' k (sym e) (sym d) (ltb→lt 0 (p' + q') t)))
below-scale true true p q p' q' K K' k k' e d = ltb-scale q p q' p' K K' k k' d e

level-scale : (s t : Bool) (p q p' q' K K' : ℕ) → 0 < K → 0 < K' → p * K ≡ p' * K' → q * K ≡ q' * K' → level s p t q ≡ level s p' t q'
level-scale s t p q p' q' K K' k k' e d =
    ap (λ (b : Bool). b && (beq s t || eqb p 0)) (eqb-scale p q p' q' K K' k k' e d)
    ∙ ap (λ (b : Bool). eqb p' q' && (beq s t || b)) (eqb-scale p 0 p' 0 K K' k k' e (zero-mul K ∙ sym (zero-mul K')))

-- the scaling between a value's own fraction and another of the same size
cross : (x c a u v w : ℕ) → x * c ≡ a * u → x * v * (c * w) ≡ a * w * (u * v)
cross x c a u v w h = simp (mul_assoc, mul_comm, mul_left_comm) (simp (mul_assoc, mul_comm, mul_left_comm) at (ap (λ (z : ℕ). z * (v * w)) h))

cross' : (x c a u v w : ℕ) → x * c ≡ a * u → x * v * (w * c) ≡ a * w * (v * u)
cross' x c a u v w h = simp (mul_assoc, mul_comm, mul_left_comm) (simp (mul_assoc, mul_comm, mul_left_comm) at (ap (λ (z : ℕ). z * (v * w)) h))

-- ---- comparisons
pub lt-value : (x y : Float) (s t : Bool) (a c b d : ℕ) → 0 < c → 0 < d → HasValue x s a c → HasValue y t b d → lt x y ≡ below s (a * d) t (b * c)
unfolding lt
lt-value nan y s t a c b d C D h k = absurd h
lt-value (inf u) y s t a c b d C D h k = absurd h
lt-value (fin u m e) nan s t a c b d C D h k = absurd k
lt-value (fin u m e) (inf v) s t a c b d C D h k = absurd k
lt-value (fin u m e) (fin v n g) s t a c b d C D h k =
    ap (λ (z : Bool). below z (m * up e * down g) v (n * up g * down e)) h.0
    ∙ ap (λ (z : Bool). below s (m * up e * down g) z (n * up g * down e)) k.0
    ∙ below-scale s t (m * up e * down g) (n * up g * down e) (a * d) (b * c) (c * d) (down e * down g) (mul-pos C D) (mul-pos (down_pos e) (down_pos g))
    (cross (m * up e) c a (down e) (down g) d h.1) (cross' (n * up g) d b (down g) (down e) c k.1)

pub eq-value : (x y : Float) (s t : Bool) (a c b d : ℕ) → 0 < c → 0 < d → HasValue x s a c → HasValue y t b d → eq x y ≡ level s (a * d) t (b * c)
unfolding eq
eq-value nan y s t a c b d C D h k = absurd h
eq-value (inf u) y s t a c b d C D h k = absurd h
eq-value (fin u m e) nan s t a c b d C D h k = absurd k
eq-value (fin u m e) (inf v) s t a c b d C D h k = absurd k
eq-value (fin u m e) (fin v n g) s t a c b d C D h k =
    ap (λ (z : Bool). level z (m * up e * down g) v (n * up g * down e)) h.0
    ∙ ap (λ (z : Bool). level s (m * up e * down g) z (n * up g * down e)) k.0
    ∙ level-scale s t (m * up e * down g) (n * up g * down e) (a * d) (b * c) (c * d) (down e * down g) (mul-pos C D) (mul-pos (down_pos e) (down_pos g))
    (cross (m * up e) c a (down e) (down g) d h.1) (cross' (n * up g) d b (down g) (down e) c k.1)

-- ---- the sign alone
pub neg_value : (x : Float) (s : Bool) (a c : ℕ) → HasValue x s a c → HasValue (neg x) (not s) a c
unfolding neg
neg_value nan s a c h = absurd h
neg_value (inf u) s a c h = absurd h
neg_value (fin u m e) s a c h = (ap not h.0, h.1)

pub neg-odd : (d : ℕ) (s : Bool) (q k l : ℕ) → neg (odd d s q k l) ≡ odd d (not s) q k l
unfolding neg odd
neg-odd d s zero k l = refl
neg-odd d s (suc q) k l = refl

pub neg-cond : (b : Bool) (x y : Float) → neg (cond b x y) ≡ cond b (neg x) (neg y)
neg-cond true x y = refl
neg-cond false x y = refl

neg-inf : (s : Bool) → neg (inf s) ≡ inf (not s)
unfolding neg
neg-inf s = refl

pub neg-units : (f : Format) (s : Bool) (q k : ℕ) → neg (units f s q k) ≡ units f (not s) q k
unfolding units
neg-units f s q k =
    neg-cond (ltb (q * 2 ^ k) (2 ^ (low f + suc (lib.Ieee.emax f)))) (odd (suc (lib.Ieee.prec f)) s q k (low f)) (inf s)
    ∙ ap (λ (z : Float). cond (ltb (q * 2 ^ k) (2 ^ (low f + suc (lib.Ieee.emax f)))) z (neg (inf s))) (neg-odd (suc (lib.Ieee.prec f)) s q k (low f))
    ∙ ap (λ (z : Float). cond (ltb (q * 2 ^ k) (2 ^ (low f + suc (lib.Ieee.emax f)))) (odd (suc (lib.Ieee.prec f)) (not s) q k (low f)) z) (neg-inf s)

pub neg-round : (f : Format) (s : Bool) (a c : ℕ) → neg (round f s a c) ≡ round f (not s) a c
unfolding round
neg-round f s a c = neg-units f s _ _

-- ---- arithmetic
pub sub-mul : (x y c : ℕ) → (x - y) * c ≡ x * c - y * c
sub-mul x y c = mul_comm (x - y) c ∙ mul-sub c x y ∙ ap (λ (z : ℕ). z - c * y) (mul_comm c x) ∙ ap (λ (z : ℕ). x * c - z) (mul_comm c y)

pub scale-add : (a b c : ℕ) → (a * c + b * c) * c ≡ (a + b) * (c * c)
scale-add a b c = ap (λ (z : ℕ). z * c) (sym (add-mul a b c)) ∙ mul_assoc (a + b) c c

sum-scale : (f : Format) (s t : Bool) (a b c a' b' c' : ℕ) → 0 < c → 0 < c' → a * c' ≡ a' * c → b * c' ≡ b' * c → sum f s a t b c ≡ sum f s a' t b' c'
unfolding sum
sum-scale f s t a b c a' b' c' C C' e d =
    ap (λ (z : Float). cond (beq s t) z (cond (ltb a b) (round f t (b - a) c) (round f (s && ltb b a) (a - b) c)))
    (round_same f s (a + b) c (a' + b') c' C C' (add-mul a b c' ∙ ap (λ (z : ℕ). z + b * c') e ∙ ap (λ (z : ℕ). a' * c + z) d ∙ sym (add-mul a' b' c)))
    ∙ ap (λ (z : Float). cond (beq s t) (round f s (a' + b') c') z)
    (ap (λ (z : Bool). cond z (round f t (b - a) c) (round f (s && ltb b a) (a - b) c)) (ltb-scale a b a' b' c' c C' C e d)
    ∙ ap (λ (z : Float). cond (ltb a' b') z (round f (s && ltb b a) (a - b) c)) (round_same f t (b - a) c (b' - a') c' C C' (differ b a b' a' d e))
    ∙ ap (λ (z : Float). cond (ltb a' b') (round f t (b' - a') c') z)
    (ap (λ (z : Bool). round f (s && z) (a - b) c) (ltb-scale b a b' a' c' c C' C d e)
    ∙ round_same f (s && ltb b' a') (a - b) c (a' - b') c' C C' (differ a b a' b' e d)))
  where
    differ : (x y x' y' : ℕ) → x * c' ≡ x' * c → y * c' ≡ y' * c → (x - y) * c' ≡ (x' - y') * c
    differ x y x' y' g h = sub-mul x y c' ∙ ap (λ (z : ℕ). z - y * c') g ∙ ap (λ (z : ℕ). x' * c - z) h ∙ sym (sub-mul x' y' c)

pub add-value : (f : Format) (x y : Float) (s t : Bool) (a c b d : ℕ) → 0 < c → 0 < d → HasValue x s a c → HasValue y t b d → add f x y ≡ sum f s (a * d) t (b * c) (c * d)
unfolding add
add-value f nan y s t a c b d C D h k = absurd h
add-value f (inf u) y s t a c b d C D h k = absurd h
add-value f (fin u m e) nan s t a c b d C D h k = absurd k
add-value f (fin u m e) (inf v) s t a c b d C D h k = absurd k
add-value f (fin u m e) (fin v n g) s t a c b d C D h k =
    ap (λ (z : Bool). sum f z (m * up e * down g) v (n * up g * down e) (down e * down g)) h.0
    ∙ ap (λ (z : Bool). sum f s (m * up e * down g) z (n * up g * down e) (down e * down g)) k.0
    ∙ sum-scale f s t (m * up e * down g) (n * up g * down e) (down e * down g) (a * d) (b * c) (c * d) (mul-pos (down_pos e) (down_pos g)) (mul-pos C D)
    (cross (m * up e) c a (down e) (down g) d h.1) (cross' (n * up g) d b (down g) (down e) c k.1)

pub sub-value : (f : Format) (x y : Float) (s t : Bool) (a c b d : ℕ) → 0 < c → 0 < d → HasValue x s a c → HasValue y t b d → sub f x y ≡ sum f s (a * d) (not t) (b * c) (c * d)
unfolding sub
sub-value f x y s t a c b d C D h k = add-value f x (neg y) s (not t) a c b d C D h (neg_value y t b d k)

pub mul-value : (f : Format) (x y : Float) (s t : Bool) (a c b d : ℕ) → 0 < c → 0 < d → HasValue x s a c → HasValue y t b d → mul f x y ≡ round f (unlike s t) (a * b) (c * d)
unfolding mul
mul-value f nan y s t a c b d C D h k = absurd h
mul-value f (inf u) y s t a c b d C D h k = absurd h
mul-value f (fin u m e) nan s t a c b d C D h k = absurd k
mul-value f (fin u m e) (inf v) s t a c b d C D h k = absurd k
mul-value f (fin u m e) (fin v n g) s t a c b d C D h k =
    ap (λ (z : Bool). round f (unlike z v) (m * up e * (n * up g)) (down e * down g)) h.0
    ∙ ap (λ (z : Bool). round f (unlike s z) (m * up e * (n * up g)) (down e * down g)) k.0
    ∙ round_same f (unlike s t) (m * up e * (n * up g)) (down e * down g) (a * b) (c * d) (mul-pos (down_pos e) (down_pos g)) (mul-pos C D)
    (product (m * up e) c a (down e) (n * up g) d b (down g) h.1 k.1)
  where
    product : (x c a u y d b v : ℕ) → x * c ≡ a * u → y * d ≡ b * v → x * y * (c * d) ≡ a * b * (u * v)
    product x c a u y d b v h k =
        let l : x * y * (c * d) ≡ x * c * (y * d) = simp (mul_assoc, mul_comm, mul_left_comm) in
        let r : a * u * (b * v) ≡ a * b * (u * v) = simp (mul_assoc, mul_comm, mul_left_comm) in
        l ∙ ap (λ (z : ℕ). z * (y * d)) h ∙ ap (λ (z : ℕ). a * u * z) k ∙ r

-- the size of a divisor that is no zero
not-zero : (n : ℕ) (b u v w : ℕ) → 0 < b → 0 < v → n * u * w ≡ b * v → eqb n 0 ≡ false
not-zero zero b u v w B D h = absurd (native.Mathlib.Nat.lt_irrefl 0 (subst (λ (z : ℕ). 0 < z) (sym h ∙ ap (λ (z : ℕ). z * w) (zero-mul u) ∙ zero-mul w) (mul-pos B D)))
not-zero (suc n) b u v w B D h = lib.Dec.eqb-suc-zero n

pub div_value : (f : Format) (x y : Float) (s t : Bool) (a c b d : ℕ) → 0 < c → 0 < d → 0 < b → HasValue x s a c → HasValue y t b d → div f x y ≡ round f (unlike s t) (a * d) (b * c)
unfolding div
div_value f nan y s t a c b d C D B h k = absurd h
div_value f (inf u) y s t a c b d C D B h k = absurd h
div_value f (fin u m e) nan s t a c b d C D B h k = absurd k
div_value f (fin u m e) (inf v) s t a c b d C D B h k = absurd k
div_value f (fin u m e) (fin v n g) s t a c b d C D B h k =
    ap (λ (z : Bool). cond z (cond (eqb m 0) nan (inf (unlike u v))) (round f (unlike u v) (m * up e * down g) (n * up g * down e))) (not-zero n b (up g) (down g) d B (down_pos g) k.1)
    ∙ ap (λ (z : Bool). round f (unlike z v) (m * up e * down g) (n * up g * down e)) h.0
    ∙ ap (λ (z : Bool). round f (unlike s z) (m * up e * down g) (n * up g * down e)) k.0
    ∙ round_same f (unlike s t) (m * up e * down g) (n * up g * down e) (a * d) (b * c) (mul-pos (first_pos (n * up g) d (subst (λ (z : ℕ). 0 < z) (sym k.1) (mul-pos B (down_pos g)))) (down_pos e)) (mul-pos B C)
    (quotient (m * up e) c a (down e) (n * up g) d b (down g) h.1 k.1)
  where
    quotient : (x c a u y d b v : ℕ) → x * c ≡ a * u → y * d ≡ b * v → x * v * (b * c) ≡ a * d * (y * u)
    quotient x c a u y d b v h k =
        let l : x * v * (b * c) ≡ x * c * (b * v) = simp (mul_assoc, mul_comm, mul_left_comm) in
        let r : a * u * (y * d) ≡ a * d * (y * u) = simp (mul_assoc, mul_comm, mul_left_comm) in
        l ∙ ap (λ (z : ℕ). z * (b * v)) h ∙ ap (λ (z : ℕ). a * u * z) (sym k) ∙ r

-- ---- the whole part
pub unsigned-value : (w : ℕ) (x : Float) (a c : ℕ) → 0 < c → HasValue x false a c → to_unsigned w x ≡ min (a / c) (2 ^ w - 1)
unfolding to_unsigned
unsigned-value w nan a c C h = absurd h
unsigned-value w (inf u) a c C h = absurd h
unsigned-value w (fin u m e) a c C h =
    ap (λ (z : Bool). cond z 0 (min (m * up e / down e) (2 ^ w - 1))) h.0
    ∙ ap (λ (z : ℕ). min z (2 ^ w - 1)) (div_same (m * up e) (down e) a c (down_pos e) C h.1)

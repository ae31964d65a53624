-- The order `<` of floats: no value is below itself, what is below a lower one is below the higher, and two are never below each other.
-- Over every value of the type `Float`, NaN, infinities and both zeros included, whether or not a format holds it. A NaN is neither below nor above anything.
use Rattle.std.proofs.Common.{◌≡◌, ℕ, zero, suc, ◌+◌, ◌*◌, ◌<◌, ◌≤◌, Bool, true, false, not, ◌&&◌, ◌||◌, eqb, sym, refl, ap, ◌∙◌, subst, subst₂, le_refl, lt_of_lt_of_le, le_of_lt, mul-le-mul_right, zero-lt-suc, lt_of_mul-lt-mul_right, mul-lt-mul_of_pos_right, mul-pos, zero-mul, mul_right_comm, arith, ltb-true, le-ltb, lt-ltb, ne_eqb, eqb-true}
use mathlib.Core.Bool.{false≢true, and-eq-true_iff}
use lib.Ieee.{Float, nan, inf, fin, up, down, below, level, lt, eq, le}
use lib.Ieee.Fits.{down_pos}

-- ---- fractions a / p, b / q and c / r, by cross-multiplication
cross : (a p b q c r : ℕ) → 0 < r → a * q < b * p → b * r < c * q → a * r < c * p
cross a p b q c r R h k =
    lt_of_mul-lt-mul_right q
    (lt_of_lt_of_le
    (subst₂ (λ (x y : ℕ). x < y) (mul_right_comm a q r) (mul_right_comm b p r) (mul-lt-mul_of_pos_right h R))
    (subst (λ (y : ℕ). b * r * p ≤ y) (mul_right_comm c q p) (mul-le-mul_right p (le_of_lt k))))

-- a product that is above something: its factor may be multiplied by anything above zero
above_zero : (a q x r : ℕ) → 0 < r → x < a * q → 0 < a * r
above_zero zero q x r R h = absurd (native.Mathlib.Nat.not-suc-le-zero (subst (λ (z : ℕ). x < z) (zero-mul q) h))
above_zero (suc a) q x r R h = mul-pos (zero-lt-suc a) R

below-trans : (s : Bool) (a p : ℕ) (t : Bool) (b q : ℕ) (u : Bool) (c r : ℕ) → 0 < p → 0 < r
    → below s (a * q) t (b * p) ≡ true → below t (b * r) u (c * q) ≡ true → below s (a * r) u (c * p) ≡ true
below-trans false a p false b q false c r P R h k = lt-ltb (a * r) (c * p) (cross a p b q c r R (ltb-true (a * q) (b * p) h) (ltb-true (b * r) (c * q) k))
below-trans false a p false b q true c r P R h k = absurd (false≢true k)
below-trans false a p true b q u c r P R h k = absurd (false≢true h)
below-trans true a p false b q false c r P R h k =
    let z = above_zero c q (b * r) p P (ltb-true (b * r) (c * q) k) in
    lt-ltb 0 (a * r + c * p) (omega arith)
below-trans true a p false b q true c r P R h k = absurd (false≢true k)
below-trans true a p true b q false c r P R h k =
    let z = above_zero a q (b * p) r R (ltb-true (b * p) (a * q) h) in
    lt-ltb 0 (a * r + c * p) (omega arith)
below-trans true a p true b q true c r P R h k = lt-ltb (c * p) (a * r) (cross c r b q a p P (ltb-true (c * q) (b * r) k) (ltb-true (b * p) (a * q) h))

-- ---- signs of infinities
both : (s t u : Bool) → (s && not t) ≡ true → (t && u) ≡ true → ⊥
both true true u h k = false≢true h
both true false u h k = false≢true k
both false t u h k = false≢true h

clash : (t u : Bool) → not t ≡ true → (t && u) ≡ true → ⊥
clash true u h k = false≢true h
clash false u h k = false≢true k

-- ---- the three laws
pub lt_irrefl : (x : Float) → lt x x ≡ false
unfolding lt
lt_irrefl nan = refl
lt_irrefl (inf true) = refl
lt_irrefl (inf false) = refl
lt_irrefl (fin true m e) = le-ltb (m * up e * down e) (m * up e * down e) (le_refl (m * up e * down e))
lt_irrefl (fin false m e) = le-ltb (m * up e * down e) (m * up e * down e) (le_refl (m * up e * down e))

pub lt_trans : (x y z : Float) → lt x y ≡ true → lt y z ≡ true → lt x z ≡ true
unfolding lt
lt_trans nan y z h k = absurd (false≢true h)
lt_trans (inf s) nan z h k = absurd (false≢true h)
lt_trans (inf s) (inf t) nan h k = absurd (false≢true k)
lt_trans (inf s) (inf t) (inf u) h k = absurd (both s t (not u) h k)
lt_trans (inf s) (inf t) (fin u c r) h k = absurd (both s t true h ((and-eq-true_iff t true).1 (k, refl)))
lt_trans (inf s) (fin t b q) nan h k = absurd (false≢true k)
lt_trans (inf s) (fin t b q) (inf u) h k = (and-eq-true_iff s (not u)).1 (h, k)
lt_trans (inf s) (fin t b q) (fin u c r) h k = h
lt_trans (fin s a p) nan z h k = absurd (false≢true h)
lt_trans (fin s a p) (inf t) nan h k = absurd (false≢true k)
lt_trans (fin s a p) (inf t) (inf u) h k = absurd (clash t (not u) h k)
lt_trans (fin s a p) (inf t) (fin u c r) h k = absurd (clash t true h ((and-eq-true_iff t true).1 (k, refl)))
lt_trans (fin s a p) (fin t b q) nan h k = absurd (false≢true k)
lt_trans (fin s a p) (fin t b q) (inf u) h k = k
lt_trans (fin s a p) (fin t b q) (fin u c r) h k = below-trans s (a * up p) (down p) t (b * up q) (down q) u (c * up r) (down r) (down_pos p) (down_pos r) h k

pub lt-asym : (x y : Float) → lt x y ≡ true → lt y x ≡ false
lt-asym x y h = go (lt y x) refl
  where
    go : (b : Bool) → lt y x ≡ b → b ≡ false
    go true k = sym (lt_trans x y x h k) ∙ lt_irrefl x
    go false k = refl

-- ---- `<=` is `<` or `==`
pub le-either : (x y : Float) → le x y ≡ (lt x y || eq x y)
unfolding le
le-either x y = refl

pub lt-le : (x y : Float) → lt x y ≡ true → le x y ≡ true
lt-le x y h = le-either x y ∙ ap (λ (b : Bool). b || eq x y) h

not-level : (s : Bool) (a : ℕ) (t : Bool) (b : ℕ) → below s a t b ≡ true → level t b s a ≡ false
not-level false a false b h = ap (λ (z : Bool). z && true) (ne_eqb b a (λ e. omega (arith, ltb-true a b h)))
not-level false a true b h = absurd (false≢true h)
not-level true a false b h = go (eqb b a) (eqb b 0) refl refl
  where
    go : (y z : Bool) → eqb b a ≡ y → eqb b 0 ≡ z → (y && (false || z)) ≡ false
    go false z k l = refl
    go true false k l = refl
    go true true k l = absurd (omega (arith, ltb-true 0 (a + b) h, eqb-true b a k, eqb-true b 0 l))
not-level true a true b h = ap (λ (z : Bool). z && true) (ne_eqb b a (λ e. omega (arith, ltb-true b a h)))

lt-not-eq : (x y : Float) → lt x y ≡ true → eq y x ≡ false
unfolding lt eq
lt-not-eq nan y h = absurd (false≢true h)
lt-not-eq (inf s) nan h = refl
lt-not-eq (inf true) (inf true) h = absurd (false≢true h)
lt-not-eq (inf true) (inf false) h = refl
lt-not-eq (inf false) (inf t) h = absurd (false≢true h)
lt-not-eq (inf s) (fin t n d) h = refl
lt-not-eq (fin s m e) nan h = refl
lt-not-eq (fin s m e) (inf t) h = refl
lt-not-eq (fin s m e) (fin t n d) h = not-level s (m * up e * down d) t (n * up d * down e) h

pub lt_not_le : (x y : Float) → lt x y ≡ true → le y x ≡ false
lt_not_le x y h = le-either y x ∙ ap (λ (b : Bool). b || eq y x) (lt-asym x y h) ∙ lt-not-eq x y h

pub le_not_lt : (x y : Float) → le x y ≡ true → lt y x ≡ false
le_not_lt x y h = go (lt y x) refl
  where
    go : (b : Bool) → lt y x ≡ b → b ≡ false
    go true k = sym h ∙ lt_not_le y x k
    go false k = refl

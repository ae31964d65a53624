-- More of the order of floats, over every value of the type `Float`: `<=` before `<`, that of two numbers one is at most the other or above it, and what a
-- finite number is below. Here "x is below +inf" says that x is a number and not +inf itself.
use mathlib.Core.Path.{◌≡◌, refl, sym, ap, ◌∙◌, subst₂}
use mathlib.Core.Bool.{Bool, true, false, ◌||◌, beq, false≢true}
use Prim.Native.Nat.{ℕ, zero, suc, ◌+◌, ◌*◌, ◌<◌}
use native.Mathlib.Nat.{zero-lt-suc, zero-mul, add-mul, mul-pos, mul_right_comm, mul-lt-mul_of_pos_right, lt_of_mul-lt-mul_right, lt_of_not-le}
use native.Mathlib.Omega.{arith}
use lib.Ieee.{Float, nan, inf, fin, up, down, below, level, lt, eq, le}
use lib.Ieee.Fits.{down_pos}
use lib.Ieee.Scale.{finite}
use borrow.Author.Tests.{ltb-true, ltb-false, lt-ltb, eq-eqb, eqb-true}
use lib.Dec.{eqb}
use Rattle.shapes.proofs.TestLaws.{both, first_of, second-of, first-not, second-not}
use Rattle.floats.proofs.OrderLaws.{lt_trans, le-either}

-- ---- of truth values
-- what would make a false test true is false
pub unless : {b : Bool} (a : Bool) → (a ≡ true → b ≡ true) → b ≡ false → a ≡ false
unless true h e = absurd (false≢true (sym e ∙ h refl))
unless false h e = refl

-- ---- fractions: one may be put for an equal one on the left of `<`
-- the sides of an order scaled by p are the sides of the other scaled by q
scaled : (p q : ℕ) {x y x' y' : ℕ} → 0 < p → x * p ≡ x' * q → y * p ≡ y' * q → x < y → x' < y'
scaled p q P e f h = lt_of_mul-lt-mul_right q (subst₂ (λ (m n : ℕ). m < n) e f (mul-lt-mul_of_pos_right h P))

below-scaled : (p q x y x' y' : ℕ) (t u : Bool) → 0 < p → x * p ≡ x' * q → y * p ≡ y' * q → below t x u y ≡ true → below t x' u y' ≡ true
below-scaled p q x y x' y' false false P e f h = lt-ltb x' y' (scaled p q P e f (ltb-true x y h))
below-scaled p q x y x' y' false true P e f h = h
below-scaled p q x y x' y' true false P e f h =
    lt-ltb 0 (x' + y')
    (scaled p q P (zero-mul p ∙ sym (zero-mul q))
    (add-mul x y p ∙ ap (λ (m : ℕ). m + y * p) e ∙ ap (λ (m : ℕ). x' * q + m) f ∙ sym (add-mul x' y' q))
    (ltb-true 0 (x + y) h))
below-scaled p q x y x' y' true true P e f h = lt-ltb y' x' (scaled p q P f e (ltb-true y x h))

-- the sign of a zero is not looked at
below-unsigned : (s t u : Bool) (x y : ℕ) → x ≡ 0 → below t x u y ≡ true → below s x u y ≡ true
below-unsigned false false u x y z h = h
below-unsigned false true false x y z h = lt-ltb x y (omega (arith, ltb-true 0 (x + y) h))
below-unsigned false true true x y z h = absurd (let n : ⊥ = omega (arith, ltb-true y x h) in n)
below-unsigned true false false x y z h = lt-ltb 0 (x + y) (omega (arith, ltb-true x y h))
below-unsigned true false true x y z h = absurd (false≢true h)
below-unsigned true true u x y z h = h

none_of : (a q r : ℕ) → 0 < q → a * q ≡ 0 → a * r ≡ 0
none_of zero q r Q e = zero-mul r
none_of (suc a) q r Q e = absurd (let n : ⊥ = omega (arith, mul-pos (zero-lt-suc a) Q) in n)

-- two equal fractions have one sign, or are zeros
level-sign : (s t u : Bool) (a q r b y : ℕ) → 0 < q → level s (a * q) t b ≡ true → below t (a * r) u y ≡ true → below s (a * r) u y ≡ true
level-sign false false u a q r b y Q e h = h
level-sign false true u a q r b y Q e h =
    below-unsigned false true u (a * r) y (none_of a q r Q (eqb-true (a * q) 0 (second-of (eqb (a * q) b) (eqb (a * q) 0) e))) h
level-sign true false u a q r b y Q e h =
    below-unsigned true false u (a * r) y (none_of a q r Q (eqb-true (a * q) 0 (second-of (eqb (a * q) b) (eqb (a * q) 0) e))) h
level-sign true true u a q r b y Q e h = h

level-below : (s : Bool) (a p : ℕ) (t : Bool) (b q : ℕ) (u : Bool) (c r : ℕ) → 0 < p → 0 < q
    → level s (a * q) t (b * p) ≡ true → below t (b * r) u (c * q) ≡ true → below s (a * r) u (c * p) ≡ true
level-below s a p t b q u c r P Q e h =
    level-sign s t u a q r (b * p) (c * p) Q e (below-scaled p q (b * r) (c * q) (a * r) (c * p) t u P left (mul_right_comm c q p) h)
  where
    left : b * r * p ≡ a * r * q
    left =
        mul_right_comm b r p
        ∙ ap (λ (m : ℕ). m * r) (sym (eqb-true (a * q) (b * p) (first_of (eqb (a * q) (b * p)) (beq s t || eqb (a * q) 0) e)))
        ∙ mul_right_comm a q r

-- ---- `<=` before `<`
eq-lt : (x y z : Float) → eq x y ≡ true → lt y z ≡ true → lt x z ≡ true
unfolding eq lt
eq-lt nan y z e h = absurd (false≢true e)
eq-lt (inf s) nan z e h = absurd (false≢true e)
eq-lt (inf false) (inf false) z e h = h
eq-lt (inf false) (inf true) z e h = absurd (false≢true e)
eq-lt (inf true) (inf false) z e h = absurd (false≢true e)
eq-lt (inf true) (inf true) z e h = h
eq-lt (inf s) (fin t b q) z e h = absurd (false≢true e)
eq-lt (fin s a p) nan z e h = absurd (false≢true e)
eq-lt (fin s a p) (inf t) z e h = absurd (false≢true e)
eq-lt (fin s a p) (fin t b q) nan e h = absurd (false≢true h)
eq-lt (fin s a p) (fin t b q) (inf u) e h = h
eq-lt (fin s a p) (fin t b q) (fin u c r) e h = level-below s (a * up p) (down p) t (b * up q) (down q) u (c * up r) (down r) (down_pos p) (down_pos q) e h

pub le_lt_trans : (x y z : Float) → le x y ≡ true → lt y z ≡ true → lt x z ≡ true
le_lt_trans x y z l h = go (lt x y) refl (sym (le-either x y) ∙ l)
  where
    go : (b : Bool) → lt x y ≡ b → (b || eq x y) ≡ true → lt x z ≡ true
    go true k e = lt_trans x y z k h
    go false k e = eq-lt x y z e h

-- ---- of two numbers
-- signed numbers that are neither in order nor equal are in the other order
below_other : (s : Bool) (a : ℕ) (t : Bool) (b : ℕ) → below s a t b ≡ false → level s a t b ≡ false → below t b s a ≡ true
below_other s a t b h e = go s t h (λ k q. false≢true (sym e ∙ both (eq-eqb a b q) k))
  where
    go : (s t : Bool) → below s a t b ≡ false → ((beq s t || eqb a 0) ≡ true → a ≡ b → ⊥) → below t b s a ≡ true
    go false false h d = let n = d refl in lt-ltb b a (omega (arith, ltb-false a b h))
    go false true h d = lt-ltb 0 (b + a) (lt_of_not-le (λ k. d (eq-eqb a 0 (omega arith)) (omega arith)))
    go true false h d = absurd (d (eq-eqb a 0 (omega (arith, ltb-false 0 (a + b) h))) (omega (arith, ltb-false 0 (a + b) h)))
    go true true h d = let n = d refl in lt-ltb a b (omega (arith, ltb-false b a h))

pub not-le-lt : (x y : Float) → lt x (inf false) ≡ true → lt y (inf false) ≡ true → le x y ≡ false → lt y x ≡ true
unfolding le eq lt
not-le-lt nan y p q e = absurd (false≢true p)
not-le-lt (inf false) y p q e = absurd (false≢true p)
not-le-lt (inf true) nan p q e = absurd (false≢true q)
not-le-lt (inf true) (inf false) p q e = absurd (false≢true q)
not-le-lt (inf true) (inf true) p q e = absurd (false≢true (sym e))
not-le-lt (inf true) (fin t b d) p q e = absurd (false≢true (sym e))
not-le-lt (fin s a c) nan p q e = absurd (false≢true q)
not-le-lt (fin s a c) (inf false) p q e = absurd (false≢true q)
not-le-lt (fin s a c) (inf true) p q e = refl
not-le-lt (fin s a c) (fin t b d) p q e =
    let m = a * up c * down d in
    let n = b * up d * down c in
    below_other s m t n (first-not (below s m t n) (level s m t n) e) (second-not (below s m t n) (level s m t n) e)

-- ---- a finite number
pub finite-below : (x : Float) → finite x ≡ true → lt x (inf false) ≡ true
unfolding lt
finite-below nan e = e
finite-below (inf s) e = absurd (false≢true e)
finite-below (fin s m d) e = refl

-- Laws of the leaves that need no rounding: the magnitude, the test for a finite value and the total order of magnitudes.
use Rattle.std.proofs.Common.{◌≡◌, ℕ, zero, suc, ◌+◌, ◌*◌, ◌<◌, Bool, true, false, cond, not, ◌&&◌, ◌||◌, T, eqb, ltb, ℤ, pos, sym, refl, ap, ◌∙◌, subst, ap₂, true≢false, lt_irrefl, le_antisymm, mul-pos, one-mul, zero-add, zero-mul, mul-one, arith, eqb→eq, ltb→lt, nltb→le, pow_pos}
use Rattle.std.specs.Prelude.{Option, Some, None}
use lib.Ieee.{is_nan}
use Rattle.std.specs.Float.{float_is_finite}
use Rattle.std.specs.Ordering.{float_partial_cmp, bool_cmp}
use Rattle.std.specs.declared.cmp.Ordering.{Ordering}
use Prim.Native.Nat.{compare}
use Prim.Native.Nat as Nat
use native.Mathlib.Nat.{sub_self}
use lib.Dec.{eqb_refl}
use lib.Arith.{le→nltb}
use lib.Ieee.{Float, nan, inf, fin, Format, up, down, round, sum, neg, sub, add, lt, eq, le, fits}
use lib.Ieee.Bits.{is_false, is_true}
use lib.Ieee.Fits.{down_pos, up_pos, eq→eqb}
use lib.Ieee.Scale.{finite}
use Rattle.std.specs.declared.cmp.Ordering.TheVariants.{Less, Equal, Greater}
use Rattle.floats.specs.Magnitude.{magnitude}
use Rattle.floats.specs.TotalOrder.{total_cmp, as_order}
use Rattle.floats.proofs.Half.{compared-lt, compared-gt, compare-lt, compare-gt}
use Rattle.floats.proofs.Value.{own_value, round-of-value}

-- ---- magnitude
-- a zero subtracted from +0.0
sum-zero : (f : Format) (a b c : ℕ) → a ≡ 0 → b ≡ 0 → sum f false a true b c ≡ round f false 0 c
unfolding sum
sum-zero f a b c p q = ap (λ (z : ℕ). sum f false z true b c) p ∙ ap (λ (z : ℕ). sum f false 0 true z c) q

zero-round : (f : Format) (e : ℤ) (c : ℕ) → 0 < c → T (fits f (fin false zero e)) → round f false 0 c ≡ fin false zero e
zero-round f e c C p = round-of-value f false 0 c (fin false zero e) C p (refl, ap (λ (z : ℕ). z * c) (zero-mul (up e)) ∙ zero-mul c ∙ sym (zero-mul (down e)))

fits-sign : (f : Format) (s : Bool) (m : ℕ) (e : ℤ) → T (fits f (fin s m e)) → T (fits f (fin false m e))
unfolding fits
fits-sign f s zero e p = p
fits-sign f s (suc m) e p = p

or-false : (a b : Bool) → (T a → ⊥) → (T b → ⊥) → (a || b) ≡ true → ⊥
or-false true b p q h = p tt
or-false false true p q h = q tt
or-false false false p q h = true≢false (sym h)

-- a size above zero is not at most zero, and a negative value is
not-at-most : (a d : ℕ) → 0 < a → (ltb a (0 * d) || (eqb a (0 * d) && true)) ≡ true → ⊥
not-at-most a d A h =
    or-false (ltb a (0 * d)) (eqb a (0 * d) && true)
    (λ t. native.Mathlib.Nat.not-suc-le-zero (subst (λ (z : ℕ). a < z) (zero-mul d) (ltb→lt a (0 * d) t)))
    (λ t. lt_irrefl 0 (subst (λ (z : ℕ). 0 < z) (eqb→eq a (0 * d) (and_left (eqb a (0 * d)) t) ∙ zero-mul d) A)) h
  where
    and_left : (b : Bool) → T (b && true) → T b
    and_left true t = tt
    and_left false t = t

at_most : (a d : ℕ) → (ltb 0 (a + 0 * d) || (eqb a (0 * d) && (false || eqb a 0))) ≡ true
at_most zero d = ap (λ (z : ℕ). ltb 0 (0 + z) || (eqb 0 z && (false || eqb 0 0))) (zero-mul d)
at_most (suc a) d = ap (λ (b : Bool). b || (eqb (suc a) (0 * d) && (false || eqb (suc a) 0))) (is_true (ltb 0 (suc a + 0 * d)) (lib.Dec.lt→ltb 0 (suc a + 0 * d) (omega arith)))

pub difference : (f : Format) (x : Float) → T (fits f x) → le x (fin false 0 (pos 0)) ≡ true → sub f (fin false 0 (pos 0)) x ≡ magnitude x
unfolding sub neg add magnitude le lt eq
difference f nan p h = refl
difference f (inf true) p h = refl
difference f (inf false) p h = absurd (true≢false (sym h))
difference f (fin true m e) p h =
    ap (λ (z : ℕ). round f false (z + m * up e * 1) (1 * down e)) (zero-mul (down e))
    ∙ ap (λ (z : ℕ). round f false z (1 * down e)) (zero-add (m * up e * 1) ∙ mul-one (m * up e))
    ∙ ap (λ (z : ℕ). round f false (m * up e) z) (one-mul (down e))
    ∙ round-of-value f false (m * up e) (down e) (fin false m e) (down_pos e) (fits-sign f true m e p) (own_value false m e)
difference f (fin false zero e) p h =
    sum-zero f (0 * down e) (0 * up e * 1) (1 * down e) (zero-mul (down e)) (mul-one (0 * up e) ∙ zero-mul (up e))
    ∙ zero-round f e (1 * down e) (mul-pos (pow_pos 0) (down_pos e)) p
difference f (fin false (suc m) e) p h = absurd (not-at-most (suc m * up e * 1) (down e) (mul-pos (mul-pos (native.Mathlib.Nat.zero-lt-suc m) (up_pos e)) (pow_pos 0)) h)

pub magnitude-above : (x : Float) → le x (fin false 0 (pos 0)) ≡ false → x ≡ magnitude x
unfolding magnitude le lt eq
magnitude-above nan h = refl
magnitude-above (inf true) h = absurd (true≢false h)
magnitude-above (inf false) h = refl
magnitude-above (fin true m e) h = absurd (true≢false (sym (at_most (m * up e * 1) (down e)) ∙ h))
magnitude-above (fin false m e) h = refl

-- ---- finite, by std's word
pub finite_is : (x : Float) → float_is_finite x ≡ finite x
unfolding float_is_finite
finite_is nan = refl
finite_is (inf s) = refl
finite_is (fin s m e) = refl

-- ---- the total order
compare-eq : (p q : ℕ) → p ≡ q → compare p q ≡ Nat.Ordering.eq
compare-eq p q h = go (compare p q) refl
  where
    go : (o : Nat.Ordering) → compare p q ≡ o → o ≡ Nat.Ordering.eq
    go Nat.Ordering.lt e = absurd (lt_irrefl q (subst (λ (z : ℕ). z < q) h (compared-lt p q e)))
    go Nat.Ordering.eq e = refl
    go Nat.Ordering.gt e = absurd (lt_irrefl q (subst (λ (z : ℕ). q < z) h (compared-gt p q e)))

order-less : (x y : Float) → lt (magnitude x) (magnitude y) ≡ true → Less ≡ total_cmp x y
unfolding magnitude lt total_cmp
order-less nan nan h = absurd (true≢false (sym h))
order-less nan (inf t) h = absurd (true≢false (sym h))
order-less nan (fin t n d) h = absurd (true≢false (sym h))
order-less (inf s) nan h = absurd (true≢false (sym h))
order-less (inf s) (inf t) h = absurd (true≢false (sym h))
order-less (inf s) (fin t n d) h = absurd (true≢false (sym h))
order-less (fin s m e) nan h = absurd (true≢false (sym h))
order-less (fin s m e) (inf t) h = refl
order-less (fin s m e) (fin t n d) h = ap as_order (sym (compare-lt (m * up e * down d) (n * up d * down e) (ltb→lt (m * up e * down d) (n * up d * down e) (subst T (sym h) tt))))

order-greater : (x y : Float) → lt (magnitude y) (magnitude x) ≡ true → Greater ≡ total_cmp x y
unfolding magnitude lt total_cmp
order-greater nan nan h = absurd (true≢false (sym h))
order-greater nan (inf t) h = refl
order-greater nan (fin t n d) h = refl
order-greater (inf s) nan h = absurd (true≢false (sym h))
order-greater (inf s) (inf t) h = absurd (true≢false (sym h))
order-greater (inf s) (fin t n d) h = refl
order-greater (fin s m e) nan h = absurd (true≢false (sym h))
order-greater (fin s m e) (inf t) h = absurd (true≢false (sym h))
order-greater (fin s m e) (fin t n d) h = ap as_order (sym (compare-gt (m * up e * down d) (n * up d * down e) (ltb→lt (n * up d * down e) (m * up e * down d) (subst T (sym h) tt))))

order-equal : (x y : Float) → eq (magnitude x) (magnitude y) ≡ true → Equal ≡ total_cmp x y
unfolding magnitude eq total_cmp
order-equal nan nan h = refl
order-equal nan (inf t) h = absurd (true≢false (sym h))
order-equal nan (fin t n d) h = absurd (true≢false (sym h))
order-equal (inf s) nan h = absurd (true≢false (sym h))
order-equal (inf s) (inf t) h = refl
order-equal (inf s) (fin t n d) h = absurd (true≢false (sym h))
order-equal (fin s m e) nan h = absurd (true≢false (sym h))
order-equal (fin s m e) (inf t) h = absurd (true≢false (sym h))
order-equal (fin s m e) (fin t n d) h = ap as_order (sym (compare-eq (m * up e * down d) (n * up d * down e) (eqb→eq (m * up e * down d) (n * up d * down e) (and_first (eqb (m * up e * down d) (n * up d * down e)) true h))))
  where
    and_first : (a b : Bool) → (a && b) ≡ true → T a
    and_first true b h = tt
    and_first false b h = absurd (true≢false (sym h))

false-not : (b : Bool) → b ≡ false → T (not b)
false-not b e = subst (λ (z : Bool). T (not z)) (sym e) tt

not-less : (p : ℕ) → ltb p p ≡ false
not-less p = is_false (ltb p p) (le→nltb p p (native.Mathlib.Nat.le_refl p))

apart : (p q : ℕ) → ltb p q ≡ false → ltb q p ≡ false → (eqb p q && true) ≡ false → ⊥
apart p q h g k = true≢false (sym (ap (λ (b : Bool). b && true) (is_true (eqb p q) (eq→eqb (le_antisymm (nltb→le q p (false-not (ltb q p) g)) (nltb→le p q (false-not (ltb p q) h)))))) ∙ k)

-- what a comparison of the magnitudes says, and which is a NaN where it says nothing
order-known : (x y : Float) (o : Ordering) → float_partial_cmp (magnitude x) (magnitude y) ≡ Some o → o ≡ total_cmp x y
order-known x y o h = go (lt (magnitude x) (magnitude y)) (eq (magnitude x) (magnitude y)) (lt (magnitude y) (magnitude x)) refl refl refl h
  where
    go : (a b d : Bool) → lt (magnitude x) (magnitude y) ≡ a → eq (magnitude x) (magnitude y) ≡ b → lt (magnitude y) (magnitude x) ≡ d
        → cond a (Some Less) (cond b (Some Equal) (cond d (Some Greater) None)) ≡ Some o → o ≡ total_cmp x y
    go true b d p q r k = let e : o ≡ Less = cc in e ∙ order-less x y p
    go false true d p q r k = let e : o ≡ Equal = cc in e ∙ order-equal x y q
    go false false true p q r k = let e : o ≡ Greater = cc in e ∙ order-greater x y r
    go false false false p q r k = absurd (cc)

compared : (p q : ℕ) → cond (ltb p q) (Some Less) (cond (eqb p q && true) (Some Equal) (cond (ltb q p) (Some Greater) None)) ≡ None → ⊥
compared p q h = go (ltb p q) (eqb p q && true) (ltb q p) refl refl refl h
  where
    go : (a b d : Bool) → ltb p q ≡ a → (eqb p q && true) ≡ b → ltb q p ≡ d → cond a (Some Less) (cond b (Some Equal) (cond d (Some Greater) None)) ≡ None → ⊥
    go true b d e f g k = cc
    go false true d e f g k = cc
    go false false true e f g k = cc
    go false false false e f g k = apart p q e g f

order-unknown : (x y : Float) → float_partial_cmp (magnitude x) (magnitude y) ≡ None → bool_cmp (is_nan (magnitude x)) (is_nan (magnitude y)) ≡ total_cmp x y
unfolding magnitude lt eq total_cmp is_nan
order-unknown nan nan h = refl
order-unknown nan (inf t) h = refl
order-unknown nan (fin t n d) h = refl
order-unknown (inf s) nan h = refl
order-unknown (inf s) (inf t) h = absurd (cc)
order-unknown (inf s) (fin t n d) h = absurd (cc)
order-unknown (fin s m e) nan h = refl
order-unknown (fin s m e) (inf t) h = absurd (cc)
order-unknown (fin s m e) (fin t n d) h = absurd (compared (m * up e * down d) (n * up d * down e) h)

-- the same for magnitudes that a call gave
module _ (x y m n : Float) (is_m : m ≡ magnitude x) (is-n : n ≡ magnitude y) where
  pub known : (r : Option Ordering) (o : Ordering) → r ≡ float_partial_cmp m n → r ≡ Some o → o ≡ total_cmp x y
  known r o e k = order-known x y o (sym (ap₂ float_partial_cmp is_m is-n) ∙ sym e ∙ k)

  pub unknown : (r : Option Ordering) → r ≡ float_partial_cmp m n → r ≡ None → bool_cmp (is_nan m) (is_nan n) ≡ total_cmp x y
  unknown r e k =
      ap₂ (λ (a b : Float). bool_cmp (is_nan a) (is_nan b)) is_m is-n
      ∙ order-unknown x y (sym (ap₂ float_partial_cmp is_m is-n) ∙ sym e ∙ k)

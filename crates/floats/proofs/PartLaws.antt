-- `floor` and `round` between zero and a power of two, worked out from the whole part that the machine gives: of the value, and of its double.
use Rattle.std.proofs.Common.{◌≡◌, ℕ, zero, suc, ◌+◌, ◌-◌, ◌*◌, ◌/◌, ◌%◌, ◌^◌, ◌<◌, ◌≤◌, min, true, false, T, ltb, ℤ, pos, sym, refl, ap, ◌∙◌, subst, lt_of_lt_of_le, le_of_lt, mul-le-mul_right, mod-lt, mul_assoc, mul_comm, div-lt_iff_lt-mul, add-mul, mul-pos, one-mul, div-add-mod', zero-mul, mul-one, mul_left_comm, arith, le→leb, ltb→lt, lt→ltb, nltb→le, pow_pos, pow_mono, pow-add}
use native.Mathlib.Nat.{min-eq_left, add-mul-div_right, div-div-eq-div-mul}
use lib.Arith.{digits_div}
use lib.Ieee.{Float, nan, inf, fin, Format, prec, emax, low, up, down, round, sum, neg, add, lt, fits, of_int, in_float, to_unsigned}
use lib.Ieee.Fits.{down_pos}
use lib.Ieee.Back.{round_whole}
use lib.Ieee.Exact.{HasValue, round_exact}
use lib.Ieee.Scale.{round_same}
use Rattle.floats.specs.Whole.{floor, round_away, ceiling, half_up}
use Rattle.floats.proofs.Value.{own_value, fitting, fine_of, unit}
use Rattle.floats.proofs.Fractions.{lt-value, neg-round, add-value, unsigned-value}
use Rattle.floats.proofs.WholeLaws.{one-pow, false-not}

-- ---- between zero and 2 ^ k: the size as a fraction
pub record Between (k : ℕ) (x : Float) : Type 0 where
  pub m : ℕ
  pub e : ℤ
  pub is : x ≡ fin false m e
  pub under : m * up e < 2 ^ k * down e

pub between : (k : ℕ) (x : Float) → T (lt (fin false 0 (pos 0)) x) → T (lt x (fin false 1 (pos k))) → Between k x
unfolding lt
between k nan h g = absurd h
between k (inf true) h g = absurd h
between k (inf false) h g = absurd g
between k (fin true m e) h g = absurd h
between k (fin false m e) h g = record {
  m = m;
  e = e;
  is = refl;
  under = subst (λ (z : ℕ). m * up e < z) (one-pow k (down e)) (subst (λ (z : ℕ). z < 1 * 2 ^ k * down e) (mul-one (m * up e)) (ltb→lt (m * up e * 1) (1 * 2 ^ k * down e) g));
}

-- the whole part is below 2 ^ k, so no limit of the integer type is met
pub part-under : (a c k : ℕ) → 0 < c → a < 2 ^ k * c → a / c < 2 ^ k
part-under a c k C h = (div-lt_iff_lt-mul C).1 h

uncapped : (n k w : ℕ) → n < 2 ^ k → k ≤ w → min n (2 ^ w - 1) ≡ n
uncapped n k w h l = min-eq_left (lib.Pow.le_ones w (lt_of_lt_of_le h (pow_mono l)))

pub part-is : (w k : ℕ) (x : Float) (a c : ℕ) → 0 < c → k ≤ w → a < 2 ^ k * c → HasValue x false a c → to_unsigned w x ≡ a / c
part-is w k x a c C l h v = unsigned-value w x a c C v ∙ uncapped (a / c) k w (part-under a c k C h) l

of-whole : (f : Format) (n : ℕ) → of_int f (pos n) ≡ round f false n 1
unfolding of_int
of-whole f n = refl

-- a whole part with a fraction behind it, and with none
part_of : (a c : ℕ) → a / c * c + a % c ≡ a
part_of a c = div-add-mod' a c

pub is-part : (x c q r : ℕ) → x ≡ q * c + r → r < c → x / c ≡ q
is-part x c q r e h = ap (λ (z : ℕ). z / c) e ∙ digits_div q h

ceiling-next : (a c : ℕ) → 0 < c → a / c * c < a → a / c + 1 ≡ ceiling a c
ceiling-next a c C h = go (a / c * c) (a % c) (part_of a c) (mod-lt a C) refl
  where
    go : (p r : ℕ) → p + r ≡ a → r < c → p ≡ a / c * c → a / c + 1 ≡ ceiling a c
    go p r e l z = sym (is-part (a + (c - 1)) c (a / c + 1) (r - 1) (split p r e l z ∙ ap (λ (x : ℕ). x + (r - 1)) (sym (add-mul (a / c) 1 c))) (omega arith))
      where
        split : (p r : ℕ) → p + r ≡ a → r < c → p ≡ a / c * c → a + (c - 1) ≡ a / c * c + 1 * c + (r - 1)
        split p r e l z = omega arith

ceiling-same : (a c : ℕ) → 0 < c → a ≤ a / c * c → a / c ≡ ceiling a c
ceiling-same a c C h = sym (is-part (a + (c - 1)) c (a / c) (c - 1) (whole (a / c * c) (a % c) (part_of a c) refl) (omega arith))
  where
    whole : (p r : ℕ) → p + r ≡ a → p ≡ a / c * c → a + (c - 1) ≡ a / c * c + (c - 1)
    whole p r e z = omega arith

twice : (a k c : ℕ) → a < 2 ^ k * c → 2 * a < 2 ^ suc k * c
twice a k c h = subst (λ (z : ℕ). 2 * a < z) (sym (mul_assoc 2 (2 ^ k) c) ∙ ap (λ (z : ℕ). z * c) (sym (native.Mathlib.Nat.pow-succ' 2 k))) (omega arith)

halved : (a c : ℕ) → 0 < c → (2 * a / c + 1) / 2 ≡ half_up a c
halved a c C =
    ap (λ (z : ℕ). z / 2) (sym (add-mul-div_right (2 * a) 1 C) ∙ ap (λ (z : ℕ). (2 * a + z) / c) (one-mul c))
    ∙ div-div-eq-div-mul (2 * a + c) c 2 ∙ ap (λ (z : ℕ). (2 * a + c) / z) (mul_comm c 2)

sum_alike : (f : Format) (a c : ℕ) → sum f false a false a c ≡ round f false (a + a) c
unfolding sum
sum_alike f a c = refl

-- a value added to itself is its double, rounded once, and the double needs no more digits
doubled : (f : Format) (m : ℕ) (e : ℤ) → add f (fin false m e) (fin false m e) ≡ round f false (2 * (m * up e)) (down e)
doubled f m e =
    add-value f (fin false m e) (fin false m e) false false (m * up e) (down e) (m * up e) (down e) (down_pos e) (down_pos e) (own_value false m e) (own_value false m e)
    ∙ sum_alike f (m * up e * down e) (down e * down e)
    ∙ round_same f false (m * up e * down e + m * up e * down e) (down e * down e) (2 * (m * up e)) (down e) (mul-pos (down_pos e) (down_pos e)) (down_pos e) (pair (m * up e) (down e))
  where
    pair : (a c : ℕ) → (a * c + a * c) * c ≡ 2 * a * (c * c)
    pair a c = ap (λ (z : ℕ). z * c) (alike (a * c)) ∙ simp (mul_assoc, mul_comm, mul_left_comm)
      where
        alike : (z : ℕ) → z + z ≡ 2 * z
        alike z = omega arith

twice-value : (f : Format) (k m : ℕ) (e : ℤ) → k < emax f → m * up e < 2 ^ k * down e → T (fits f (fin false m e)) → HasValue (round f false (2 * (m * up e)) (down e)) false (2 * (m * up e)) (down e)
twice-value f k zero e g h p =
    round_exact f false (2 * (zero * up e)) (down e) 0 0 (down_pos e) (pow_pos (prec f)) (pow_pos (low f + suc (emax f)))
    (ap (λ (z : ℕ). 2 * z * 2 ^ low f) (zero-mul (up e)) ∙ zero-mul (2 ^ low f) ∙ sym (zero-mul (down e)))
twice-value f k (suc m) e g h p =
    let t = fitting f false m e p in
    let u = unit e (low f) t.fine in
    round_exact f false (2 * (suc m * up e)) (down e) (suc m) (suc u.0) (down_pos e) t.short
    (room (suc m) u.0 (low f) k (emax f) (fine_of (suc m) (up e) (down e) (2 ^ u.0) (2 ^ low f) (2 ^ k) u.1 h (pow_pos (low f)) (down_pos e)) g)
    (even (suc m) (up e) (2 ^ low f) (2 ^ u.0) (down e) u.1 ∙ ap (λ (z : ℕ). suc m * z * down e) (sym (native.Mathlib.Nat.pow-succ' 2 u.0)))
  where
    room : (m j l k b : ℕ) → m * 2 ^ j < 2 ^ l * 2 ^ k → k < b → m * 2 ^ suc j < 2 ^ (l + suc b)
    room m j l k b h g =
        subst (λ (z : ℕ). z < 2 ^ (l + suc b)) (mul_assoc m (2 ^ j) 2 ∙ ap (λ (z : ℕ). m * z) (sym (native.Mathlib.Nat.pow-suc 2 j)))
        (lt_of_lt_of_le (native.Mathlib.Nat.mul-lt-mul_of_pos_right (subst (λ (z : ℕ). m * 2 ^ j < z) (sym (pow-add 2 l k)) h) (pow_pos 1))
        (subst (λ (z : ℕ). z ≤ 2 ^ (l + suc b)) (native.Mathlib.Nat.pow-suc 2 (l + k)) (pow_mono (omega arith))))

    even : (m u l j d : ℕ) → u * l ≡ j * d → 2 * (m * u) * l ≡ m * (2 * j) * d
    even m u l j d h = simp (mul_assoc, mul_comm, mul_left_comm) (simp (mul_assoc, mul_comm, mul_left_comm) at (ap (λ (z : ℕ). 2 * m * z) h))

-- ---- the answers for a size m * up e / down e below 2 ^ k
module _ (f : Format) (k w : ℕ) (m : ℕ) (e : ℤ) (l : k ≤ w) (under : m * up e < 2 ^ k * down e) where
  part : to_unsigned w (fin false m e) ≡ m * up e / down e
  part = part-is w k (fin false m e) (m * up e) (down e) (down_pos e) l under (own_value false m e)

  pub part_small : to_unsigned w (fin false m e) < 2 ^ k
  part_small = subst (λ (z : ℕ). z < 2 ^ k) (sym part) (part-under (m * up e) (down e) k (down_pos e) under)

  -- above zero `floor` is the whole part
  pub floor-part : of_int f (pos (to_unsigned w (fin false m e))) ≡ floor f (fin false m e)
  unfolding floor
  floor-part = of-whole f (to_unsigned w (fin false m e)) ∙ ap (λ (n : ℕ). round f false n 1) part

  -- below zero it is the whole part, or one more where there is a fraction
  part-lt : k ≤ prec f → lt (of_int f (pos (to_unsigned w (fin false m e)))) (fin false m e) ≡ ltb (m * up e / down e * down e) (m * up e * 1)
  part-lt p =
      ap (λ (n : ℕ). lt (of_int f (pos n)) (fin false m e)) part
      ∙ ap (λ (x : Float). lt x (fin false m e)) (of-whole f (m * up e / down e))
      ∙ lt-value (round f false (m * up e / down e) 1) (fin false m e) false false (m * up e / down e) 1 (m * up e) (down e) (pow_pos 0) (down_pos e)
      (round_whole f false (m * up e / down e) (le_of_lt (lt_of_lt_of_le (part-under (m * up e) (down e) k (down_pos e) under) (pow_mono p)))) (own_value false m e)

  floor-below : floor f (neg (fin false m e)) ≡ round f true (ceiling (m * up e) (down e)) 1
  unfolding floor neg
  floor-below = refl

  neg-whole : (n : ℕ) → n ≡ ceiling (m * up e) (down e) → neg (of_int f (pos n)) ≡ floor f (neg (fin false m e))
  neg-whole n h = ap neg (of-whole f n) ∙ neg-round f false n 1 ∙ ap (λ (z : ℕ). round f true z 1) h ∙ sym floor-below

  pub floor-above : k ≤ prec f → lt (of_int f (pos (to_unsigned w (fin false m e)))) (fin false m e) ≡ true → neg (of_int f (pos (to_unsigned w (fin false m e) + 1))) ≡ floor f (neg (fin false m e))
  floor-above p h =
      neg-whole (to_unsigned w (fin false m e) + 1)
      (ap (λ (n : ℕ). n + 1) part ∙ ceiling-next (m * up e) (down e) (down_pos e) (subst (λ (z : ℕ). m * up e / down e * down e < z) (mul-one (m * up e)) (ltb→lt (m * up e / down e * down e) (m * up e * 1) (subst T (sym (sym (part-lt p) ∙ h)) tt))))

  pub floor-exact : k ≤ prec f → lt (of_int f (pos (to_unsigned w (fin false m e)))) (fin false m e) ≡ false → neg (of_int f (pos (to_unsigned w (fin false m e)))) ≡ floor f (neg (fin false m e))
  floor-exact p h =
      neg-whole (to_unsigned w (fin false m e))
      (part ∙ ceiling-same (m * up e) (down e) (down_pos e) (subst (λ (z : ℕ). z ≤ m * up e / down e * down e) (mul-one (m * up e)) (nltb→le (m * up e / down e * down e) (m * up e * 1) (false-not (ltb (m * up e / down e * down e) (m * up e * 1)) (sym (part-lt p) ∙ h)))))

  -- twice the value is exact, and half of its whole part, rounded up, is the nearest whole number
  pub double : k < emax f → T (fits f (fin false m e)) → HasValue (add f (fin false m e) (fin false m e)) false (2 * (m * up e)) (down e)
  double g p = subst (λ (x : Float). HasValue x false (2 * (m * up e)) (down e)) (sym (doubled f m e)) (twice-value f k m e g under p)

  pub round-part : k < w → k < emax f → T (fits f (fin false m e)) → of_int f (pos ((to_unsigned w (add f (fin false m e) (fin false m e)) + 1) / 2)) ≡ round_away f (fin false m e)
  unfolding round_away
  round-part q g p =
      of-whole f ((to_unsigned w (add f (fin false m e) (fin false m e)) + 1) / 2)
      ∙ ap (λ (n : ℕ). round f false ((n + 1) / 2) 1) (part-is w (suc k) (add f (fin false m e) (fin false m e)) (2 * (m * up e)) (down e) (down_pos e) q (twice (m * up e) k (down e) under) (double g p))
      ∙ ap (λ (n : ℕ). round f false n 1) (halved (m * up e) (down e) (down_pos e))

-- ---- the same for a value known to lie between zero and 2 ^ k
pub in-float : (f : Format) (n : ℕ) → n ≤ 2 ^ prec f → T (in_float f (pos n))
unfolding in_float
in-float f n h = le→leb n (2 ^ prec f) h

power-value : (k : ℕ) → HasValue (fin false 1 (pos k)) false (2 ^ k) 1
power-value k = (refl, ap (λ (z : ℕ). z * 1) (one-mul (2 ^ k)))

module _ (f : Format) (k w : ℕ) (x : Float) (l : k ≤ w) (b : Between k x) where
  pub small : to_unsigned w x < 2 ^ k
  small = subst (λ (z : Float). to_unsigned w z < 2 ^ k) (sym b.is) (part_small f k w b.m b.e l b.under)

  pub floor-of : of_int f (pos (to_unsigned w x)) ≡ floor f x
  floor-of = subst (λ (z : Float). of_int f (pos (to_unsigned w z)) ≡ floor f z) (sym b.is) (floor-part f k w b.m b.e l b.under)

  pub above_of : k ≤ prec f → lt (of_int f (pos (to_unsigned w x))) x ≡ true → neg (of_int f (pos (to_unsigned w x + 1))) ≡ floor f (neg x)
  above_of p = subst (λ (z : Float). lt (of_int f (pos (to_unsigned w z))) z ≡ true → neg (of_int f (pos (to_unsigned w z + 1))) ≡ floor f (neg z)) (sym b.is) (floor-above f k w b.m b.e l b.under p)

  pub exact-of : k ≤ prec f → lt (of_int f (pos (to_unsigned w x))) x ≡ false → neg (of_int f (pos (to_unsigned w x))) ≡ floor f (neg x)
  exact-of p = subst (λ (z : Float). lt (of_int f (pos (to_unsigned w z))) z ≡ false → neg (of_int f (pos (to_unsigned w z))) ≡ floor f (neg z)) (sym b.is) (floor-exact f k w b.m b.e l b.under p)

module _ (f : Format) (k w : ℕ) (x : Float) (l : k < w) (g : k < emax f) (b : Between k x) (p : T (fits f x)) where
  double-of : HasValue (add f x x) false (2 * (b.m * up b.e)) (down b.e)
  double-of =
      subst (λ (z : Float). HasValue (add f z z) false (2 * (b.m * up b.e)) (down b.e)) (sym b.is)
      (double f k w b.m b.e (le_of_lt l) b.under g (subst (λ (z : Float). T (fits f z)) b.is p))

  twice-under : 2 * (b.m * up b.e) < 2 ^ suc k * down b.e
  twice-under = twice (b.m * up b.e) k (down b.e) b.under

  pub double-small : to_unsigned w (add f x x) < 2 ^ suc k
  double-small =
      subst (λ (n : ℕ). n < 2 ^ suc k) (sym (part-is w (suc k) (add f x x) (2 * (b.m * up b.e)) (down b.e) (down_pos b.e) l twice-under double-of))
      (part-under (2 * (b.m * up b.e)) (down b.e) (suc k) (down_pos b.e) twice-under)

  pub double-above : T (lt (fin true 1 (pos 0)) (add f x x))
  double-above =
      subst T (sym (lt-value (fin true 1 (pos 0)) (add f x x) true false 1 1 (2 * (b.m * up b.e)) (down b.e) (pow_pos 0) (down_pos b.e) (refl, refl) double-of))
      (lt→ltb 0 (1 * down b.e + 2 * (b.m * up b.e) * 1) (some (1 * down b.e) (2 * (b.m * up b.e) * 1) (mul-pos (pow_pos 0) (down_pos b.e))))
    where
      some : (a b : ℕ) → 0 < a → 0 < a + b
      some a b h = omega arith

  pub double-under : T (lt (add f x x) (fin false 1 (pos w)))
  double-under =
      subst T (sym (lt-value (add f x x) (fin false 1 (pos w)) false false (2 * (b.m * up b.e)) (down b.e) (2 ^ w) 1 (down_pos b.e) (pow_pos 0) double-of (power-value w)))
      (lt→ltb (2 * (b.m * up b.e) * 1) (2 ^ w * down b.e)
      (subst (λ (z : ℕ). z < 2 ^ w * down b.e) (sym (mul-one (2 * (b.m * up b.e)))) (lt_of_lt_of_le twice-under (mul-le-mul_right (down b.e) (pow_mono l)))))

  pub round-of : of_int f (pos ((to_unsigned w (add f x x) + 1) / 2)) ≡ round_away f x
  round-of =
      subst (λ (z : Float). of_int f (pos ((to_unsigned w (add f z z) + 1) / 2)) ≡ round_away f z) (sym b.is)
      (round-part f k w b.m b.e (le_of_lt l) b.under l g (subst (λ (z : Float). T (fits f z)) b.is p))

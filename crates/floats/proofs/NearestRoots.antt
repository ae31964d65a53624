-- THE THEOREM of `sqrt`: it is finite, and the one value of the format nearest to the exact root (`sqrt-nearest`), for every format.
-- A value of the format, in units, is a multiple of 2 ^ k where the root keeps digits behind which k are dropped, so none lies between the two that are next to the root.
use Rattle.std.proofs.Common.{◌≡◌, ℕ, zero, suc, ◌+◌, ◌-◌, ◌*◌, ◌/◌, ◌^◌, ◌<◌, ◌≤◌, Bool, true, false, not, T, leb, sym, refl, ap, ◌∙◌, subst, zero-le, le_trans, le_of_eq, le_refl, lt_of_lt_of_le, le_of_suc-le-suc, lt_of_le_of_lt, le_of_lt, mul-le-mul_right, zero-lt-suc, mul_assoc, suc-mul, mul_comm, add-mul, mul-le-mul, lt_of_mul-lt-mul_right, mul-le-mul_left, mul-lt-mul_of_pos_right, mul-pos, one-mul, lt_of_not-le, zero-mul, mul-add, mul_right_comm, not-le_of_lt, mul_left_comm, arith, lit≤, leb→le, pow_pos, pow_mono, pow-add}
use native.Mathlib.Nat.{pow-succ', le-suc}
use lib.Dec.{nleb→lt}
use lib.Arith.{lt_of_le-ne}
use lib.Ieee.{Float, nan, inf, fin, Format, binary32, binary64, prec, emax, low, up, down, size, units, fits, hid}
use lib.Ieee.Digits.{back}
use lib.Ieee.Exact.{HasValue, units_val}
use lib.Ieee.Scale.{overflow, finite}
use lib.Ieee.Positive.{num, den, den_pos, positive, positive-finite, own_value, value_pos, first_pos, positive_of_value, value→cross}
use Rattle.floats.specs.Root.{root, sqrt}
use Rattle.floats.specs.NearestRoot.{NearestRoot}
use Rattle.floats.proofs.Value.{fitting, unit}
use Rattle.floats.proofs.Pattern.{two-hid, units-fits}
use Rattle.floats.proofs.Roots.{Cut, lt-of-squares, square-lt, middles, no_tie, sqrt-down, sqrt-up, squared-units, cut-exists}

-- ---- a value of the format in units, m * 2 ^ j of them, and its place among the multiples of 2 ^ k
pub record InUnits (f : Format) (y : Float) : Type 0 where
  pub m : ℕ
  pub j : ℕ
  pub short : m < 2 ^ prec f
  pub is : num y * 2 ^ low f ≡ m * 2 ^ j * den y

pub in-units : (f : Format) (y : Float) → T (fits f y) → T (finite y) → InUnits f y
in-units f nan h t = absurd t
in-units f (inf s) h t = absurd t
in-units f (fin s zero e) h t = record { m = 0; j = 0; short = pow_pos (prec f); is = none (up e) (2 ^ low f) (down e) }
  where
    none : (a b c : ℕ) → 0 * a * b ≡ 0 * 1 * c
    none a b c = simp zero-mul
in-units f (fin s (suc m) e) h t =
    let g = fitting f s m e h in
    let u = unit e (low f) g.fine in
    record {
      m = suc m;
      j = u.0;
      short = g.short;
      is = mul_assoc (suc m) (up e) (2 ^ low f) ∙ ap (λ (z : ℕ). suc m * z) u.1 ∙ sym (mul_assoc (suc m) (2 ^ u.0) (down e));
    }

-- the next value of the format above q * 2 ^ k is suc q * 2 ^ k
next-value : (f : Format) (m j k q : ℕ) → m < 2 ^ prec f → hid f ≤ q → q * 2 ^ k < m * 2 ^ j → suc q * 2 ^ k ≤ m * 2 ^ j
next-value f m j k q h g l = go (leb k j) (leb→le k j) (nleb→lt k j)
  where
    go : (b : Bool) → (T b → k ≤ j) → (T (not b) → j < k) → suc q * 2 ^ k ≤ m * 2 ^ j
    go true a b =
        let e : m * 2 ^ j ≡ m * 2 ^ (j - k) * 2 ^ k = ap (λ (z : ℕ). m * 2 ^ z) (sym (back j k (a tt))) ∙ ap (λ (z : ℕ). m * z) (pow-add 2 (j - k) k) ∙ sym (mul_assoc m (2 ^ (j - k)) (2 ^ k)) in
        subst (λ (z : ℕ). suc q * 2 ^ k ≤ z) (sym e) (mul-le-mul_right (2 ^ k) (lt_of_mul-lt-mul_right (2 ^ k) (subst (λ (z : ℕ). q * 2 ^ k < z) e l)))
    go false a b =
        absurd
        (not-le_of_lt l
        (le_trans (le_of_lt (mul-lt-mul_of_pos_right h (pow_pos j)))
        (subst (λ (z : ℕ). z ≤ q * 2 ^ k) (ap (λ (z : ℕ). hid f * z) (pow-succ' 2 j) ∙ sym (mul_assoc (hid f) 2 (2 ^ j)) ∙ ap (λ (z : ℕ). z * 2 ^ j) (sym (two-hid f))) (mul-le-mul g (pow_mono (b tt))))))

-- ---- the root of N lies between A and B, between which there is no value Y
pub doubled : (a : ℕ) → (a + a) * (a + a) ≡ a * a * 4
doubled a = simp (mul-add, add-mul) (omega arith)

module _ (A B N Y : ℕ) (reaches : A * A ≤ N) (passes : N < B * B) (next : A < Y → B ≤ Y) where
  down-above : N * 4 < (A + B) * (A + B) → A < Y → N * 4 < (A + Y) * (A + Y)
  down-above h l =
      let g : A + B ≤ A + Y = omega (arith, next l) in
      lt_of_lt_of_le h (mul-le-mul g g)

  down-below : Y < A → (A + Y) * (A + Y) < N * 4
  down-below l = lt_of_lt_of_le (square-lt (A + Y) (A + A) (omega arith)) (le_trans (le_of_eq (doubled A)) (mul-le-mul_right 4 reaches))

  up_above : B < Y → N * 4 < (B + Y) * (B + Y)
  up_above l = lt_of_lt_of_le (mul-lt-mul_of_pos_right passes (zero-lt-suc 3)) (le_trans (le_of_eq (sym (doubled B))) (le_of_lt (square-lt (B + B) (B + Y) (omega arith))))

  up-below : (A + B) * (A + B) < N * 4 → Y < B → (B + Y) * (B + Y) < N * 4
  up-below h l =
      let y : Y ≤ A = le_of_suc-le-suc (lt_of_not-le (λ (g : A < Y). not-le_of_lt l (next g))) in
      let g : B + Y ≤ A + B = omega arith in
      lt_of_le_of_lt (mul-le-mul g g) h

-- ---- from units to the fractions a / c of x, b / g of the result and p / q of another value: L of the units are 1
module _ (a c b g p q L N R Y : ℕ) (C : 0 < c) (G : 0 < g) (Q : 0 < q) (P : 0 < L) (x : a * (L * L) ≡ N * c) (r : b * L ≡ R * g) (y : p * L ≡ Y * q) where
  whole-x : 4 * a * (g * q * (g * q)) * (L * L) ≡ N * 4 * (c * (g * q * (g * q)))
  whole-x = mix a (L * L) (g * q * (g * q)) ∙ ap (λ (z : ℕ). z * (4 * (g * q * (g * q)))) x ∙ mix' N c (g * q * (g * q))
    where
      mix : (s t w : ℕ) → 4 * s * w * t ≡ s * t * (4 * w)
      mix s t w = simp (mul_assoc, mul_comm, mul_left_comm)

      mix' : (s t w : ℕ) → s * t * (4 * w) ≡ s * 4 * (t * w)
      mix' s t w = simp (mul_assoc, mul_comm, mul_left_comm)

  whole-r : b * q * L ≡ R * (g * q)
  whole-r = mul_right_comm b q L ∙ ap (λ (z : ℕ). z * q) r ∙ mul_assoc R g q

  whole-y : p * g * L ≡ Y * (g * q)
  whole-y = mul_right_comm p g L ∙ ap (λ (z : ℕ). z * g) y ∙ mul_assoc Y q g ∙ ap (λ (z : ℕ). Y * z) (mul_comm q g)

  whole_sum : (b * q + p * g) * (b * q + p * g) * c * (L * L) ≡ (R + Y) * (R + Y) * (c * (g * q * (g * q)))
  whole_sum = mix (b * q + p * g) c L ∙ ap (λ (z : ℕ). z * z * c) (add-mul (b * q) (p * g) L ∙ ap (λ (z : ℕ). z + p * g * L) whole-r ∙ ap (λ (z : ℕ). R * (g * q) + z) whole-y ∙ sym (add-mul R Y (g * q))) ∙ mix' (R + Y) (g * q) c
    where
      mix : (s t w : ℕ) → s * s * t * (w * w) ≡ s * w * (s * w) * t
      mix s t w = simp (mul_assoc, mul_comm, mul_left_comm)

      mix' : (s t w : ℕ) → s * t * (s * t) * w ≡ s * s * (w * (t * t))
      mix' s t w = simp (mul_assoc, mul_comm, mul_left_comm)

  pos : 0 < c * (g * q * (g * q))
  pos = mul-pos C (mul-pos (mul-pos G Q) (mul-pos G Q))

  order-up : b * q < p * g → R < Y
  order-up h = lt_of_mul-lt-mul_right (g * q) (subst (λ (z : ℕ). z < Y * (g * q)) whole-r (subst (λ (z : ℕ). b * q * L < z) whole-y (mul-lt-mul_of_pos_right h P)))

  order-down : p * g < b * q → Y < R
  order-down h = lt_of_mul-lt-mul_right (g * q) (subst (λ (z : ℕ). z < R * (g * q)) whole-y (subst (λ (z : ℕ). p * g * L < z) whole-r (mul-lt-mul_of_pos_right h P)))

  below-middle : N * 4 < (R + Y) * (R + Y) → 4 * a * (g * q * (g * q)) < (b * q + p * g) * (b * q + p * g) * c
  below-middle h =
      lt_of_mul-lt-mul_right (L * L)
      (subst (λ (z : ℕ). z < (b * q + p * g) * (b * q + p * g) * c * (L * L)) (sym whole-x) (subst (λ (z : ℕ). N * 4 * (c * (g * q * (g * q))) < z) (sym whole_sum) (mul-lt-mul_of_pos_right h pos)))

  above-middle : (R + Y) * (R + Y) < N * 4 → (b * q + p * g) * (b * q + p * g) * c < 4 * a * (g * q * (g * q))
  above-middle h =
      lt_of_mul-lt-mul_right (L * L)
      (subst (λ (z : ℕ). z < 4 * a * (g * q * (g * q)) * (L * L)) (sym whole_sum) (subst (λ (z : ℕ). (R + Y) * (R + Y) * (c * (g * q * (g * q))) < z) (sym whole-x) (mul-lt-mul_of_pos_right h pos)))

-- R units are nearest to the root of N where they are nearer than each other number of units that the format has
abbrev Nearer : Format → ℕ → ℕ → Type 0
Nearer f N R = (m j : ℕ) → m < 2 ^ prec f → (R < m * 2 ^ j → N * 4 < (R + m * 2 ^ j) * (R + m * 2 ^ j)) × (m * 2 ^ j < R → (R + m * 2 ^ j) * (R + m * 2 ^ j) < N * 4)

nearest-of : (f : Format) (x r : Float) (N R : ℕ) → num x * (2 ^ low f * 2 ^ low f) ≡ N * den x → HasValue r false R (2 ^ low f) → 0 < R → T (fits f r) → Nearer f N R → NearestRoot f x r
nearest-of f x r N R e v P t near =
    let L = 2 ^ low f in
    let w = value→cross r R L v in
    record {
      number = positive_of_value r R L v P;
      held = t;
      above =
          λ y h k l.
          let u = in-units f y h k in
          let Y = u.m * 2 ^ u.j in
          below-middle (num x) (den x) (num r) (den r) (num y) (den y) L N R Y (den_pos x) (den_pos r) (den_pos y) (pow_pos (low f)) e w u.is
          ((near u.m u.j u.short).0 (order-up (num x) (den x) (num r) (den r) (num y) (den y) L N R Y (den_pos x) (den_pos r) (den_pos y) (pow_pos (low f)) e w u.is l));
      below =
          λ y h k l.
          let u = in-units f y h k in
          let Y = u.m * 2 ^ u.j in
          above-middle (num x) (den x) (num r) (den r) (num y) (den y) L N R Y (den_pos x) (den_pos r) (den_pos y) (pow_pos (low f)) e w u.is
          ((near u.m u.j u.short).1 (order-down (num x) (den x) (num r) (den r) (num y) (den y) L N R Y (den_pos x) (den_pos r) (den_pos y) (pow_pos (low f)) e w u.is l));
    }

-- ---- THE THEOREM: `sqrt f x` is finite and the one value of the format nearest to the exact root, for every x of the format that is finite and above zero
low-squares : (f : Format) → hid f * hid f ≤ 2 ^ low f
low-squares binary32 = lit≤ tt
low-squares binary64 = lit≤ tt

far-top : (f : Format) → 4 * 2 ^ low f ≤ overflow f
far-top binary32 = lit≤ tt
far-top binary64 = lit≤ tt

pub below_top : (f : Format) (x : Float) → T (fits f x) → T (positive x) → num x < 2 ^ suc (emax f) * den x
below_top f nan h p = absurd p
below_top f (inf s) h p = absurd p
below_top f (fin true m e) h p = absurd p
below_top f (fin false zero e) h p = absurd p
below_top f (fin false (suc m) e) h p = (fitting f false m e h).small

middle-sum : (q w : ℕ) → (2 * q + 1) * w ≡ q * w + suc q * w
middle-sum q w = simp (add-mul, suc-mul, mul_assoc) (omega arith)

-- the root of n units is far from the end of the format's range
not-over : (A n L O : ℕ) → A * A ≤ n * L → n < O → 4 * L ≤ O → A + A < O
not-over A n L O h k g =
    lt-of-squares (A + A) O
    (lt_of_le_of_lt
    (le_trans (le_of_eq (doubled A))
    (le_trans (mul-le-mul_right 4 h) (le_trans (le_of_eq (mul_assoc n L 4 ∙ ap (λ (z : ℕ). n * z) (mul_comm L 4))) (mul-le-mul_left n g))))
    (mul-lt-mul_of_pos_right k (lt_of_le_of_lt zero-le k)))

under_top : (a c n L E : ℕ) → a * L ≡ n * c → a < E * c → 0 < L → n < L * E
under_top a c n L E h k P =
    lt_of_mul-lt-mul_right c
    (subst (λ (z : ℕ). z < L * E * c) h (subst (λ (z : ℕ). a * L < z) (mul_comm (E * c) L ∙ sym (mul_assoc L E c)) (mul-lt-mul_of_pos_right k P)))

module _ (f : Format) (x : Float) (m j k q : ℕ) (p : T (positive x)) (short : m < 2 ^ prec f) (v : num x * 2 ^ low f ≡ m * 2 ^ j * den x) (small : m * 2 ^ j < overflow f) (c : Cut f (m * 2 ^ j * 2 ^ low f) k q) where
  nearest-is : (r : ℕ) → q ≤ r → r ≤ suc q → sqrt f x ≡ units f false r k → Nearer f (m * 2 ^ j * 2 ^ low f) (r * 2 ^ k) → NearestRoot f x (sqrt f x)
  nearest-is r a b e near =
      let one : 1 ≤ q = le_trans (pow_pos (prec f - 1)) c.from in
      let under : r * 2 ^ k < overflow f =
      lt_of_le_of_lt (le_trans (mul-le-mul_right (2 ^ k) (twice q r one b)) (le_of_eq (add-mul q q (2 ^ k)))) (not-over (q * 2 ^ k) (m * 2 ^ j) (2 ^ low f) (overflow f) c.reaches small (far-top f)) in
      subst (λ (z : Float). NearestRoot f x z) (sym e)
      (nearest-of f x (units f false r k) (m * 2 ^ j * 2 ^ low f) (r * 2 ^ k) (squared-units (num x) (2 ^ low f) (2 ^ low f * 2 ^ low f) (m * 2 ^ j) (den x) refl v)
      (units_val f false r k under) (mul-pos (le_trans one a) (pow_pos k)) (units-fits f false r k (le_trans b c.under) under) near)
    where
      twice : (x y : ℕ) → 1 ≤ x → y ≤ suc x → y ≤ x + x
      twice x y h k = omega arith

  next : (i l : ℕ) → i < 2 ^ prec f → q * 2 ^ k < i * 2 ^ l → suc q * 2 ^ k ≤ i * 2 ^ l
  next i l s = next-value f i l k q s c.from

  sum-form : middles q k * middles q k ≡ (q * 2 ^ k + suc q * 2 ^ k) * (q * 2 ^ k + suc q * 2 ^ k)
  sum-form = ap (λ (z : ℕ). z * z) (middle-sum q (2 ^ k))

  nearest-down : m * 2 ^ j * 2 ^ low f * 4 < middles q k * middles q k → NearestRoot f x (sqrt f x)
  nearest-down h =
      nearest-is q (le_refl q) (le-suc q) (sqrt-down f x (m * 2 ^ j) k q p v c h)
      (λ i l s. (
        down-above (q * 2 ^ k) (suc q * 2 ^ k) (m * 2 ^ j * 2 ^ low f) (i * 2 ^ l) c.reaches c.passes (next i l s) (subst (λ (z : ℕ). m * 2 ^ j * 2 ^ low f * 4 < z) sum-form h),
        down-below (q * 2 ^ k) (suc q * 2 ^ k) (m * 2 ^ j * 2 ^ low f) (i * 2 ^ l) c.reaches c.passes (next i l s),
      ))

  nearest-up : middles q k * middles q k < m * 2 ^ j * 2 ^ low f * 4 → NearestRoot f x (sqrt f x)
  nearest-up h =
      nearest-is (suc q) (le-suc q) (le_refl (suc q)) (sqrt-up f x (m * 2 ^ j) k q p v c h)
      (λ i l s. (
        up_above (q * 2 ^ k) (suc q * 2 ^ k) (m * 2 ^ j * 2 ^ low f) (i * 2 ^ l) c.reaches c.passes (next i l s),
        up-below (q * 2 ^ k) (suc q * 2 ^ k) (m * 2 ^ j * 2 ^ low f) (i * 2 ^ l) c.reaches c.passes (next i l s) (subst (λ (z : ℕ). z < m * 2 ^ j * 2 ^ low f * 4) sum-form h),
      ))

  never-tie : m * 2 ^ j * 2 ^ low f * 4 ≡ middles q k * middles q k → ⊥
  never-tie e = no_tie f m (j + low f) k q short c.from (ap (λ (z : ℕ). z * 4) (ap (λ (z : ℕ). m * z) (pow-add 2 j (low f)) ∙ sym (mul_assoc m (2 ^ j) (2 ^ low f))) ∙ e)

  nearest-root : NearestRoot f x (sqrt f x)
  nearest-root = go (leb (m * 2 ^ j * 2 ^ low f * 4) (middles q k * middles q k)) (leb→le (m * 2 ^ j * 2 ^ low f * 4) (middles q k * middles q k)) (nleb→lt (m * 2 ^ j * 2 ^ low f * 4) (middles q k * middles q k))
    where
      go : (b : Bool) → (T b → m * 2 ^ j * 2 ^ low f * 4 ≤ middles q k * middles q k) → (T (not b) → middles q k * middles q k < m * 2 ^ j * 2 ^ low f * 4) → NearestRoot f x (sqrt f x)
      go true a b = nearest-down (lt_of_le-ne (a tt) never-tie)
      go false a b = nearest-up (b tt)

pub sqrt-nearest : (f : Format) (x : Float) → T (fits f x) → T (positive x) → NearestRoot f x (sqrt f x)
sqrt-nearest f x h p =
    let u = in-units f x h (positive-finite x p) in
    let n = u.m * 2 ^ u.j in
    let some : 0 < n = first_pos n (den x) (subst (λ (z : ℕ). 0 < z) u.is (mul-pos (value_pos x (num x) (den x) p (den_pos x) (own_value x p)) (pow_pos (low f)))) in
    let N = n * 2 ^ low f in
    let k = size (root N) - prec f in
    nearest-root f x u.m u.j k (root N / 2 ^ k) p u.short u.is
    (subst (λ (z : ℕ). n < z) (sym (pow-add 2 (low f) (suc (emax f)))) (under_top (num x) (den x) n (2 ^ low f) (2 ^ suc (emax f)) u.is (below_top f x h p) (pow_pos (low f))))
    (cut-exists f N (le_trans (low-squares f) (subst (λ (z : ℕ). z ≤ N) (one-mul (2 ^ low f)) (mul-le-mul_right (2 ^ low f) some))))

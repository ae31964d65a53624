-- One rounding, counted in whole steps of 2 ^ -u: a fraction below 2 ^ (prec + e) steps moves by at most half of 2 ^ e of them and stays on the steps
-- (`whole`, `many`), and one of fewer than 2 ^ prec does not move (`exact`). By these the difference of two values on the steps (`difference`,
-- `difference-of`). A multiplication by a power of two is exact (`shifted`). Over the format.
use mathlib.Core.Path.{◌≡◌, refl, sym, ap, ◌∙◌, subst}
use Prim.Native.Nat.{ℕ, zero, suc, ◌+◌, ◌-◌, ◌*◌, ◌/◌, ◌^◌, ◌≤◌, ◌<◌}
use native.Mathlib.Nat.{le_trans, le_of_eq, le_of_lt, lt_of_lt_of_le, lt_of_le_of_lt, lt_of_not-le, not-le_of_lt, zero-mul, mul_assoc, mul_comm, mul_left_comm, mul_right_comm, mul-pos, mul-sub, add-mul, mul-le-mul, mul-le-mul_left, mul-le-mul_right, mul-lt-mul_of_pos_right, lt_of_mul-lt-mul_right, le_of_mul-le-mul_right, eq_of_mul-eq-mul_right, le-div_iff_mul-le, div-lt_iff_lt-mul, le_dest}
use native.Mathlib.Omega.{arith}
use mathlib.Core.Bool.{Bool, true, false, not, cond}
use lib.Dec.{T, ltb, ltb→lt, nltb→le}
use lib.Pow.{pow-add, pow_pos, pow_mono, pow-lt}
use lib.Ieee.{Float, nan, inf, fin, Format, prec, emax, low, up, down, size, hid, round, fits, sum, sub}
use lib.Ieee.Digits.{size-lt, size-le}
use lib.Ieee.Fits.{down_pos, two, two-le_pos, reach}
use lib.Ieee.Order.{drop, kept}
use lib.Ieee.Exact.{HasValue, round_exact}
use lib.Ieee.Scale.{grid, overflow, round_same}
use Rattle.floats.proofs.Value.{unit, fitting, zero_of}
use Rattle.floats.proofs.Half.{Near, grid-near, round_val}
use Rattle.floats.proofs.Pattern.{closest-upto}
use Rattle.floats.proofs.Fractions.{scale-add, sub-value}
use Rattle.pixel_response.specs.Near.{ByAtMost}

-- ---- a value by another fraction of the same size
pub value_same : (x : Float) (s : Bool) (a c b d : ℕ) → 0 < c → a * d ≡ b * c → HasValue x s a c → HasValue x s b d
value_same nan s a c b d C e h = h
value_same (inf t) s a c b d C e h = h
value_same (fin t m g) s a c b d C e h = (
  h.0,
  eq_of_mul-eq-mul_right c C (m * up g * d) (b * down g)
      (mul_right_comm (m * up g) d c ∙ ap (λ (z : ℕ). z * d) h.1 ∙ mul_right_comm a (down g) d ∙ ap (λ (z : ℕ). z * down g) e ∙ mul_right_comm b c (down g)),
)

-- ---- the rounded fraction n / (c * 2 ^ u): a whole number of steps, within half of 2 ^ e of them
pub record Rounded (x : Float) (s : Bool) (n c u e : ℕ) : Type 0 where
  pub steps : ℕ
  pub value : HasValue x s steps (2 ^ u)
  pub near : Near (steps * c) n (c * 2 ^ e)

near-self : (q n b : ℕ) → q ≡ n → Near q n b
near-self q n b e = record { under = omega arith; over = omega arith }

near-wider : (q n b d : ℕ) → b ≤ d → Near q n b → Near q n d
near-wider q n b d h k = record { under = omega arith; over = omega arith }

twice-le : (x y b l : ℕ) → 0 < l → 2 * (x * l) ≤ 2 * (y * l) + b * l → 2 * x ≤ 2 * y + b
twice-le x y b l L h =
    le_of_mul-le-mul_right
    (le_trans (le_of_eq (mul_assoc 2 x l)) (le_trans h (le_of_eq (ap (λ (z : ℕ). z + b * l) (sym (mul_assoc 2 y l)) ∙ sym (add-mul (2 * y) b l))))) L

near-divide : (q n b l : ℕ) → 0 < l → Near (q * l) (n * l) (b * l) → Near q n b
near-divide q n b l L h = record { under = twice-le q n b l L h.under; over = twice-le n q b l L h.over }

spare : (z p e j : ℕ) → z ≤ p + e + j → z - p ≤ j + e
spare z p e j h = omega arith

at_least : (z p j : ℕ) → 0 < p → p - 1 + j < z → j ≤ z - p
at_least z p j P h = omega arith

pow-less : (i j : ℕ) → 2 ^ i < 2 ^ j → i < j
pow-less i j h = lt_of_not-le (λ (g : j ≤ i). not-le_of_lt h (pow_mono g))

in-range : (p x u j l : ℕ) → p ≤ x → l ≡ u + j → p + j ≤ l + x
in-range p x u j l h k = omega arith

under-range : (p e x u j l : ℕ) → p + e < x → l ≡ u + j → p + e + j < l + x
under-range p e x u j l h k = omega arith

few-left : (t j e : ℕ) → j + t ≤ j + e → t ≤ e
few-left t j e h = omega arith

some : (z p : ℕ) → z ≤ p + (z - p)
some z p = omega arith

fill : (u j l : ℕ) → l ≡ u + j → 2 ^ l ≡ 2 ^ u * 2 ^ j
fill u j l e = ap (λ (z : ℕ). 2 ^ z) e ∙ pow-add 2 u j

refine : (a u j l : ℕ) → l ≡ u + j → a * 2 ^ l ≡ a * 2 ^ u * 2 ^ j
refine a u j l e = ap (λ (z : ℕ). a * z) (fill u j l e) ∙ sym (mul_assoc a (2 ^ u) (2 ^ j))

-- the format's smallest value is 2 ^ -(u + j), so a step is 2 ^ j of those
module _ (f : Format) (u j : ℕ) (split : low f ≡ u + j) (s : Bool) (a c : ℕ) (C : 0 < c) where
  -- a few steps: exact
  pub exact : (m : ℕ) → m < 2 ^ prec f → a * 2 ^ u ≡ m * c → HasValue (round f s a c) s m (2 ^ u)
  exact m h w =
      value_same (round f s a c) s a c m (2 ^ u) C w
      (round_exact f s a c m j C h
      (lt_of_lt_of_le (mul-lt-mul_of_pos_right h (pow_pos j)) (le_trans (le_of_eq (sym (pow-add 2 (prec f) j))) (pow_mono {i = prec f + j} {j = low f + suc (emax f)} (in-range (prec f) (suc (emax f)) u j (low f) (reach f) split))))
      (refine a u j (low f) split ∙ ap (λ (z : ℕ). z * 2 ^ j) w ∙ mul_right_comm m c (2 ^ j)))

module _ (f : Format) (u j e : ℕ) (split : low f ≡ u + j) (room : prec f + e < suc (emax f)) (s : Bool) (a c : ℕ) (C : 0 < c) where
  few : (m : ℕ) → m < 2 ^ prec f → a * 2 ^ u ≡ m * c → Rounded (round f s a c) s (a * 2 ^ u) c u e
  few m h w = record { steps = m; value = exact f u j split s a c C m h w; near = near-self (m * c) (a * 2 ^ u) (c * 2 ^ e) (sym w) }

  -- many: all the digits of the format are in use, and the last of them is a step or more.
  -- `cut` digits are dropped, and the number `digits` is kept
  abbrev cut : ℕ
  cut = drop (prec f) (a * 2 ^ low f) c

  cut_most : a * 2 ^ u < 2 ^ (prec f + e) * c → cut ≤ j + e
  cut_most h =
      spare (size (a * 2 ^ low f / c)) (prec f) e j
      (size-le (a * 2 ^ low f / c) (prec f + e + j)
      ((div-lt_iff_lt-mul C).1
      (subst (λ (z : ℕ). z < 2 ^ (prec f + e + j) * c) (sym (refine a u j (low f) split))
      (subst (λ (z : ℕ). a * 2 ^ u * 2 ^ j < z) (mul_right_comm (2 ^ (prec f + e)) c (2 ^ j) ∙ ap (λ (z : ℕ). z * c) (sym (pow-add 2 (prec f + e) j))) (mul-lt-mul_of_pos_right h (pow_pos j))))))

  cut-least : hid f * c ≤ a * 2 ^ u → j ≤ cut
  cut-least h =
      at_least (size (a * 2 ^ low f / c)) (prec f) j (two-le_pos (prec f) (two f))
      (pow-less (prec f - 1 + j) (size (a * 2 ^ low f / c))
      (lt_of_le_of_lt
      ((le-div_iff_mul-le C).1
      (le_trans (le_of_eq (ap (λ (z : ℕ). z * c) (pow-add 2 (prec f - 1) j) ∙ mul_right_comm (hid f) (2 ^ j) c))
      (le_trans (mul-le-mul_right (2 ^ j) h) (le_of_eq (sym (refine a u j (low f) split))))))
      (size-lt (a * 2 ^ low f / c))))

  abbrev digits : ℕ
  digits = kept (prec f) (a * 2 ^ low f) c

  digits_le : digits ≤ 2 ^ prec f
  digits_le =
      closest-upto (a * 2 ^ low f) (c * 2 ^ cut) (2 ^ prec f) (mul-pos C (pow_pos cut))
      (le_trans
      (le_of_lt ((div-lt_iff_lt-mul C).0 (lt_of_lt_of_le (size-lt (a * 2 ^ low f / c)) (pow_mono {i = size (a * 2 ^ low f / c)} {j = prec f + cut} (some (size (a * 2 ^ low f / c)) (prec f))))))
      (le_of_eq (ap (λ (z : ℕ). z * c) (pow-add 2 (prec f) cut) ∙ mul_assoc (2 ^ prec f) (2 ^ cut) c ∙ ap (λ (z : ℕ). 2 ^ prec f * z) (mul_comm (2 ^ cut) c))))

  module _ (t : ℕ) (is : j + t ≡ cut) (few-more : t ≤ e) where
    grid-is : grid f a c ≡ digits * 2 ^ t * 2 ^ j
    grid-is =
        ap (λ (z : ℕ). digits * z) (ap (λ (z : ℕ). 2 ^ z) (sym is) ∙ pow-add 2 j t ∙ mul_comm (2 ^ j) (2 ^ t))
        ∙ sym (mul_assoc digits (2 ^ t) (2 ^ j))

    grid-small : grid f a c < overflow f
    grid-small =
        lt_of_le_of_lt
        (le_trans (le_of_eq grid-is)
        (le_trans (mul-le-mul_right (2 ^ j) (mul-le-mul digits_le (pow_mono {i = t} {j = e} few-more)))
        (le_of_eq (ap (λ (z : ℕ). z * 2 ^ j) (sym (pow-add 2 (prec f) e)) ∙ sym (pow-add 2 (prec f + e) j)))))
        (pow-lt {i = prec f + e + j} {j = low f + suc (emax f)} (under-range (prec f) e (suc (emax f)) u j (low f) room split))

    step-of-grid : grid f a c * 2 ^ u ≡ digits * 2 ^ t * 2 ^ low f
    step-of-grid =
        ap (λ (z : ℕ). z * 2 ^ u) grid-is
        ∙ mul_assoc (digits * 2 ^ t) (2 ^ j) (2 ^ u)
        ∙ ap (λ (z : ℕ). digits * 2 ^ t * z) (mul_comm (2 ^ j) (2 ^ u) ∙ sym (fill u j (low f) split))

    grid-near-here : Near (digits * 2 ^ t * c * 2 ^ j) (a * 2 ^ u * 2 ^ j) (c * 2 ^ t * 2 ^ j)
    grid-near-here =
        subst (λ (z : ℕ). Near z (a * 2 ^ u * 2 ^ j) (c * 2 ^ t * 2 ^ j)) (ap (λ (z : ℕ). z * c) grid-is ∙ mul_right_comm (digits * 2 ^ t) (2 ^ j) c)
        (subst (λ (z : ℕ). Near (grid f a c * c) z (c * 2 ^ t * 2 ^ j)) (refine a u j (low f) split)
        (subst (λ (z : ℕ). Near (grid f a c * c) (a * 2 ^ low f) z)
        (ap (λ (z : ℕ). c * z) (ap (λ (z : ℕ). 2 ^ z) (sym is) ∙ pow-add 2 j t ∙ mul_comm (2 ^ j) (2 ^ t)) ∙ sym (mul_assoc c (2 ^ t) (2 ^ j)))
        (grid-near f a c C)))

    many-at : Rounded (round f s a c) s (a * 2 ^ u) c u e
    many-at = record {
      steps = digits * 2 ^ t;
      value = value_same (round f s a c) s (grid f a c) (2 ^ low f) (digits * 2 ^ t) (2 ^ u) (pow_pos (low f)) step-of-grid (round_val f s a c grid-small);
      near = near-wider (digits * 2 ^ t * c) (a * 2 ^ u) (c * 2 ^ t) (c * 2 ^ e) (mul-le-mul_left c (pow_mono {i = t} {j = e} few-more))
          (near-divide (digits * 2 ^ t * c) (a * 2 ^ u) (c * 2 ^ t) (2 ^ j) (pow_pos j) grid-near-here);
    }

  pub many : hid f * c ≤ a * 2 ^ u → a * 2 ^ u < 2 ^ (prec f + e) * c → Rounded (round f s a c) s (a * 2 ^ u) c u e
  many h k = go (le_dest (cut-least h)) (cut_most k)
    where
      go : (t : ℕ) × (j + t ≡ cut) → cut ≤ j + e → Rounded (round f s a c) s (a * 2 ^ u) c u e
      go r l = many-at r.0 r.1 (few-left r.0 j e (subst (λ (z : ℕ). z ≤ j + e) (sym r.1) l))

  -- a whole number of steps, however many
  pub whole : (m : ℕ) → a * 2 ^ u ≡ m * c → m < 2 ^ (prec f + e) → Rounded (round f s a c) s (a * 2 ^ u) c u e
  whole m w k = go (ltb m (2 ^ prec f)) (ltb→lt m (2 ^ prec f)) (nltb→le m (2 ^ prec f))
    where
      go : (b : Bool) → (T b → m < 2 ^ prec f) → (T (not b) → 2 ^ prec f ≤ m) → Rounded (round f s a c) s (a * 2 ^ u) c u e
      go true h g = few m (h tt) w
      go false h g =
          many (le_trans (mul-le-mul_right c (le_trans (pow_mono {i = prec f - 1} {j = prec f} (native.Mathlib.Nat.sub-le (prec f) 1)) (g tt))) (le_of_eq (sym w)))
          (subst (λ (z : ℕ). z < 2 ^ (prec f + e) * c) (sym w) (mul-lt-mul_of_pos_right k C))

-- ---- n steps rounded: within half of 2 ^ e
record Moved (x : Float) (s : Bool) (n u e : ℕ) : Type 0 where
  steps : ℕ
  value : HasValue x s steps (2 ^ u)
  near : Near steps n (2 ^ e)

-- plus - minus steps rounded
pub record Difference (x : Float) (plus minus u e : ℕ) : Type 0 where
  pub negative : Bool
  pub steps : ℕ
  pub value : HasValue x negative steps (2 ^ u)
  pub close : ByAtMost (2 ^ e) negative (2 * steps) (2 * plus) (2 * minus)

not-less : (f : Format) (a b c : ℕ) → b ≤ a → sum f false a true b c ≡ round f false (a - b) c
unfolding sum
not-less f a b c h = go (ltb a b) (ltb→lt a b)
  where
    go : (t : Bool) → (T t → a < b) → cond t (round f true (b - a) c) (round f false (a - b) c) ≡ round f false (a - b) c
    go true k = absurd (not-le_of_lt (k tt) h)
    go false k = refl

less : (f : Format) (a b c : ℕ) → a < b → sum f false a true b c ≡ round f true (b - a) c
unfolding sum
less f a b c h = go (ltb a b) (nltb→le a b)
  where
    go : (t : Bool) → (T (not t) → b ≤ a) → cond t (round f true (b - a) c) (round f false (a - b) c) ≡ round f true (b - a) c
    go true k = refl
    go false k = absurd (not-le_of_lt h (k tt))

joined : (f : Format) (a b c : ℕ) → sum f true a true b c ≡ round f true (a + b) c
unfolding sum
joined f a b c = refl

scale-sub : (a b c : ℕ) → (a * c - b * c) * c ≡ (a - b) * (c * c)
scale-sub a b c = ap (λ (z : ℕ). z * c) (ap (λ (z : ℕ). z - b * c) (mul_comm a c) ∙ ap (λ (z : ℕ). c * a - z) (mul_comm b c) ∙ sym (mul-sub c a b) ∙ mul_comm c (a - b)) ∙ mul_assoc (a - b) c c

module _ (f : Format) (x y : Float) (a b c : ℕ) (C : 0 < c) (k : HasValue y false b c) where
  pub sub-above : HasValue x false a c → b ≤ a → sub f x y ≡ round f false (a - b) c
  sub-above h l =
      sub-value f x y false false a c b c C C h k
      ∙ not-less f (a * c) (b * c) (c * c) (mul-le-mul_right c l)
      ∙ round_same f false (a * c - b * c) (c * c) (a - b) c (mul-pos C C) C (scale-sub a b c)

  sub-below : HasValue x false a c → a < b → sub f x y ≡ round f true (b - a) c
  sub-below h l =
      sub-value f x y false false a c b c C C h k
      ∙ less f (a * c) (b * c) (c * c) (mul-lt-mul_of_pos_right l C)
      ∙ round_same f true (b * c - a * c) (c * c) (b - a) c (mul-pos C C) C (scale-sub b a c)

  sub-negative : HasValue x true a c → sub f x y ≡ round f true (a + b) c
  sub-negative h =
      sub-value f x y true false a c b c C C h k
      ∙ joined f (a * c) (b * c) (c * c)
      ∙ round_same f true (a * c + b * c) (c * c) (a + b) c (mul-pos C C) C (scale-add a b c)

within-above : (q a b h : ℕ) → b ≤ a → Near q (a - b) h → ByAtMost h false (2 * q) (2 * a) (2 * b)
within-above q a b h l k = (omega arith, omega arith)

within-below : (q a b h : ℕ) → a < b → Near q (b - a) h → ByAtMost h true (2 * q) (2 * a) (2 * b)
within-below q a b h l k = (omega arith, omega arith)

within-shift : (s : Bool) (q a b plus minus h : ℕ) → ByAtMost 0 false a plus minus → ByAtMost h s (2 * q) (2 * a) (2 * b) → ByAtMost h s (2 * q) (2 * plus) (2 * (minus + b))
within-shift false q a b plus minus h w k = (omega arith, omega arith)
within-shift true q a b plus minus h w k = (omega arith, omega arith)

within-joined : (q a b plus minus h : ℕ) → ByAtMost 0 true a plus minus → Near q (a + b) h → ByAtMost h true (2 * q) (2 * plus) (2 * (minus + b))
within-joined q a b plus minus h w k = (omega arith, omega arith)

module _ (f : Format) (u j e : ℕ) (split : low f ≡ u + j) (room : prec f + e < suc (emax f)) where
  moved : (s : Bool) (n : ℕ) → n < 2 ^ (prec f + e) → Moved (round f s n (2 ^ u)) s n u e
  moved s n h =
      let r = whole f u j e split room s n (2 ^ u) (pow_pos u) n refl h in
      record {
        steps = r.steps;
        value = r.value;
        near = near-divide r.steps n (2 ^ e) (2 ^ u) (pow_pos u) (subst (λ (z : ℕ). Near (r.steps * 2 ^ u) (n * 2 ^ u) z) (mul_comm (2 ^ u) (2 ^ e)) r.near);
      }

  pub difference : (x y : Float) (a b : ℕ) → HasValue x false a (2 ^ u) → HasValue y false b (2 ^ u) → a < 2 ^ (prec f + e) → b < 2 ^ (prec f + e) → Difference (sub f x y) a b u e
  difference x y a b h k A B = go (ltb a b) (ltb→lt a b) (nltb→le a b)
    where
      go : (t : Bool) → (T t → a < b) → (T (not t) → b ≤ a) → Difference (sub f x y) a b u e
      go true l g =
          let r = moved true (b - a) (lt_of_le_of_lt (native.Mathlib.Nat.sub-le b a) B) in
          record {
            negative = true;
            steps = r.steps;
            value = subst (λ (z : Float). HasValue z true r.steps (2 ^ u)) (sym (sub-below f x y a b (2 ^ u) (pow_pos u) k h (l tt))) r.value;
            close = within-below r.steps a b (2 ^ e) (l tt) r.near;
          }
      go false l g =
          let r = moved false (a - b) (lt_of_le_of_lt (native.Mathlib.Nat.sub-le a b) A) in
          record {
            negative = false;
            steps = r.steps;
            value = subst (λ (z : Float). HasValue z false r.steps (2 ^ u)) (sym (sub-above f x y a b (2 ^ u) (pow_pos u) k h (g tt))) r.value;
            close = within-above r.steps a b (2 ^ e) (g tt) r.near;
          }

  -- where x is plus - minus steps exactly
  pub difference-of : (x y : Float) (s : Bool) (a b plus minus : ℕ) → HasValue x s a (2 ^ u) → ByAtMost 0 s a plus minus → HasValue y false b (2 ^ u) → a + b < 2 ^ (prec f + e)
      → Difference (sub f x y) plus (minus + b) u e
  difference-of x y false a b plus minus h w k l =
      let r = difference x y a b h k (lt_of_le_of_lt (native.Mathlib.Nat.le-add_right a b) l) (lt_of_le_of_lt (native.Mathlib.Nat.le-add_left b a) l) in
      record { negative = r.negative; steps = r.steps; value = r.value; close = within-shift r.negative r.steps a b plus minus (2 ^ e) w r.close }
  difference-of x y true a b plus minus h w k l =
      let r = moved true (a + b) l in
      record {
        negative = true;
        steps = r.steps;
        value = subst (λ (z : Float). HasValue z true r.steps (2 ^ u)) (sym (sub-negative f x y a b (2 ^ u) (pow_pos u) k h)) r.value;
        close = within-joined r.steps a b plus minus (2 ^ e) w r.near;
      }

-- ---- a multiplication by a power of two is exact
whole_of : (m u d j l a c t : ℕ) → u * l ≡ j * d → m * u * c ≡ a * d → 0 < d → a * t * l ≡ m * (j * t) * c
whole_of m u d j l a c t e h D =
    let p : a * t * l * d ≡ m * u * c * (l * t) = simp (mul_assoc, mul_comm, mul_left_comm) (simp (mul_assoc, mul_comm, mul_left_comm) at (ap (λ (z : ℕ). z * (l * t)) (sym h))) in
    let q : m * u * c * (l * t) ≡ m * (j * t) * c * d = simp (mul_assoc, mul_comm, mul_left_comm) (simp (mul_assoc, mul_comm, mul_left_comm) at (ap (λ (z : ℕ). m * c * t * z) e)) in
    eq_of_mul-eq-mul_right d D (a * t * l) (m * (j * t) * c) (p ∙ q)

pub shifted : (f : Format) (x : Float) (s : Bool) (a c t : ℕ) → T (fits f x) → HasValue x s a c → 0 < c → a * 2 ^ t < 2 ^ suc (emax f) * c
    → HasValue (round f s (a * 2 ^ t) c) s (a * 2 ^ t) c
shifted f nan s a c t p h C l = absurd h
shifted f (inf v) s a c t p h C l = absurd h
shifted f (fin v zero g) s a c t p h C l =
    round_exact f s (a * 2 ^ t) c 0 0 C (pow_pos (prec f)) (pow_pos (low f + suc (emax f)))
    (ap (λ (z : ℕ). z * 2 ^ t * 2 ^ low f) (zero_of a (down g) (up g * c) (down_pos g) (simp mul_assoc at h.1)) ∙ ap (λ (z : ℕ). z * 2 ^ low f) (zero-mul (2 ^ t)) ∙ zero-mul (2 ^ low f) ∙ sym (zero-mul c))
shifted f (fin v (suc m) g) s a c t p h C l =
    let k = unit g (low f) (fitting f v m g p).fine in
    let w : a * 2 ^ t * 2 ^ low f ≡ suc m * 2 ^ (k.0 + t) * c = whole_of (suc m) (up g) (down g) (2 ^ k.0) (2 ^ low f) a c (2 ^ t) k.1 h.1 (down_pos g) ∙ ap (λ (z : ℕ). suc m * z * c) (sym (pow-add 2 k.0 t)) in
    round_exact f s (a * 2 ^ t) c (suc m) (k.0 + t) C (fitting f v m g p).short
    (lt_of_mul-lt-mul_right c
    (subst (λ (z : ℕ). z < 2 ^ (low f + suc (emax f)) * c) w
    (lt_of_lt_of_le (mul-lt-mul_of_pos_right l (pow_pos (low f))) (le_of_eq (mul_right_comm (2 ^ suc (emax f)) c (2 ^ low f) ∙ ap (λ (z : ℕ). z * c) (mul_comm (2 ^ suc (emax f)) (2 ^ low f) ∙ sym (pow-add 2 (low f) (suc (emax f)))))))))
    w

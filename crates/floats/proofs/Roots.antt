-- Square roots, over the format: `root n` is the greatest number whose square is at most n (`root_is`, `root-unique`).
-- For the code: `root-known`, what `round_root` is once the digits that the format keeps are known, and `rooted`, from bit pattern to bit pattern.
-- There is never a tie (`no_tie`): the square of a middle is an odd number of more digits than the format keeps, times a power of two.
use Rattle.std.proofs.Common.{◌≡◌, ℕ, zero, suc, ◌+◌, ◌-◌, ◌*◌, ◌/◌, ◌%◌, ◌^◌, ◌<◌, ◌≤◌, Bool, true, false, cond, not, T, leb, ◌⊎◌, sym, refl, ap, ◌∙◌, subst, inl, zero-le, le_trans, le_of_eq, le_refl, lt_of_lt_of_le, le_of_suc-le-suc, lt_of_le_of_lt, le_of_lt, mul-le-mul_right, zero-lt-suc, mul_assoc, lt-suc_self, suc-mul, mul_comm, div-lt_iff_lt-mul, add-mul, mul-le-mul, le_antisymm, mul-le-mul_left, mul-lt-mul_of_pos_right, mul-pos, pow-suc, lt_of_not-le, le-div_iff_mul-le, zero-add, mul-one, mul-suc, mul-add, mul_right_comm, not-le_of_lt, le-mul_of_pos_right, div-mul-le_self, mul-div_cancel, mul_left_comm, le-add_left, add-one, arith, lit≤, le→leb, leb→le, pow_pos, pow_mono, pow-add}
use Prim.Native.Nat.{compare, Ordering}
use native.Mathlib.Nat.{two-pow-succ, eq_of_mul-eq-mul_right, mul-mul-mul_comm, le-suc}
use lib.Dec.{nleb→lt}
use lib.Arith.{lt→nleb}
use lib.Ieee.{Float, nan, inf, fin, Format, binary32, prec, low, size, nearest, units, hid, of_bits}
use lib.Ieee.Digits.{size-lt, size_reaches}
use lib.Ieee.Fits.{two, kept-lt}
use lib.Ieee.Bits.{cond_no}
use lib.Ieee.Exact.{HasValue, units_val}
use lib.Ieee.Scale.{overflow}
use lib.Ieee.Positive.{num, den, den_pos, positive, positive_of_value, value→cross}
use Rattle.floats.specs.Root.{root_from, root, nearer_root, round_root, sqrt}
use Rattle.floats.specs.Steps.{Rooted, nearest_root}
use Rattle.floats.proofs.Half.{compare-lt, compare-gt}
use Rattle.floats.proofs.Pattern.{size-drop, two-hid, units-pattern}

-- ---- squares
pub lt-of-squares : (a b : ℕ) → a * a < b * b → a < b
lt-of-squares a b h = lt_of_not-le (λ (g : b ≤ a). not-le_of_lt h (mul-le-mul g g))

pub square-lt : (a b : ℕ) → a < b → a * a < b * b
square-lt a b h = lt_of_lt_of_le (step a) (mul-le-mul h h)
  where
    step : (x : ℕ) → x * x < suc x * suc x
    step x = simp (suc-mul, mul-suc) (omega arith)

-- ---- the whole root
abbrev pub IsRoot : ℕ → ℕ → Type 0
IsRoot n r = (r * r ≤ n) × (n < suc r * suc r)

root_below : (n q r : ℕ) → q * q ≤ n → n < suc r * suc r → q ≤ r
root_below n q r h k = le_of_suc-le-suc (lt-of-squares q (suc r) (lt_of_le_of_lt h k))

root_from-is : (d n r : ℕ) → r * r ≤ n → n < (r + 2 ^ d) * (r + 2 ^ d) → IsRoot n (root_from d n r)
unfolding root_from
root_from-is zero n r h k = (h, subst (λ (z : ℕ). n < z * z) (add-one r) k)
root_from-is (suc d) n r h k = go (leb ((r + 2 ^ d) * (r + 2 ^ d)) n) (leb→le ((r + 2 ^ d) * (r + 2 ^ d)) n) (nleb→lt ((r + 2 ^ d) * (r + 2 ^ d)) n) (root_from-is d n)
  where
    twice : (x p z : ℕ) → z ≡ p + p → x + z ≡ x + p + p
    twice x p z e = omega arith

    go : (b : Bool) → (T b → (r + 2 ^ d) * (r + 2 ^ d) ≤ n) → (T (not b) → n < (r + 2 ^ d) * (r + 2 ^ d))
        → ((s : ℕ) → s * s ≤ n → n < (s + 2 ^ d) * (s + 2 ^ d) → IsRoot n (root_from d n s)) → IsRoot n (root_from d n (cond b (r + 2 ^ d) r))
    go true a b ih = ih (r + 2 ^ d) (a tt) (subst (λ (z : ℕ). n < z * z) (twice r (2 ^ d) (2 ^ suc d) (two-pow-succ d)) k)
    go false a b ih = ih r h (b tt)

pub root_is : (n : ℕ) → IsRoot n (root n)
unfolding root
root_is n =
    root_from-is (size n) n 0 zero-le
    (subst (λ (z : ℕ). n < z * z) (sym (zero-add (2 ^ size n))) (lt_of_lt_of_le (size-lt n) (le-mul_of_pos_right (2 ^ size n) (pow_pos (size n)))))

pub root-unique : (n q : ℕ) → IsRoot n q → root n ≡ q
root-unique n q h = le_antisymm (root_below n (root n) q (root_is n).0 h.1) (root_below n q (root n) h.0 (root_is n).1)

pub root-square : (n q : ℕ) → q ≡ root n → q * q ≤ n
root-square n q e = subst (λ (z : ℕ). z * z ≤ n) (sym e) (root_is n).0

pub root-under : (n q b : ℕ) → q ≡ root n → n < b * b → q < b
root-under n q b e h = lt-of-squares q b (lt_of_le_of_lt (root-square n q e) h)

-- ---- `round_root` where the root of N, which is what it takes the root of, keeps the digits q and drops k
pub record Cut (f : Format) (N k q : ℕ) : Type 0 where
  pub from : hid f ≤ q
  pub under : q < 2 ^ prec f
  pub reaches : q * 2 ^ k * (q * 2 ^ k) ≤ N
  pub passes : N < suc q * 2 ^ k * (suc q * 2 ^ k)

-- twice the middle of q * 2 ^ k and the next
abbrev pub middles : ℕ → ℕ → ℕ
middles q k = (2 * q + 1) * 2 ^ k

-- `round_root` from its n on
abbrev rest : Format → ℕ → ℕ → ℕ → Float
rest f n den r = nearer_root f n den (size r - prec f) (r / 2 ^ (size r - prec f))

round_root-is : (f : Format) (num den : ℕ) → round_root f num den ≡ rest f (num * 2 ^ (low f + low f)) den (root (num * 2 ^ (low f + low f) / den))
unfolding round_root
round_root-is f num den = refl

nearer_root-is : (f : Format) (n den k q : ℕ) → nearer_root f n den k q ≡ units f false (nearest q (compare (n * 4) (den * (middles q k * middles q k)))) k
unfolding nearer_root
nearer_root-is f n den k q = refl

pub between : (r p q : ℕ) → 0 < p → q * p ≤ r → r < suc q * p → r / p ≡ q
between r p q P h k = le_antisymm (le_of_suc-le-suc ((div-lt_iff_lt-mul P).1 k)) ((le-div_iff_mul-le P).1 h)

shifted-less : (a b p : ℕ) → 0 < p → a * 4 < b → a * p * 4 < b * p
shifted-less a b p P h = subst (λ (z : ℕ). z < b * p) (mul_right_comm a 4 p) (mul-lt-mul_of_pos_right h P)

shifted-more : (a b p : ℕ) → 0 < p → b < a * 4 → b * p < a * p * 4
shifted-more a b p P h = subst (λ (z : ℕ). b * p < z) (mul_right_comm a 4 p) (mul-lt-mul_of_pos_right h P)

times-less : (n z d : ℕ) → 0 < d → n * 4 < z → n * d * 4 < d * z
times-less n z d D h = subst (λ (w : ℕ). n * d * 4 < w) (mul_comm z d) (shifted-less n z d D h)

times_more : (n z d : ℕ) → 0 < d → z < n * 4 → d * z < n * d * 4
times_more n z d D h = subst (λ (w : ℕ). w < n * d * 4) (mul_comm z d) (shifted-more n z d D h)

module _ (f : Format) (num den N k q : ℕ) (D : 0 < den) (e : num * 2 ^ (low f + low f) ≡ N * den) (c : Cut f N k q) where
  cut-from : q * 2 ^ k ≤ root N
  cut-from = root_below N (q * 2 ^ k) (root N) c.reaches (root_is N).1

  cut-under : root N < suc q * 2 ^ k
  cut-under = lt-of-squares (root N) (suc q * 2 ^ k) (lt_of_le_of_lt (root_is N).0 c.passes)

  cut_at : (p : ℕ) → nearest q (compare (N * den * 4) (den * (middles q k * middles q k))) ≡ p → round_root f num den ≡ units f false p k
  cut_at p o =
      round_root-is f num den
      ∙ ap (λ (z : ℕ). rest f z den (root (z / den))) e
      ∙ ap (λ (z : ℕ). rest f (N * den) den (root z)) (mul-div_cancel N D)
      ∙ ap (λ (z : ℕ). nearer_root f (N * den) den z (root N / 2 ^ z))
      (size-drop f (root N) k (le_trans (mul-le-mul_right (2 ^ k) c.from) cut-from) (lt_of_lt_of_le cut-under (mul-le-mul_right (2 ^ k) c.under)))
      ∙ ap (λ (z : ℕ). nearer_root f (N * den) den k z) (between (root N) (2 ^ k) q (pow_pos k) cut-from cut-under)
      ∙ nearer_root-is f (N * den) den k q
      ∙ ap (λ (z : ℕ). units f false z k) o

  cut_down : N * 4 < middles q k * middles q k → round_root f num den ≡ units f false q k
  cut_down h = cut_at q (ap (λ (o : Ordering). nearest q o) (compare-lt (N * den * 4) (den * (middles q k * middles q k)) (times-less N (middles q k * middles q k) den D h)))

  cut_up : middles q k * middles q k < N * 4 → round_root f num den ≡ units f false (suc q) k
  cut_up h = cut_at (suc q) (ap (λ (o : Ordering). nearest q o) (compare-gt (N * den * 4) (den * (middles q k * middles q k)) (times_more N (middles q k * middles q k) den D h)))

-- every root of a number that has twice the format's digits is cut so
size-from : (f : Format) (r : ℕ) → hid f ≤ r → prec f - 1 + (size r - prec f) < size r
size-from f r h = last (prec f) (size r) (two f) (lt_of_not-le (λ (g : size r ≤ prec f - 1). not-le_of_lt (lt_of_lt_of_le (size-lt r) (pow_mono g)) h))
  where
    last : (p z : ℕ) → 2 ≤ p → p - 1 < z → p - 1 + (z - p) < z
    last p z h k = omega arith

pub cut-exists : (f : Format) (N : ℕ) → hid f * hid f ≤ N → Cut f N (size (root N) - prec f) (root N / 2 ^ (size (root N) - prec f))
cut-exists f N h =
    let r = root N in
    let k = size r - prec f in
    record {
      from =
          (le-div_iff_mul-le (pow_pos k)).1
          (subst (λ (z : ℕ). z ≤ r) (pow-add 2 (prec f - 1) k) (size_reaches r (prec f - 1 + k) (size-from f r (root_below N (hid f) r h (root_is N).1))));
      under = kept-lt (prec f) r;
      reaches = le_trans (mul-le-mul (div-mul-le_self r (2 ^ k)) (div-mul-le_self r (2 ^ k))) (root_is N).0;
      passes =
          let g : r < suc (r / 2 ^ k) * 2 ^ k = (div-lt_iff_lt-mul (pow_pos k)).0 (lt-suc_self (r / 2 ^ k)) in
          lt_of_lt_of_le (root_is N).1 (mul-le-mul g g);
    }

-- ---- there is no tie: a number with no more digits than the format keeps, whatever zeros stand behind it, is not the square of a middle
odd_part : (o M a b : ℕ) → o % 2 ≡ 1 → o * 2 ^ a ≡ M * 2 ^ b → o ≤ M
odd_part o M zero zero h e = le_of_eq (sym (mul-one o) ∙ e ∙ mul-one M)
odd_part o M zero (suc b) h e = absurd (even o (M * 2 ^ b) h (sym (mul-one o) ∙ e ∙ ap (λ (z : ℕ). M * z) (pow-suc 2 b) ∙ sym (mul_assoc M (2 ^ b) 2)))
  where
    even : (x z : ℕ) → x % 2 ≡ 1 → x ≡ z * 2 → ⊥
    even x z h e = omega arith
odd_part o M (suc a) zero h e = le_trans (le-mul_of_pos_right o (pow_pos (suc a))) (le_of_eq (e ∙ mul-one M))
odd_part o M (suc a) (suc b) h e =
    odd_part o M a b h
    (eq_of_mul-eq-mul_right 2 (zero-lt-suc 1) (o * 2 ^ a) (M * 2 ^ b)
    (mul_assoc o (2 ^ a) 2 ∙ ap (λ (z : ℕ). o * z) (sym (pow-suc 2 a)) ∙ e ∙ ap (λ (z : ℕ). M * z) (pow-suc 2 b) ∙ sym (mul_assoc M (2 ^ b) 2)))

odd-square : (q : ℕ) → (2 * q + 1) * (2 * q + 1) % 2 ≡ 1
odd-square q = ap (λ (z : ℕ). z % 2) (mul-add (2 * q + 1) (2 * q) 1 ∙ ap (λ (z : ℕ). z + (2 * q + 1) * 1) (mul_left_comm (2 * q + 1) 2 q)) ∙ ends ((2 * q + 1) * q) q
  where
    ends : (x y : ℕ) → (2 * x + (2 * y + 1) * 1) % 2 ≡ 1
    ends x y = omega arith

pub no_tie : (f : Format) (M i k q : ℕ) → M < 2 ^ prec f → hid f ≤ q → M * 2 ^ i * 4 ≡ middles q k * middles q k → ⊥
no_tie f M i k q h g e =
    let t = 2 * q + 1 in
    let o : t * t ≤ M =
    odd_part (t * t) M (k + k) (i + 2) (odd-square q)
    (ap (λ (z : ℕ). t * t * z) (pow-add 2 k k) ∙ mul-mul-mul_comm t t (2 ^ k) (2 ^ k) ∙ sym e ∙ mul_assoc M (2 ^ i) 4 ∙ ap (λ (z : ℕ). M * z) (sym (pow-add 2 i 2))) in
    clash (2 ^ prec f) (hid f) q (t * t) M (two-hid f) g (le-mul_of_pos_right t (le-add_left 1 (2 * q))) o h
  where
    clash : (p u x s y : ℕ) → p ≡ u * 2 → u ≤ x → 2 * x + 1 ≤ s → s ≤ y → y < p → ⊥
    clash p u x s y a b c d e = omega arith

-- ---- `sqrt` of n units, whose root is the root of n * 2 ^ low in units
sqrt-is : (f : Format) (x : Float) → T (positive x) → sqrt f x ≡ round_root f (num x) (den x)
unfolding sqrt
sqrt-is f nan p = absurd p
sqrt-is f (inf s) p = absurd p
sqrt-is f (fin true m e) p = absurd p
sqrt-is f (fin false zero e) p = absurd p
sqrt-is f (fin false (suc m) e) p = refl

pub squared-units : (a L l n c : ℕ) → l ≡ L * L → a * L ≡ n * c → a * l ≡ n * L * c
squared-units a L l n c e h = ap (λ (z : ℕ). a * z) e ∙ sym (mul_assoc a L L) ∙ ap (λ (z : ℕ). z * L) h ∙ mul_right_comm n c L

module _ (f : Format) (x : Float) (n k q : ℕ) (p : T (positive x)) (v : num x * 2 ^ low f ≡ n * den x) (c : Cut f (n * 2 ^ low f) k q) where
  pub sqrt-down : n * 2 ^ low f * 4 < middles q k * middles q k → sqrt f x ≡ units f false q k
  sqrt-down h = sqrt-is f x p ∙ cut_down f (num x) (den x) (n * 2 ^ low f) k q (den_pos x) (squared-units (num x) (2 ^ low f) (2 ^ (low f + low f)) n (den x) (pow-add 2 (low f) (low f)) v) c h

  pub sqrt-up : middles q k * middles q k < n * 2 ^ low f * 4 → sqrt f x ≡ units f false (suc q) k
  sqrt-up h = sqrt-is f x p ∙ cut_up f (num x) (den x) (n * 2 ^ low f) k q (den_pos x) (squared-units (num x) (2 ^ low f) (2 ^ (low f + low f)) n (den x) (pow-add 2 (low f) (low f)) v) c h

-- ---- for the code: `round_root` and `sqrt` by the whole number nearest to the root of n
pub nearest-root-down : (n q : ℕ) → q ≡ root n → n ≤ q * q + q → nearest_root n ≡ q
unfolding nearest_root
nearest-root-down n q e h =
    cond_yes (leb n (root n * root n + root n)) (root n) (suc (root n)) (le→leb n (root n * root n + root n) (subst (λ (z : ℕ). n ≤ z * z + z) e h)) ∙ sym e
  where
    cond_yes : (b : Bool) (x y : ℕ) → T b → cond b x y ≡ x
    cond_yes true x y t = refl
    cond_yes false x y t = absurd t

pub nearest-root-up : (n q : ℕ) → q ≡ root n → q * q + q < n → nearest_root n ≡ suc q
unfolding nearest_root
nearest-root-up n q e h =
    cond_no (leb n (root n * root n + root n)) (root n) (suc (root n)) (lt→nleb n (root n * root n + root n) (subst (λ (z : ℕ). z * z + z < n) e h)) ∙ ap suc (sym e)

nearest-root-from : (n : ℕ) → root n ≤ nearest_root n
unfolding nearest_root
nearest-root-from n = go (leb n (root n * root n + root n))
  where
    go : (b : Bool) → root n ≤ cond b (root n) (suc (root n))
    go true = le_refl (root n)
    go false = le-suc (root n)

nearest-root-to : (n : ℕ) → nearest_root n ≤ suc (root n)
unfolding nearest_root
nearest-root-to n = go (leb n (root n * root n + root n))
  where
    go : (b : Bool) → cond b (root n) (suc (root n)) ≤ suc (root n)
    go true = le-suc (root n)
    go false = le_refl (suc (root n))

nearest-root-upto : (n b : ℕ) → n < b * b → nearest_root n ≤ b
nearest-root-upto n b h = le_trans (nearest-root-to n) (root-under n (root n) b refl h)

square-shift : (a k : ℕ) → a * 2 ^ k * (a * 2 ^ k) ≡ a * a * 2 ^ (k + k)
square-shift a k = mul-mul-mul_comm a (2 ^ k) a (2 ^ k) ∙ ap (λ (z : ℕ). a * a * z) (sym (pow-add 2 k k))

middle-square : (q : ℕ) → (2 * q + 1) * (2 * q + 1) ≡ 4 * (q * q + q) + 1
middle-square q = simp (mul-add, add-mul, mul_assoc, mul_comm, mul_left_comm) (omega arith)

pub root-known : (f : Format) (num den n k : ℕ) → 0 < den → num * 2 ^ (low f + low f) ≡ n * 2 ^ (k + k) * den → hid f ≤ root n → root n < 2 ^ prec f
    → round_root f num den ≡ units f false (nearest_root n) k
root-known f num den n k D e h g = go (leb n (root n * root n + root n)) (leb→le n (root n * root n + root n)) (nleb→lt n (root n * root n + root n))
  where
    c : Cut f (n * 2 ^ (k + k)) k (root n)
    c = record {
      from = h;
      under = g;
      reaches = subst (λ (z : ℕ). z ≤ n * 2 ^ (k + k)) (sym (square-shift (root n) k)) (mul-le-mul_right (2 ^ (k + k)) (root_is n).0);
      passes = subst (λ (z : ℕ). n * 2 ^ (k + k) < z) (sym (square-shift (suc (root n)) k)) (mul-lt-mul_of_pos_right (root_is n).1 (pow_pos (k + k)));
    }

    middle : middles (root n) k * middles (root n) k ≡ (4 * (root n * root n + root n) + 1) * 2 ^ (k + k)
    middle = square-shift (2 * root n + 1) k ∙ ap (λ (z : ℕ). z * 2 ^ (k + k)) (middle-square (root n))

    less : (x y : ℕ) → x ≤ y → x * 4 < 4 * y + 1
    less x y h = omega arith

    more : (x y : ℕ) → y < x → 4 * y + 1 < x * 4
    more x y h = omega arith

    go : (b : Bool) → (T b → n ≤ root n * root n + root n) → (T (not b) → root n * root n + root n < n) → round_root f num den ≡ units f false (nearest_root n) k
    go true a b =
        cut_down f num den (n * 2 ^ (k + k)) k (root n) D e c
        (subst (λ (z : ℕ). n * 2 ^ (k + k) * 4 < z) (sym middle) (shifted-less n (4 * (root n * root n + root n) + 1) (2 ^ (k + k)) (pow_pos (k + k)) (less n (root n * root n + root n) (a tt))))
        ∙ ap (λ (z : ℕ). units f false z k) (sym (nearest-root-down n (root n) refl (a tt)))
    go false a b =
        cut_up f num den (n * 2 ^ (k + k)) k (root n) D e c
        (subst (λ (z : ℕ). z < n * 2 ^ (k + k) * 4) (sym middle) (shifted-more n (4 * (root n * root n + root n) + 1) (2 ^ (k + k)) (pow_pos (k + k)) (more n (root n * root n + root n) (b tt))))
        ∙ ap (λ (z : ℕ). units f false z k) (sym (nearest-root-up n (root n) refl (b tt)))

-- the pattern of the root of u units, which are n * 2 ^ (k + k) / 2 ^ low
sqrt-pattern : (f : Format) (x : Float) (u n k : ℕ) → T (positive x) → num x * 2 ^ low f ≡ u * den x → u * 2 ^ low f ≡ n * 2 ^ (k + k)
    → hid f * hid f ≤ n → n < 2 ^ prec f * 2 ^ prec f → 2 ^ prec f * 2 ^ k ≤ overflow f → sqrt f x ≡ of_bits f (k * hid f + nearest_root n)
sqrt-pattern f x u n k p v e lo hi top =
    let from : hid f ≤ root n = root_below n (hid f) (root n) lo (root_is n).1 in
    let to : nearest_root n ≤ 2 ^ prec f = nearest-root-upto n (2 ^ prec f) hi in
    sqrt-is f x p
    ∙ root-known f (num x) (den x) n k (den_pos x) (squared-units (num x) (2 ^ low f) (2 ^ (low f + low f)) u (den x) (pow-add 2 (low f) (low f)) v ∙ ap (λ (z : ℕ). z * den x) e)
    from (root-under n (root n) (2 ^ prec f) refl hi)
    ∙ units-pattern f false (nearest_root n) k to (inl (le_trans from (nearest-root-from n))) (le_trans (mul-le-mul_right (2 ^ k) to) top)
    ∙ ap (λ (z : ℕ). of_bits f (z + nearest_root n)) (zero-add (k * hid f))

-- so from pattern to pattern: j * hid + m stands for m * 2 ^ j units
pub root-pattern : (f : Format) (m j n k : ℕ) → 0 < m → m ≤ 2 ^ prec f → (hid f ≤ m) ⊎ (j ≡ 0) → m * 2 ^ j < overflow f → m * 2 ^ j * 2 ^ low f ≡ n * 2 ^ (k + k)
    → hid f * hid f ≤ n → n < 2 ^ prec f * 2 ^ prec f → 2 ^ prec f * 2 ^ k ≤ overflow f → of_bits f (k * hid f + nearest_root n) ≡ sqrt f (of_bits f (j * hid f + m))
root-pattern f m j n k M s o under e lo hi top =
    let x = of_bits f (j * hid f + m) in
    let v : HasValue x false (m * 2 ^ j) (2 ^ low f) =
    subst (λ (z : Float). HasValue z false (m * 2 ^ j) (2 ^ low f)) (units-pattern f false m j s o (le_of_lt under) ∙ ap (λ (z : ℕ). of_bits f (z + m)) (zero-add (j * hid f))) (units_val f false m j under) in
    sym (sqrt-pattern f x (m * 2 ^ j) n k (positive_of_value x (m * 2 ^ j) (2 ^ low f) v (mul-pos M (pow_pos j))) (value→cross x (m * 2 ^ j) (2 ^ low f) v) e lo hi top)

-- powers of two in one
pub gather : (n a b c : ℕ) → a + b ≡ c → n * 2 ^ a * 2 ^ b ≡ n * 2 ^ c
gather n a b c e = mul_assoc n (2 ^ a) (2 ^ b) ∙ ap (λ (z : ℕ). n * z) (sym (pow-add 2 a b) ∙ ap (λ (z : ℕ). 2 ^ z) e)

-- the same at binary32, as the steps of the code ask it
pub rooted : (bits m j n k r : ℕ) → 0 < m → m < 2 ^ 24 → (2 ^ 23 ≤ m) ⊎ (j ≡ 0) → j < 254 → m * 2 ^ j * 2 ^ 149 ≡ n * 2 ^ (k + k)
    → 2 ^ 46 ≤ n → n < 2 ^ 48 → k < 192 → bits ≡ j * 2 ^ 23 + m → r ≡ k * 2 ^ 23 + nearest_root n → Rooted bits r
rooted bits m j n k r M s o J e lo hi K b d =
    let to : nearest_root n ≤ 2 ^ 24 = nearest-root-upto n (2 ^ 24) hi in
    record {
      is =
          ap (λ (z : ℕ). of_bits binary32 z) d
          ∙ root-pattern binary32 m j n k M (le_of_lt s) o
          (lt_of_lt_of_le (mul-lt-mul_of_pos_right s (pow_pos j)) (mul-le-mul_left (2 ^ 24) (pow_mono (le_of_suc-le-suc J))))
          e lo hi
          (le_trans (mul-le-mul_left (2 ^ 24) (pow_mono (le_of_suc-le-suc K))) (lit≤ tt))
          ∙ ap (λ (z : ℕ). sqrt binary32 (of_bits binary32 z)) (sym b);
      number = bound k (nearest_root n) r K to d;
    }
  where
    bound : (a t z : ℕ) → a < 192 → t ≤ 2 ^ 24 → z ≡ a * 2 ^ 23 + t → z ≤ 0x7f80_0000
    bound a t z h k e = omega arith

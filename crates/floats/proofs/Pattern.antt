-- The pattern of a rounded value: q * 2 ^ k of the format's smallest units is written k * hid + q, where the format keeps q whole;
-- a carry into the next exponent and the step to infinity come out of the same sum (`units-pattern`).
-- `round` once the number k of dropped digits is known (`round-known`), and of a whole number of 2 ^ j / 2 ^ l (`round-shift`).
use Rattle.std.proofs.Common.{◌≡◌, ℕ, suc, ◌+◌, ◌-◌, ◌*◌, ◌/◌, ◌%◌, ◌^◌, ◌<◌, ◌≤◌, Bool, true, false, cond, T, ltb, ◌⊎◌, sym, refl, ap, ◌∙◌, subst, inl, inr, le_of_eq, lt_of_le_of_lt, mul-le-mul_right, mul_assoc, mul_comm, div-lt_iff_lt-mul, le_antisymm, eq-or-lt_of_le, mul-lt-mul_of_pos_right, mul-pos, lt_of_not-le, le-div_iff_mul-le, mul-one, not-le_of_lt, div-one, mul_left_comm, arith, pow_pos, pow_mono, pow-add}
use Prim.Native.Nat.{compare}
use native.Mathlib.Nat.{mul-mod_left, pow-succ'}
use lib.Arith.{le→nltb}
use lib.Pow.{pow-lt, shl-shr}
use lib.Ieee.{inf, Format, binary32, binary64, prec, low, size, nearest, odd, units, round, fits, to_bits, of_bits, hid, top}
use lib.Ieee.Digits.{size-lt, size-le}
use lib.Ieee.Bits.{of_bits-to_bits, cond_no}
use lib.Ieee.Fits.{round_is, odd-fits, inf-fits}
use lib.Ieee.Nearest.{closest, closest_mono, closest_same}
use lib.Ieee.Exact.{units_val}
use lib.Ieee.Scale.{overflow}
use Rattle.floats.proofs.Value.{bits_of, bits_of_value}

-- ---- how many digits a number has
pow-lt-inv : (i j : ℕ) → 2 ^ i < 2 ^ j → i < j
pow-lt-inv i j h = lt_of_not-le (λ (g : j ≤ i). not-le_of_lt h (pow_mono g))

pub size_is : (n j : ℕ) → 2 ^ j ≤ n → n < 2 ^ suc j → size n ≡ suc j
size_is n j h k = le_antisymm (size-le n (suc j) k) (pow-lt-inv j (size n) (lt_of_le_of_lt h (size-lt n)))

prec-suc : (f : Format) → prec f ≡ suc (prec f - 1)
prec-suc binary32 = refl
prec-suc binary64 = refl

pub two-hid : (f : Format) → 2 ^ prec f ≡ hid f * 2
two-hid binary32 = refl
two-hid binary64 = refl

drop-none : (a p : ℕ) → a ≤ p → a - p ≡ 0
drop-none a p h = omega arith

drop-some : (p k : ℕ) → p + k - p ≡ k
drop-some p k = omega arith

-- a number with k digits more than the format keeps, and one with no more than those
pub size-drop : (f : Format) (n k : ℕ) → hid f * 2 ^ k ≤ n → n < 2 ^ prec f * 2 ^ k → size n - prec f ≡ k
size-drop f n k h g =
    ap (λ (z : ℕ). z - prec f)
    (size_is n (prec f - 1 + k) (subst (λ (z : ℕ). z ≤ n) (sym (pow-add 2 (prec f - 1) k)) h)
    (subst (λ (z : ℕ). n < z) (sym (pow-add 2 (prec f) k) ∙ ap (λ (z : ℕ). 2 ^ (z + k)) (prec-suc f) ∙ ap (λ (z : ℕ). 2 ^ z) (native.Mathlib.Nat.suc-add (prec f - 1) k)) g)
    ∙ sym (native.Mathlib.Nat.suc-add (prec f - 1) k) ∙ ap (λ (z : ℕ). z + k) (sym (prec-suc f)))
    ∙ drop-some (prec f) k

size_none : (f : Format) (n : ℕ) → n < 2 ^ prec f → size n - prec f ≡ 0
size_none f n h = drop-none (size n) (prec f) (size-le n (prec f) h)

-- ---- the pattern of q * 2 ^ k units
bits_at : (f : Format) (s : Bool) (n k q : ℕ) → size n - prec f ≡ k → n / 2 ^ k ≡ q → bits_of f s n ≡ cond s (top f) 0 + k * hid f + q
bits_at f s n k q e d = ap (λ (z : ℕ). cond s (top f) 0 + z * hid f + n / 2 ^ z) e ∙ ap (λ (z : ℕ). cond s (top f) 0 + k * hid f + z) d

carry : (c k h : ℕ) → c + suc k * h + h ≡ c + k * h + h * 2
carry c k h = simp (native.Mathlib.Nat.suc-mul) (omega arith)

carry-size : (f : Format) (k : ℕ) → size (2 ^ prec f * 2 ^ k) - prec f ≡ suc k
carry-size f k =
    size-drop f (2 ^ prec f * 2 ^ k) (suc k)
    (le_of_eq (ap (λ (z : ℕ). hid f * z) (pow-succ' 2 k) ∙ sym (mul_assoc (hid f) 2 (2 ^ k)) ∙ ap (λ (z : ℕ). z * 2 ^ k) (sym (two-hid f))))
    (subst (λ (z : ℕ). 2 ^ prec f * 2 ^ k < z) (mul_comm (2 ^ suc k) (2 ^ prec f)) (subst (λ (z : ℕ). z < 2 ^ suc k * 2 ^ prec f) (mul_comm (2 ^ k) (2 ^ prec f)) (mul-lt-mul_of_pos_right (pow-lt (native.Mathlib.Nat.lt-suc_self k)) (pow_pos (prec f)))))

carry-rest : (f : Format) (k : ℕ) → 2 ^ prec f * 2 ^ k / 2 ^ suc k ≡ hid f
carry-rest f k =
    ap (λ (z : ℕ). z / 2 ^ suc k) (ap (λ (z : ℕ). z * 2 ^ k) (two-hid f) ∙ mul_assoc (hid f) 2 (2 ^ k) ∙ ap (λ (z : ℕ). hid f * z) (sym (pow-succ' 2 k)))
    ∙ shl-shr (hid f) (suc k)

pub bits-of-units : (f : Format) (s : Bool) (q k : ℕ) → q ≤ 2 ^ prec f → (hid f ≤ q) ⊎ (k ≡ 0) → bits_of f s (q * 2 ^ k) ≡ cond s (top f) 0 + k * hid f + q
bits-of-units f s q k h o = go (eq-or-lt_of_le h) o
  where
    go : (q ≡ 2 ^ prec f) ⊎ (q < 2 ^ prec f) → (hid f ≤ q) ⊎ (k ≡ 0) → bits_of f s (q * 2 ^ k) ≡ cond s (top f) 0 + k * hid f + q
    go (inl e) o =
        ap (λ (z : ℕ). bits_of f s (z * 2 ^ k)) e
        ∙ bits_at f s (2 ^ prec f * 2 ^ k) (suc k) (hid f) (carry-size f k) (carry-rest f k)
        ∙ carry (cond s (top f) 0) k (hid f)
        ∙ ap (λ (z : ℕ). cond s (top f) 0 + k * hid f + z) (sym (e ∙ two-hid f))
    go (inr l) (inl g) =
        bits_at f s (q * 2 ^ k) k q (size-drop f (q * 2 ^ k) k (mul-le-mul_right (2 ^ k) g) (mul-lt-mul_of_pos_right l (pow_pos k))) (shl-shr q k)
    go (inr l) (inr z) =
        bits_at f s (q * 2 ^ k) k q (ap (λ (x : ℕ). size (q * 2 ^ x) - prec f) z ∙ ap (λ (x : ℕ). size x - prec f) (mul-one q) ∙ size_none f q l ∙ sym z) (shl-shr q k)

-- ---- so such a value is read from that pattern, up to infinity
pub units-fits : (f : Format) (s : Bool) (q k : ℕ) → q ≤ 2 ^ prec f → q * 2 ^ k < overflow f → T (fits f (units f s q k))
unfolding units
units-fits f s q k h g = go (ltb (q * 2 ^ k) (overflow f))
  where
    go : (b : Bool) → T (fits f (cond b (odd (suc (prec f)) s q k (low f)) (inf s)))
    go true = odd-fits f (suc (prec f)) s q k (lt_of_le_of_lt h (pow-lt (native.Mathlib.Nat.lt-suc_self (prec f)))) h g
    go false = inf-fits f s

pub units-inf : (f : Format) (s : Bool) (q k : ℕ) → overflow f ≤ q * 2 ^ k → units f s q k ≡ inf s
unfolding units
units-inf f s q k h = cond_no (ltb (q * 2 ^ k) (overflow f)) (odd (suc (prec f)) s q k (low f)) (inf s) (le→nltb (q * 2 ^ k) (overflow f) h)

inf_bits : (f : Format) (s : Bool) → bits_of f s (overflow f) ≡ to_bits f (inf s)
unfolding to_bits size
inf_bits binary32 true = refl
inf_bits binary32 false = refl
inf_bits binary64 true = refl
inf_bits binary64 false = refl

pub units-pattern : (f : Format) (s : Bool) (q k : ℕ) → q ≤ 2 ^ prec f → (hid f ≤ q) ⊎ (k ≡ 0) → q * 2 ^ k ≤ overflow f
    → units f s q k ≡ of_bits f (cond s (top f) 0 + k * hid f + q)
units-pattern f s q k h o g = go (eq-or-lt_of_le g)
  where
    go : (q * 2 ^ k ≡ overflow f) ⊎ (q * 2 ^ k < overflow f) → units f s q k ≡ of_bits f (cond s (top f) 0 + k * hid f + q)
    go (inl e) =
        units-inf f s q k (le_of_eq (sym e))
        ∙ sym (of_bits-to_bits f (inf s) (inf-fits f s))
        ∙ ap (λ (z : ℕ). of_bits f z) (sym (inf_bits f s) ∙ ap (λ (z : ℕ). bits_of f s z) (sym e) ∙ bits-of-units f s q k h o)
    go (inr l) =
        sym (of_bits-to_bits f (units f s q k) (units-fits f s q k h l))
        ∙ ap (λ (z : ℕ). of_bits f z)
        (bits_of_value f (units f s q k) s (q * 2 ^ k) (2 ^ low f) (pow_pos (low f)) (units_val f s q k l)
        ∙ ap (λ (z : ℕ). bits_of f s z) (shl-shr (q * 2 ^ k) (low f)) ∙ bits-of-units f s q k h o)

-- ---- `round` where the number of dropped digits is known
pub round-known : (f : Format) (s : Bool) (num den k : ℕ) → 0 < den → (hid f * 2 ^ k * den ≤ num * 2 ^ low f) ⊎ (k ≡ 0)
    → num * 2 ^ low f < 2 ^ prec f * 2 ^ k * den → round f s num den ≡ units f s (closest (num * 2 ^ low f) (den * 2 ^ k)) k
round-known f s num den k D o g =
    round_is f s num den ∙ ap (λ (z : ℕ). units f s (closest (num * 2 ^ low f) (den * 2 ^ z)) z) (dropped o)
  where
    dropped : (hid f * 2 ^ k * den ≤ num * 2 ^ low f) ⊎ (k ≡ 0) → size (num * 2 ^ low f / den) - prec f ≡ k
    dropped (inl h) = size-drop f (num * 2 ^ low f / den) k ((le-div_iff_mul-le D).1 h) ((div-lt_iff_lt-mul D).1 g)
    dropped (inr z) = size_none f (num * 2 ^ low f / den) ((div-lt_iff_lt-mul D).1 (subst (λ (x : ℕ). num * 2 ^ low f < x * den) (ap (λ (x : ℕ). 2 ^ prec f * 2 ^ x) z ∙ mul-one (2 ^ prec f)) g)) ∙ sym z

-- ---- a fraction rounded to a whole number lies between whole numbers that it lies between
closest-whole : (q b : ℕ) → 0 < b → closest (q * b) b ≡ q
closest-whole q b B = closest_same (q * b) b q 1 B (pow_pos 0) (mul-one (q * b)) ∙ one q
  where
    one : (n : ℕ) → closest n 1 ≡ n
    one n =
        let z : n % 1 ≡ 0 = omega arith in
        ap (λ (x : ℕ). nearest x (compare (n % 1 * 2) 1)) (div-one n) ∙ ap (λ (x : ℕ). nearest n (compare (x * 2) 1)) z

pub closest-upto : (n b q : ℕ) → 0 < b → n ≤ q * b → closest n b ≤ q
closest-upto n b q B h = subst (λ (z : ℕ). closest n b ≤ z) (closest-whole q b B) (closest_mono n b (q * b) b B B (mul-le-mul_right b h))

pub closest-from : (n b q : ℕ) → 0 < b → q * b ≤ n → q ≤ closest n b
closest-from n b q B h = subst (λ (z : ℕ). z ≤ closest n b) (closest-whole q b B) (closest_mono (q * b) b n b B B (mul-le-mul_right b h))

-- ---- M * 2 ^ j / 2 ^ l, of which d digits are dropped and k more stand behind the unit
swap-pow : (M a b c d e : ℕ) → a + b + c ≡ d + e → M * 2 ^ a * 2 ^ b * 2 ^ c ≡ M * (2 ^ d * 2 ^ e)
swap-pow M a b c d e h =
    simp mul_assoc (ap (λ (z : ℕ). M * z) (ap (λ (z : ℕ). 2 ^ a * z) (sym (pow-add 2 b c)) ∙ sym (pow-add 2 a (b + c)) ∙ ap (λ (z : ℕ). 2 ^ z) (sym (native.Mathlib.Nat.add_assoc a b c) ∙ h) ∙ pow-add 2 d e))

module _ (f : Format) (M j l d k : ℕ) (even : j + low f + d ≡ l + k) where
  pub unit-shift : M * 2 ^ j * 2 ^ low f * 2 ^ d ≡ M * (2 ^ l * 2 ^ k)
  unit-shift = swap-pow M j (low f) d l k even

  pub shift-below : (a : ℕ) → M < a * 2 ^ d → M * 2 ^ j * 2 ^ low f < a * 2 ^ k * 2 ^ l
  shift-below a h =
      native.Mathlib.Nat.lt_of_mul-lt-mul_right (2 ^ d)
      (subst (λ (z : ℕ). z < a * 2 ^ k * 2 ^ l * 2 ^ d) (sym unit-shift)
      (subst (λ (z : ℕ). M * (2 ^ l * 2 ^ k) < z) (simp (mul_assoc, mul_comm, mul_left_comm)) (mul-lt-mul_of_pos_right h (mul-pos (pow_pos l) (pow_pos k)))))

  pub shift_from : (a : ℕ) → a * 2 ^ d ≤ M → a * 2 ^ k * 2 ^ l ≤ M * 2 ^ j * 2 ^ low f
  shift_from a h =
      native.Mathlib.Nat.le_of_mul-le-mul_right
      (subst (λ (z : ℕ). a * 2 ^ k * 2 ^ l * 2 ^ d ≤ z) (sym unit-shift)
      (subst (λ (z : ℕ). z ≤ M * (2 ^ l * 2 ^ k)) (simp (mul_assoc, mul_comm, mul_left_comm)) (mul-le-mul_right (2 ^ l * 2 ^ k) h)))
      (pow_pos d)

  pub round-shift : (s : Bool) → M < 2 ^ prec f * 2 ^ d → (hid f * 2 ^ d ≤ M) ⊎ (k ≡ 0) → closest M (2 ^ d) * 2 ^ k ≤ overflow f
      → round f s (M * 2 ^ j) (2 ^ l) ≡ of_bits f (cond s (top f) 0 + k * hid f + closest M (2 ^ d))
  round-shift s h o g =
      round-known f s (M * 2 ^ j) (2 ^ l) k (pow_pos l) (above o) (shift-below (2 ^ prec f) h)
      ∙ ap (λ (z : ℕ). units f s z k) (closest_same (M * 2 ^ j * 2 ^ low f) (2 ^ l * 2 ^ k) M (2 ^ d) (mul-pos (pow_pos l) (pow_pos k)) (pow_pos d) unit-shift)
      ∙ units-pattern f s (closest M (2 ^ d)) k (closest-upto M (2 ^ d) (2 ^ prec f) (pow_pos d) (native.Mathlib.Nat.le_of_lt h)) (kept o) g
    where
      above : (hid f * 2 ^ d ≤ M) ⊎ (k ≡ 0) → (hid f * 2 ^ k * 2 ^ l ≤ M * 2 ^ j * 2 ^ low f) ⊎ (k ≡ 0)
      above (inl a) = inl (shift_from (hid f) a)
      above (inr z) = inr z

      kept : (hid f * 2 ^ d ≤ M) ⊎ (k ≡ 0) → (hid f ≤ closest M (2 ^ d)) ⊎ (k ≡ 0)
      kept (inl a) = inl (closest-from M (2 ^ d) (hid f) (pow_pos d) a)
      kept (inr z) = inr z

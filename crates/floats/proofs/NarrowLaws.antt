-- What narrowing rests on: dropping digits to the nearest even number, `round` far below the smallest unit and far above the largest,
-- and each branch on the exponent's field of a binary64 pattern.
use Rattle.std.proofs.Common.{◌≡◌, ℕ, zero, suc, ◌+◌, ◌-◌, ◌*◌, ◌/◌, ◌%◌, ◌^◌, ◌<◌, ◌≤◌, Bool, false, ◌⊎◌, pos, sym, refl, ap, ◌∙◌, subst, inl, inr, le_trans, lt_of_lt_of_le, add-zero, le_of_lt, mul-le-mul_right, mod-lt, mul_assoc, suc-mul, mul_comm, mul-le-mul_left, mul-lt-mul_of_pos_right, mul-pos, one-mul, div-add-mod', zero-add, mul-one, arith, lit≤, pow_pos, pow_mono, pow-add}
use Prim.Native.Nat.{compare, Ordering}
use lib.Ieee.{Float, nan, inf, fin, Format, binary32, binary64, prec, low, hid, up, down, odd, round, units, nearest, of_bits, neg}
use lib.Ieee.Fits.{down_pos}
use lib.Ieee.Nearest.{closest}
use lib.Ieee.Exact.{HasValue}
use lib.Ieee.Scale.{round_same, overflow}
use Rattle.floats.specs.Convert.{convert}
use Rattle.floats.specs.Steps.{Narrowed}
use Rattle.floats.proofs.BitLaws.{subnormal-value, normal-value}
use Rattle.floats.proofs.Half.{Near, closest-near, compared-lt, compared-eq, compared-gt, parity}
use Rattle.floats.proofs.Fractions.{neg-round}
use Rattle.floats.proofs.PartLaws.{is-part}
use Rattle.floats.proofs.Pattern.{round-shift, round-known, units-inf, closest-from, closest-upto, shift-below, shift_from}

-- ---- n / 2h to the nearest whole number, a tie to the even one, by one division
step : (n h q r o : ℕ) → 0 < h → q * (h + h) + r ≡ n → r < h + h → o < 2
    → (c : Ordering) → compare (r * 2) (h + h) ≡ c → o ≡ q % 2 → nearest q c ≡ (n + (h - 1) + o) / (h + h)
step n h q r o H e l b Ordering.lt c p = sym (is-part (n + (h - 1) + o) (h + h) q (r + (h - 1) + o) (go (q * (h + h)) e) (short (compared-lt (r * 2) (h + h) c)))
  where
    go : (x : ℕ) → x + r ≡ n → n + (h - 1) + o ≡ x + (r + (h - 1) + o)
    go x e = omega arith

    short : r * 2 < h + h → r + (h - 1) + o < h + h
    short g = omega arith
step n h q r o H e l b Ordering.eq c p = tie (parity q)
  where
    even : (x : ℕ) → x + r ≡ n → r * 2 ≡ h + h → o ≡ 0 → n + (h - 1) + o ≡ x + (h + h - 1)
    even x e g z = omega arith

    odd' : (x : ℕ) → x + r ≡ n → r * 2 ≡ h + h → o ≡ 1 → n + (h - 1) + o ≡ h + h + x + 0
    odd' x e g z = omega arith

    tie : (q % 2 ≡ 0) ⊎ (q % 2 ≡ 1) → q + q % 2 ≡ (n + (h - 1) + o) / (h + h)
    tie (inl z) = ap (λ (x : ℕ). q + x) z ∙ add-zero q ∙ sym (is-part (n + (h - 1) + o) (h + h) q (h + h - 1) (even (q * (h + h)) e (compared-eq (r * 2) (h + h) c) (p ∙ z)) (omega arith))
    tie (inr z) =
        ap (λ (x : ℕ). q + x) z ∙ native.Mathlib.Numerals.add-one q
        ∙ sym (is-part (n + (h - 1) + o) (h + h) (suc q) 0 (odd' (q * (h + h)) e (compared-eq (r * 2) (h + h) c) (p ∙ z) ∙ ap (λ (x : ℕ). x + 0) (native.Mathlib.Nat.add_comm (h + h) (q * (h + h)) ∙ sym (suc-mul q (h + h)))) (omega arith))
step n h q r o H e l b Ordering.gt c p =
    sym (is-part (n + (h - 1) + o) (h + h) (suc q) (r - h - 1 + o) (go (q * (h + h)) e (compared-gt (r * 2) (h + h) c) ∙ ap (λ (x : ℕ). x + (r - h - 1 + o)) (native.Mathlib.Nat.add_comm (h + h) (q * (h + h)) ∙ sym (suc-mul q (h + h)))) (short (compared-gt (r * 2) (h + h) c)))
  where
    go : (x : ℕ) → x + r ≡ n → h + h < r * 2 → n + (h - 1) + o ≡ h + h + x + (r - h - 1 + o)
    go x e g = omega arith

    short : h + h < r * 2 → r - h - 1 + o < h + h
    short g = omega arith

pub closest-even : (n h : ℕ) → 0 < h → closest n (h + h) ≡ (n + (h - 1) + n / (h + h) % 2) / (h + h)
closest-even n h H =
    step n h (n / (h + h)) (n % (h + h)) (n / (h + h) % 2) H (div-add-mod' n (h + h)) (mod-lt n (twice H)) (mod-lt (n / (h + h)) (pow_pos 1)) (compare (n % (h + h) * 2) (h + h)) refl refl
  where
    twice : 0 < h → 0 < h + h
    twice g = omega arith

-- ---- `convert` by a fraction
pub convert-value : (f : Format) (x : Float) (s : Bool) (a c : ℕ) → 0 < c → HasValue x s a c → convert f x ≡ round f s a c
unfolding convert
convert-value f nan s a c C h = absurd h
convert-value f (inf t) s a c C h = absurd h
convert-value f (fin t m e) s a c C h = ap (λ (z : Bool). round f z (m * up e) (down e)) h.0 ∙ round_same f s (m * up e) (down e) a c (down_pos e) C h.1

-- ---- less than half a unit, and the range passed
no-units : (f : Format) (s : Bool) → units f s 0 0 ≡ fin s 0 (pos 0)
unfolding units odd
no-units binary32 s = refl
no-units binary64 s = refl

below_half : (n c : ℕ) → n * 2 < c → closest n c ≡ 0
below_half n c h =
    native.Mathlib.Nat.le_antisymm (native.Mathlib.Nat.le_of_suc-le-suc (none_of (closest n c) (closest-near n c (omega arith)))) Prim.Native.Nat.zero-le
  where
    near : (x : ℕ) → Near x n c → x < c
    near x g = omega arith

    none_of : (q : ℕ) → Near (q * c) n c → q < 1
    none_of q g = native.Mathlib.Nat.lt_of_mul-lt-mul_right c (subst (λ (z : ℕ). q * c < z) (sym (one-mul c)) (near (q * c) g))

pub round-tiny : (f : Format) (s : Bool) (a c : ℕ) → a * 2 ^ low f * 2 < c → round f s a c ≡ fin s 0 (pos 0)
round-tiny f s a c h = round-known f s a c 0 (positive (a * 2 ^ low f) c h) (inr refl) (within f (a * 2 ^ low f) c h) ∙ ap (λ (z : ℕ). units f s z 0) (none (a * 2 ^ low f) c h) ∙ no-units f s
  where
    positive : (n c : ℕ) → n * 2 < c → 0 < c
    positive n c h = omega arith

    within : (f : Format) (n c : ℕ) → n * 2 < c → n < 2 ^ prec f * 2 ^ 0 * c
    within f n c h = lt_of_lt_of_le (less n c h) (subst (λ (z : ℕ). z ≤ 2 ^ prec f * 1 * c) (one-mul c) (mul-le-mul_right c (subst (λ (z : ℕ). 1 ≤ z) (sym (mul-one (2 ^ prec f))) (pow_pos (prec f)))))
      where
        less : (n c : ℕ) → n * 2 < c → n < c
        less n c h = omega arith

    none : (n c : ℕ) → n * 2 < c → closest n (c * 2 ^ 0) ≡ 0
    none n c h = ap (λ (z : ℕ). closest n z) (mul-one c) ∙ below_half n c h

module _ (f : Format) (M j l d k : ℕ) (even : j + low f + d ≡ l + k) where
  -- a whole number of units that the format cannot reach
  pub round-beyond : (s : Bool) → M < 2 ^ prec f * 2 ^ d → hid f * 2 ^ d ≤ M → overflow f ≤ hid f * 2 ^ k → round f s (M * 2 ^ j) (2 ^ l) ≡ inf s
  round-beyond s h g o =
      round-known f s (M * 2 ^ j) (2 ^ l) k (pow_pos l) (inl (shift_from f M j l d k even (hid f) g)) (shift-below f M j l d k even (2 ^ prec f) h)
      ∙ units-inf f s (closest (M * 2 ^ j * 2 ^ low f) (2 ^ l * 2 ^ k)) k
      (le_trans o (mul-le-mul_right (2 ^ k) (closest-from (M * 2 ^ j * 2 ^ low f) (2 ^ l * 2 ^ k) (hid f) (mul-pos (pow_pos l) (pow_pos k))
      (subst (λ (z : ℕ). z ≤ M * 2 ^ j * 2 ^ low f) (mul_assoc (hid f) (2 ^ k) (2 ^ l) ∙ ap (λ (z : ℕ). hid f * z) (mul_comm (2 ^ k) (2 ^ l))) (shift_from f M j l d k even (hid f) g)))))

inf-pattern : inf false ≡ of_bits binary32 0x7f80_0000
unfolding of_bits
inf-pattern = refl

zero_pattern : fin false 0 (pos 0) ≡ of_bits binary32 0
unfolding of_bits
zero_pattern = refl

-- less than half of binary32's smallest unit
far : (n x : ℕ) → n < 2 ^ 53 → x ≤ 870 → n * 2 ^ x * 2 ^ 149 * 2 < 2 ^ 1074
far n x h g =
    subst (λ (z : ℕ). z < 2 ^ 1074) (sym (mul_assoc (n * 2 ^ x) (2 ^ 149) 2))
    (lt_of_lt_of_le (mul-lt-mul_of_pos_right (lt_of_lt_of_le (mul-lt-mul_of_pos_right h (pow_pos x)) (mul-le-mul_left (2 ^ 53) (pow_mono g))) (pow_pos 150)) (pow_mono {i = 1073} {j = 1074} (lit≤ tt)))

-- ---- binary64 to binary32, by the exponent's field and the digits behind it
module _ (b x t : ℕ) (is : b ≡ suc x * 2 ^ 52 + t) (short : t < 2 ^ 52) where
  digits-under : t + 2 ^ 52 < 2 ^ 53
  digits-under = omega arith

  converted : suc x < 2047 → convert binary32 (of_bits binary64 b) ≡ round binary32 false ((t + 2 ^ 52) * 2 ^ x) (2 ^ 1074)
  converted h = convert-value binary32 (of_bits binary64 b) false ((t + 2 ^ 52) * 2 ^ x) (2 ^ 1074) (pow_pos 1074) (normal-value binary64 b x t is short h)

  kept-upto : (d : ℕ) → 29 ≤ d → closest (t + 2 ^ 52) (2 ^ d) ≤ 2 ^ 24
  kept-upto d h = closest-upto (t + 2 ^ 52) (2 ^ d) (2 ^ 24) (pow_pos d) (le_trans (le_of_lt digits-under) (mul-le-mul_left (2 ^ 24) (pow_mono {i = 29} {j = d} h)))

  -- a normal result: 29 digits are dropped
  pub narrow-normal : (k : ℕ) → suc x ≡ 897 + k → k < 254 → of_bits binary32 (k * 2 ^ 23 + closest (t + 2 ^ 52) (2 ^ 29)) ≡ convert binary32 (of_bits binary64 b)
  narrow-normal k e h =
      sym (converted (omega arith)
      ∙ round-shift binary32 (t + 2 ^ 52) x 1074 29 k (omega arith) false digits-under (inl (omega arith))
      (le_trans (mul-le-mul_right (2 ^ k) (kept-upto 29 (lit≤ tt))) (subst (λ (z : ℕ). z ≤ 2 ^ 277) (pow-add 2 24 k) (pow_mono {i = 24 + k} {j = 277} (omega arith))))
      ∙ ap (λ (z : ℕ). of_bits binary32 (z + closest (t + 2 ^ 52) (2 ^ 29))) (zero-add (k * 2 ^ 23)))

  -- a subnormal one: more, down to the smallest unit
  pub narrow-small : (d : ℕ) → suc x + d ≡ 926 → 29 ≤ d → of_bits binary32 (closest (t + 2 ^ 52) (2 ^ d)) ≡ convert binary32 (of_bits binary64 b)
  narrow-small d e h =
      sym (converted (omega arith)
      ∙ round-shift binary32 (t + 2 ^ 52) x 1074 d 0 (omega arith) false (lt_of_lt_of_le digits-under (mul-le-mul_left (2 ^ 24) (pow_mono {i = 29} {j = d} h))) (inr refl)
      (subst (λ (z : ℕ). z ≤ 2 ^ 277) (sym (mul-one (closest (t + 2 ^ 52) (2 ^ d)))) (le_trans (kept-upto d h) (pow_mono {i = 24} {j = 277} (lit≤ tt))))
      ∙ ap (λ (z : ℕ). of_bits binary32 z) (zero-add (closest (t + 2 ^ 52) (2 ^ d))))

  -- beyond the range
  pub narrow-large : (k : ℕ) → suc x ≡ 897 + k → 254 ≤ k → suc x < 2047 → of_bits binary32 0x7f80_0000 ≡ convert binary32 (of_bits binary64 b)
  narrow-large k e h g =
      sym (converted g
      ∙ round-beyond binary32 (t + 2 ^ 52) x 1074 29 k (omega arith) false digits-under (omega arith) (subst (λ (z : ℕ). 2 ^ 277 ≤ z) (pow-add 2 23 k) (pow_mono {i = 277} {j = 23 + k} (omega arith)))
      ∙ inf-pattern)

  pub narrow-tiny : suc x < 872 → of_bits binary32 0 ≡ convert binary32 (of_bits binary64 b)
  narrow-tiny h =
      sym (converted (omega arith)
      ∙ round-tiny binary32 false ((t + 2 ^ 52) * 2 ^ x) (2 ^ 1074) (far (t + 2 ^ 52) x digits-under (omega arith))
      ∙ zero_pattern)

pub narrow-subnormal : (b : ℕ) → b < 2 ^ 52 → of_bits binary32 0 ≡ convert binary32 (of_bits binary64 b)
narrow-subnormal b h =
    sym (convert-value binary32 (of_bits binary64 b) false b (2 ^ 1074) (pow_pos 1074) (subnormal-value binary64 b h)
    ∙ round-tiny binary32 false b (2 ^ 1074) (subst (λ (z : ℕ). z * 2 ^ 149 * 2 < 2 ^ 1074) (mul-one b) (far b 0 (lt_of_lt_of_le h (pow_mono {i = 52} {j = 53} (lit≤ tt))) (lit≤ tt)))
    ∙ zero_pattern)

pub narrow-inf : of_bits binary32 0x7f80_0000 ≡ convert binary32 (of_bits binary64 0x7ff0_0000_0000_0000)
unfolding convert of_bits
narrow-inf = refl

-- ---- the same by the whole pattern
module _ (b : ℕ) (whole : 1 ≤ b / 2 ^ 52) where
  split : b ≡ suc (b / 2 ^ 52 - 1) * 2 ^ 52 + b % 2 ^ 52
  split = omega arith

  rest-short : b % 2 ^ 52 < 2 ^ 52
  rest-short = mod-lt b (pow_pos 52)

  kept-digits : (d : ℕ) → 29 ≤ d → closest (b % 2 ^ 52 + 2 ^ 52) (2 ^ d) ≤ 2 ^ 24
  kept-digits d h = kept-upto b (b / 2 ^ 52 - 1) (b % 2 ^ 52) split rest-short d h

  pub bits-normal : 897 ≤ b / 2 ^ 52 → b / 2 ^ 52 < 1151 → Narrowed b ((b / 2 ^ 52 - 897) * 2 ^ 23 + closest (b % 2 ^ 52 + 2 ^ 52) (2 ^ 29))
  bits-normal h g = record {
    is = narrow-normal b (b / 2 ^ 52 - 1) (b % 2 ^ 52) split rest-short (b / 2 ^ 52 - 897) (omega arith) (omega arith);
    number = omega (arith, kept-digits 29 (lit≤ tt));
  }

  pub bits_small : (d : ℕ) → b / 2 ^ 52 + d ≡ 926 → 29 ≤ d → Narrowed b (closest (b % 2 ^ 52 + 2 ^ 52) (2 ^ d))
  bits_small d e h = record {
    is = narrow-small b (b / 2 ^ 52 - 1) (b % 2 ^ 52) split rest-short d (omega arith) h;
    number = omega (arith, kept-digits d h);
  }

  pub bits-large : 1151 ≤ b / 2 ^ 52 → b ≤ 0x7ff0_0000_0000_0000 → Narrowed b 0x7f80_0000
  bits-large h g = record { is = go (native.Mathlib.Nat.eq-or-lt_of_le g); number = lit≤ tt }
    where
      go : (b ≡ 0x7ff0_0000_0000_0000) ⊎ (b < 0x7ff0_0000_0000_0000) → of_bits binary32 0x7f80_0000 ≡ convert binary32 (of_bits binary64 b)
      go (inl e) = narrow-inf ∙ ap (λ (z : ℕ). convert binary32 (of_bits binary64 z)) (sym e)
      go (inr l) = narrow-large b (b / 2 ^ 52 - 1) (b % 2 ^ 52) split rest-short (b / 2 ^ 52 - 897) (omega arith) (omega arith) (omega arith)

pub bits-tiny : (b : ℕ) → b / 2 ^ 52 < 872 → Narrowed b 0
bits-tiny b h = record { is = go (b / 2 ^ 52) refl; number = lit≤ tt }
  where
    go : (x : ℕ) → b / 2 ^ 52 ≡ x → of_bits binary32 0 ≡ convert binary32 (of_bits binary64 b)
    go zero e = narrow-subnormal b (omega arith)
    go (suc x) e = narrow-tiny b x (b % 2 ^ 52) (omega arith) (mod-lt b (pow_pos 52)) (omega arith)

-- a power of two made by a shift
pub shifted : (n : ℕ) → n < 64 → 1 * 2 ^ n % 2 ^ 64 ≡ 2 ^ n
shifted n h = ap (λ (z : ℕ). z % 2 ^ 64) (one-mul (2 ^ n)) ∙ native.Mathlib.Nat.mod-eq_of_lt (lib.Pow.pow-lt h)

pub power-twice : (n : ℕ) → 2 ^ n + 2 ^ n ≡ 2 ^ suc n
power-twice n = twice (2 ^ n) ∙ sym (native.Mathlib.Nat.pow-suc 2 n)
  where
    twice : (z : ℕ) → z + z ≡ z * 2
    twice z = omega arith

pub half_twice : (n : ℕ) → n < 64 → 1 * 2 ^ n % 2 ^ 64 + 1 * 2 ^ n % 2 ^ 64 ≡ 2 ^ suc n
half_twice n h = ap (λ (z : ℕ). z + z) (shifted n h) ∙ power-twice n

-- ---- the sign goes through
pub convert-neg : (f : Format) (x : Float) → neg (convert f x) ≡ convert f (neg x)
unfolding convert neg
convert-neg f nan = refl
convert-neg f (inf s) = refl
convert-neg f (fin s m e) = neg-round f s (m * up e) (down e)

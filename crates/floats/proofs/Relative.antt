-- What a rounding can be wrong by, against the fraction itself: one part in 2 ^ prec, and half of the smallest unit besides (`grid-loss`, `grid-gain`).
-- A whole number of units has no such half: where no digit of it is dropped, it is kept as it is (`whole-loss`).
-- And the two ways out of a rounding: an infinity, or the value that `grid` counts (`round-either`).
use Rattle.std.proofs.Common.{◌≡◌, ℕ, zero, suc, ◌+◌, ◌-◌, ◌*◌, ◌/◌, ◌^◌, ◌<◌, ◌≤◌, Bool, true, false, not, T, ltb, ◌⊎◌, sym, refl, ap, ◌∙◌, subst, inl, inr, le_trans, le_of_eq, le-add_right, mul-le-mul_right, zero-lt-suc, mul-le-mul_left, le-div_iff_mul-le, mul-one, le_of_mul-le-mul_right, le-add_left, arith, ltb→lt, nltb→le, pow_pos, pow-add}
use lib.Ieee.{Float, inf, Format, prec, low, size, round, fits, hid}
use lib.Ieee.Digits.{size_reaches}
use lib.Ieee.Fits.{round_is, two, two-le_pos}
use lib.Ieee.Nearest.{closest}
use lib.Ieee.Order.{drop, kept}
use lib.Ieee.Exact.{HasValue}
use lib.Ieee.Scale.{grid, overflow, finite}
use lib.Ieee.Positive.{num, den}
use Rattle.floats.proofs.Half.{Near, grid-near, round_val}
use Rattle.floats.proofs.Pattern.{two-hid, units-inf, closest-from}
use Rattle.floats.proofs.NearestRoots.{in-units}

-- ---- the unit that is kept of n / c: the smallest one, or one part in 2 ^ (prec - 1) of n / c at most
dropped : (k : ℕ) → (k ≡ 0) ⊎ (0 < k)
dropped zero = inl refl
dropped (suc k) = inr (zero-lt-suc k)

all_in_use : (z p : ℕ) → 0 < p → 0 < z - p → p - 1 + (z - p) < z
all_in_use z p P h = omega arith

unit-part : (f : Format) (n c : ℕ) → 0 < c → 0 < drop (prec f) n c → hid f * (c * 2 ^ drop (prec f) n c) ≤ n
unit-part f n c C K =
    let k = drop (prec f) n c in
    let e : hid f * (c * 2 ^ k) ≡ 2 ^ (prec f - 1 + k) * c = spread (hid f) c (2 ^ k) ∙ ap (λ (z : ℕ). z * c) (sym (pow-add 2 (prec f - 1) k)) in
    le_trans (le_of_eq e) ((le-div_iff_mul-le C).0 (size_reaches (n / c) (prec f - 1 + k) (all_in_use (size (n / c)) (prec f) (two-le_pos (prec f) (two f)) K)))
  where
    spread : (h c u : ℕ) → h * (c * u) ≡ h * u * c
    spread h c u = omega arith

unit-most : (f : Format) (n c : ℕ) → 0 < c → hid f * (c * 2 ^ drop (prec f) n c) ≤ n + hid f * c
unit-most f n c C = elim (dropped (drop (prec f) n c)) [ inl e ↦ smallest (hid f) n c (drop (prec f) n c) e | inr k ↦ le_trans (unit-part f n c C k) (le-add_right n (hid f * c)) ]
  where
    smallest : (h n c k : ℕ) → k ≡ 0 → h * (c * 2 ^ k) ≤ n + h * c
    smallest h n c k e = le_trans (le_of_eq (ap (λ (z : ℕ). h * (c * 2 ^ z)) e ∙ ap (λ (z : ℕ). h * z) (mul-one c))) (le-add_left (h * c) n)

-- ---- the two bounds, in units times c
module _ (n c g u h : ℕ) (most : h * u ≤ n + h * c) (near : Near (g * c) n u) where
  loss : n * (h * 2) ≤ g * c * (h * 2) + n + h * c
  loss = omega (arith, mul-le-mul_left h near.over)

  gain : g * c * (h * 2) ≤ n * (h * 2) + n + h * c
  gain = omega (arith, mul-le-mul_left h near.under)

pub grid-loss : (f : Format) (a c : ℕ) → 0 < c → a * 2 ^ low f * 2 ^ prec f ≤ grid f a c * c * 2 ^ prec f + a * 2 ^ low f + hid f * c
grid-loss f a c C =
    let n = a * 2 ^ low f in
    subst (λ (z : ℕ). n * z ≤ grid f a c * c * z + n + hid f * c) (sym (two-hid f)) (loss n c (grid f a c) (c * 2 ^ drop (prec f) n c) (hid f) (unit-most f n c C) (grid-near f a c C))

pub grid-gain : (f : Format) (a c : ℕ) → 0 < c → grid f a c * c * 2 ^ prec f ≤ a * 2 ^ low f * 2 ^ prec f + a * 2 ^ low f + hid f * c
grid-gain f a c C =
    let n = a * 2 ^ low f in
    subst (λ (z : ℕ). grid f a c * c * z ≤ n * z + n + hid f * c) (sym (two-hid f)) (gain n c (grid f a c) (c * 2 ^ drop (prec f) n c) (hid f) (unit-most f n c C) (grid-near f a c C))

-- ---- a whole number of units
kept_whole : (w l k : ℕ) → 0 < l → k ≡ 0 → w ≤ closest (w * l) (l * 2 ^ k) * 2 ^ k
kept_whole w l k L e =
    subst (λ (z : ℕ). w ≤ closest (w * l) (l * 2 ^ z) * 2 ^ z) (sym e)
    (le_trans (closest-from (w * l) (l * 1) w (subst (λ (z : ℕ). 0 < z) (sym (mul-one l)) L) (le_of_eq (ap (λ (z : ℕ). w * z) (mul-one l)))) (le_of_eq (sym (mul-one (closest (w * l) (l * 1))))))

part-loss : (w l g u h : ℕ) → 0 < l → h * u ≤ w * l → 2 * (w * l) ≤ 2 * (g * l) + u → w * (h * 2) ≤ g * (h * 2) + w
part-loss w l g u h L a b = le_of_mul-le-mul_right (omega (arith, mul-le-mul_left h b)) L

no-loss : (w g p : ℕ) → w ≤ g → w * p ≤ g * p + w
no-loss w g p h = omega (arith, mul-le-mul_right p h)

pub whole-loss : (f : Format) (w : ℕ) → w * 2 ^ prec f ≤ grid f w (2 ^ low f) * 2 ^ prec f + w
whole-loss f w =
    let l = 2 ^ low f in
    let k = drop (prec f) (w * l) l in
    elim (dropped k) [
      | inl e ↦ no-loss w (grid f w l) (2 ^ prec f) (kept_whole w l k (pow_pos (low f)) e)
      | inr K ↦
          subst (λ (z : ℕ). w * z ≤ grid f w l * z + w) (sym (two-hid f))
          (part-loss w l (grid f w l) (l * 2 ^ k) (hid f) (pow_pos (low f)) (unit-part f (w * l) l (pow_pos (low f)) K) (grid-near f w l (pow_pos (low f))).over)
    ]

-- each finite value of the format is one
pub whole-units : (f : Format) (x : Float) → T (fits f x) → T (finite x) → (n : ℕ) × (num x * 2 ^ low f ≡ n * den x)
whole-units f x h t = let u = in-units f x h t in (u.m * 2 ^ u.j, u.is)

-- ---- the ways out of a rounding
pub round-either : (f : Format) (s : Bool) (a c : ℕ) → (round f s a c ≡ inf s) ⊎ HasValue (round f s a c) s (grid f a c) (2 ^ low f)
round-either f s a c = go (ltb (grid f a c) (overflow f)) (ltb→lt (grid f a c) (overflow f)) (nltb→le (grid f a c) (overflow f))
  where
    go : (b : Bool) → (T b → grid f a c < overflow f) → (T (not b) → overflow f ≤ grid f a c) → (round f s a c ≡ inf s) ⊎ HasValue (round f s a c) s (grid f a c) (2 ^ low f)
    go true h k = inr (round_val f s a c (h tt))
    go false h k = inl (round_is f s a c ∙ units-inf f s (kept (prec f) (a * 2 ^ low f) c) (drop (prec f) (a * 2 ^ low f) c) (k tt))

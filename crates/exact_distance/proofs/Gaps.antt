-- A difference in binary32 is one rounding of the exact gap (`sub-gap`), and the gap of two values is a whole number of the format's smallest units (`gap-units`).
use mathlib.Core.Path.{◌≡◌, refl, sym, ap, ap₂, ◌∙◌}
use Prim.Native.Nat.{ℕ, ◌+◌, ◌-◌, ◌*◌, ◌^◌, ◌≤◌, ◌<◌}
use native.Mathlib.Nat.{add-mul, mul_comm, mul_right_comm, mul_assoc, mul-pos}
use native.Mathlib.Omega.{arith}
use mathlib.Core.Bool.{Bool, true, false, not, ◌&&◌, cond}
use lib.Dec.{T, ltb, ltb→lt, nltb→le}
use lib.Pow.{pow_pos}
use lib.Ieee.{Float, nan, inf, fin, Format, low, unlike, round, sum, sub}
use lib.Ieee.Exact.{HasValue}
use lib.Ieee.Scale.{round_same, finite}
use lib.Ieee.Positive.{num, den, den_pos}
use Rattle.floats.proofs.Fractions.{sub-mul, sub-value}
use Rattle.exact_distance.specs.Exact.{negative, gap}

-- what `gap` makes of the sizes p and q over one denominator
abbrev pub apart : Bool → ℕ → ℕ → ℕ
apart b p q = cond b (p + q) ((p - q) + (q - p))

apart-scale : (b : Bool) (p q k : ℕ) → apart b p q * k ≡ apart b (p * k) (q * k)
apart-scale true p q k = add-mul p q k
apart-scale false p q k = add-mul (p - q) (q - p) k ∙ ap₂ (λ (x y : ℕ). x + y) (sub-mul p q k) (sub-mul q p k)

pub gap-units : (x y : Float) (n m l : ℕ) → num x * l ≡ n * den x → num y * l ≡ m * den y → gap x y * l ≡ apart (unlike (negative x) (negative y)) n m * (den x * den y)
gap-units x y n m l h k =
    let b = unlike (negative x) (negative y) in
    apart-scale b (num x * den y) (num y * den x) l
    ∙ ap₂ (apart b) (over (num x) (den y) n (den x) h) (over (num y) (den x) m (den y) k ∙ ap (λ (z : ℕ). m * z) (mul_comm (den y) (den x)))
    ∙ sym (apart-scale b n m (den x * den y))
  where
    over : (a d n c : ℕ) → a * l ≡ n * c → a * d * l ≡ n * (c * d)
    over a d n c e = mul_right_comm a d l ∙ ap (λ (z : ℕ). z * d) e ∙ mul_assoc n c d

-- ---- the difference
module _ (f : Format) (a b c : ℕ) where
  rising : a < b → b - a ≡ (a - b) + (b - a)
  rising h = omega arith

  falling : b ≤ a → a - b ≡ (a - b) + (b - a)
  falling h = omega arith

  differ : (t u : Bool) → (s : Bool) × (cond (ltb a b) (round f t (b - a) c) (round f u (a - b) c) ≡ round f s (apart false a b) c)
  differ t u = go (ltb a b) (ltb→lt a b) (nltb→le a b)
    where
      go : (z : Bool) → (T z → a < b) → (T (not z) → b ≤ a) → (s : Bool) × (cond z (round f t (b - a) c) (round f u (a - b) c) ≡ round f s (apart false a b) c)
      go true h k = (t, ap (λ (n : ℕ). round f t n c) (rising (h tt)))
      go false h k = (u, ap (λ (n : ℕ). round f u n c) (falling (k tt)))

  sum-apart : (s t : Bool) → (u : Bool) × (sum f s a (not t) b c ≡ round f u (apart (unlike s t) a b) c)
  unfolding sum
  sum-apart true true = differ false (true && ltb b a)
  sum-apart true false = (true, refl)
  sum-apart false true = (false, refl)
  sum-apart false false = differ true (false && ltb b a)

own-fraction : (x : Float) → T (finite x) → HasValue x (negative x) (num x) (den x)
own-fraction nan h = absurd h
own-fraction (inf s) h = absurd h
own-fraction (fin s m e) h = (refl, refl)

pub sub-gap : (f : Format) (x y : Float) (n : ℕ) → T (finite x) → T (finite y) → gap x y * 2 ^ low f ≡ n * (den x * den y) → (s : Bool) × (sub f x y ≡ round f s n (2 ^ low f))
sub-gap f x y n h k e =
    let d = den x * den y in
    let v = sum-apart f (num x * den y) (num y * den x) d (negative x) (negative y) in (
      v.0,
      sub-value f x y (negative x) (negative y) (num x) (den x) (num y) (den y) (den_pos x) (den_pos y) (own-fraction x h) (own-fraction y k)
          ∙ v.1
          ∙ round_same f v.0 (gap x y) d n (2 ^ low f) (mul-pos (den_pos x) (den_pos y)) (pow_pos (low f)) e,
    )

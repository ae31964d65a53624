-- THE THEOREM: where the squared distance in binary32 is at most a limit of 2 ^ -100 or more, the exact one is at most limit · (1 + 2 ^ -20) (`distance-exact`).
-- Each operation is one rounding, which Errors bounds; one that overflows makes the whole an infinity or a NaN, and neither is at most a finite limit.
use mathlib.Core.Path.{◌≡◌, refl, sym, ap, ◌∙◌, subst}
use mathlib.Core.Logic.{inl, inr}
use Prim.Native.Nat.{ℕ, suc, ◌+◌, ◌*◌, ◌^◌, ◌≤◌, ◌<◌}
use native.Mathlib.Nat.{le_trans, le_of_eq, le_of_lt, one-mul, mul-pos, mul-le-mul_right, le_of_mul-le-mul_right}
use native.Mathlib.Omega.{arith}
use mathlib.Core.Bool.{Bool, true, false, ◌&&◌, ◌||◌, false≢true}
use borrow.Author.Tests.{ltb-true, eqb-true}
use lib.IntN.{negsuc}
use lib.Dec.{T, ltb, eqb, lit≤}
use lib.Pow.{pow_pos}
use lib.Ieee.{Float, nan, inf, fin, binary32, unlike, round, sum, add, sub, mul, eq, le}
use lib.Ieee.Exact.{HasValue}
use lib.Ieee.Scale.{grid, round_same, finite}
use lib.Ieee.Positive.{num, den, den_pos, positive, above, above_of_le, own_value, positive-finite, le→cross}
use Rattle.floats.proofs.Fractions.{scale-add, lt-value, eq-value, add-value, mul-value}
use Rattle.floats.proofs.OrderLaws.{le-either}
use Rattle.floats.proofs.Relative.{grid-loss, whole-loss, whole-units, round-either}
use Rattle.corners.specs.Corners.{squared_distance}
use Rattle.exact_distance.specs.Exact.{Number, negative, gap, DistanceExact}
use Rattle.exact_distance.proofs.Errors.{axis, within, fractions}
use Rattle.exact_distance.proofs.Gaps.{apart, gap-units, sub-gap}

-- how many of the smallest values are 1
abbrev units : ℕ
units = 2 ^ 149

-- a rounding loses at most one part in 2 ^ 24, which is suc most
abbrev most : ℕ
most = 16777215

-- ---- the square of a gap of n units: an infinity, or near n * n
data Squared (z : Float) (n : ℕ) : Type 0 where
  over : z ≡ inf false → Squared z n
  held : (s : ℕ) → HasValue z false s units → n * n * (most * most * most) * 2 ≤ (s * 2 + 1) * units * (suc most * suc most * suc most) → Squared z n

mul-inf : (s : Bool) → mul binary32 (inf s) (inf s) ≡ inf false
unfolding mul
mul-inf true = refl
mul-inf false = refl

alike : (s : Bool) → unlike s s ≡ false
alike true = refl
alike false = refl

square-of : (x : Float) (u : Bool) (g n : ℕ) → HasValue x u g units → n * suc most ≤ g * suc most + n → Squared (mul binary32 x x) n
square-of x u g n v h =
    let e = mul-value binary32 x x u u g units g units (pow_pos 149) (pow_pos 149) v v ∙ ap (λ (b : Bool). round binary32 b (g * g) (units * units)) (alike u) in
    let s = grid binary32 (g * g) (units * units) in
    elim (round-either binary32 false (g * g) (units * units)) [
      | inl i ↦ over (e ∙ i)
      | inr w ↦
          held s (subst (λ (z : Float). HasValue z false s units) (sym e) w)
          (axis n g s units most (2 ^ 23) (pow_pos 149) refl h (grid-loss binary32 (g * g) (units * units) (mul-pos (pow_pos 149) (pow_pos 149))))
    ]

square : (x : Float) (u : Bool) (n : ℕ) → x ≡ round binary32 u n units → Squared (mul binary32 x x) n
square x u n e =
    elim (round-either binary32 u n units) [
      | inl i ↦ over (ap (λ (z : Float). mul binary32 z z) (e ∙ i) ∙ mul-inf u)
      | inr v ↦ square-of x u (grid binary32 n units) n (subst (λ (z : Float). HasValue z u (grid binary32 n units) units) (sym e) v) (whole-loss binary32 n)
    ]

-- ---- what overflows is not at most a finite limit
pub nan-above : (limit : Float) → le nan limit ≡ true → ⊥
unfolding le
nan-above limit h = false≢true h

inf-above : (limit : Float) → T (finite limit) → le (inf false) limit ≡ true → ⊥
unfolding le
inf-above nan t h = absurd t
inf-above (inf s) t h = absurd t
inf-above (fin s m e) t h = false≢true h

pub over-left : (y limit : Float) → T (finite limit) → le (add binary32 (inf false) y) limit ≡ true → ⊥
unfolding add
over-left nan limit t h = nan-above limit h
over-left (inf true) limit t h = nan-above limit h
over-left (inf false) limit t h = inf-above limit t h
over-left (fin s m e) limit t h = inf-above limit t h

pub over-right : (x limit : Float) → T (finite limit) → le (add binary32 x (inf false)) limit ≡ true → ⊥
unfolding add
over-right nan limit t h = nan-above limit h
over-right (inf true) limit t h = nan-above limit h
over-right (inf false) limit t h = inf-above limit t h
over-right (fin s m e) limit t h = inf-above limit t h

-- ---- two values that are not negative, in order
either : (p q : ℕ) (x y : Bool) → ltb p q ≡ x → eqb p q ≡ y → (x || (y && true)) ≡ true → p ≤ q
either p q true y a b h = le_of_lt (ltb-true p q a)
either p q false true a b h = le_of_eq (eqb-true p q b)
either p q false false a b h = absurd (false≢true h)

le-values : (x y : Float) (a c b d : ℕ) → 0 < c → 0 < d → HasValue x false a c → HasValue y false b d → le x y ≡ true → a * d ≤ b * c
le-values x y a c b d C D v w h =
    either (a * d) (b * c) (ltb (a * d) (b * c)) (eqb (a * d) (b * c)) refl refl
    (sym (le-either x y ∙ ap (λ (z : Bool). z || eq x y) (lt-value x y false false a c b d C D v w) ∙ ap (λ (z : Bool). ltb (a * d) (b * c) || z) (eq-value x y false false a c b d C D v w)) ∙ h)

-- ---- the sum of the squares
sum_like : (a b c : ℕ) → sum binary32 false a false b c ≡ round binary32 false (a + b) c
unfolding sum
sum_like a b c = refl

add-squares : (z w : Float) (s t : ℕ) → HasValue z false s units → HasValue w false t units → add binary32 z w ≡ round binary32 false (s + t) units
add-squares z w s t v u =
    add-value binary32 z w false false s units t units (pow_pos 149) (pow_pos 149) v u
    ∙ sum_like (s * units) (t * units) (units * units)
    ∙ round_same binary32 false (s * units + t * units) (units * units) (s + t) units (mul-pos (pow_pos 149) (pow_pos 149)) (pow_pos 149) (scale-add s t units)

-- the limit is m units
module _ (limit : Float) (m : ℕ) (pos : T (positive limit)) (is : num limit * units ≡ m * den limit) where
  under : (x : Float) (r : ℕ) → HasValue x false r units → le x limit ≡ true → r ≤ m
  under x r v h =
      le_of_mul-le-mul_right
      (le_trans (le-values x limit r units (num limit) (den limit) (pow_pos 149) (den_pos limit) v (own_value limit pos) h) (le_of_eq is))
      (den_pos limit)

  from : le (fin false 1 (negsuc 99)) limit ≡ true → 2 ^ 49 ≤ m
  from h = reach (den limit) (num limit) m (2 ^ 100) (2 ^ 49) (den_pos limit) (subst (λ (z : ℕ). z ≤ num limit * 2 ^ 100) (one-mul (den limit)) (le→cross (fin false 1 (negsuc 99)) limit tt pos (subst T (sym h) tt))) is
    where
      reach : (d n m a b : ℕ) → 0 < d → d ≤ n * a → n * (a * b) ≡ m * d → b ≤ m
      reach d n m a b D h e = le_of_mul-le-mul_right (omega (arith, mul-le-mul_right b h)) D

  summed : (z w : Float) (x y : ℕ) → 2 ^ 49 ≤ m → Squared z x → Squared w y → le (add binary32 z w) limit ≡ true → (x * x + y * y) * 2 ^ 20 ≤ m * units * suc (2 ^ 20)
  summed z w x y low (over e) b h = absurd (over-left w limit (positive-finite limit pos) (subst (λ (v : Float). le (add binary32 v w) limit ≡ true) e h))
  summed z w x y low (held s v a) (over e) h = absurd (over-right z limit (positive-finite limit pos) (subst (λ (u : Float). le (add binary32 z u) limit ≡ true) e h))
  summed z w x y low (held s v a) (held t u b) h =
      let k = subst (λ (p : Float). le p limit ≡ true) (add-squares z w s t v u) h in
      elim (round-either binary32 false (s + t) units) [
        | inl i ↦ absurd (inf-above limit (positive-finite limit pos) (subst (λ (p : Float). le p limit ≡ true) i k))
        | inr g ↦
            within (x * x) (y * y) s t (grid binary32 (s + t) units) m units most (2 ^ 49) (2 ^ 20) (most * most * most) (suc most * suc most * suc most) a b (whole-loss binary32 (s + t))
            (under (round binary32 false (s + t) units) (grid binary32 (s + t) units) g k) low (lit≤ tt) (lit≤ tt)
      ]

-- ---- THE THEOREM
record Axis (x y : Float) : Type 0 where
  pub n : ℕ
  pub is : gap x y * units ≡ n * (den x * den y)
  pub square-near : Squared (mul binary32 (sub binary32 x y) (sub binary32 x y)) n

axis-of : (x y : Float) → Number x → Number y → Axis x y
axis-of x y h k =
    let u = whole-units binary32 x h.0 h.1 in
    let v = whole-units binary32 y k.0 k.1 in
    let n = apart (unlike (negative x) (negative y)) u.0 v.0 in
    let e = gap-units x y u.0 v.0 units u.1 v.1 in
    let d = sub-gap binary32 x y n h.1 k.1 e in
    record { n = n; is = e; square-near = square (sub binary32 x y) d.0 n d.1 }

pub positive-from : (lo z : Float) → T (positive lo) → T (finite z) → le lo z ≡ true → T (positive z)
positive-from lo z p t h = go z t (above_of_le lo z p (subst T (sym h) tt))
  where
    go : (z : Float) → T (finite z) → T (above z) → T (positive z)
    go nan t a = absurd t
    go (inf s) t a = absurd t
    go (fin true m e) t a = absurd a
    go (fin false m e) t a = a

pub distance-exact : DistanceExact
unfolding squared_distance
distance-exact ax ay bx by limit nax nay nbx nby fine reaches within-limit =
    let a = axis-of ax bx nax nbx in
    let b = axis-of ay by nay nby in
    let l = whole-units binary32 limit fine.0 fine.1 in
    let pos = positive-from (fin false 1 (negsuc 99)) limit tt fine.1 reaches in
    fractions (gap ax bx) (den ax * den bx) (gap ay by) (den ay * den by) (num limit) (den limit) a.n b.n l.0 units (2 ^ 20) (suc (2 ^ 20)) (pow_pos 149) a.is b.is l.1
    (summed limit l.0 pos l.1 _ _ a.n b.n (from limit l.0 pos l.1 reaches) a.square-near b.square-near within-limit)

-- The way to the written value for samples below P = 2 ^ p, p up to 12, in whole numbers: which steps each operation leaves, and how far it moves.
-- Three operations round. cross / 5 and the middle difference are whole numbers of 2 ^ -26 and move by at most 2 · P of them; the last difference is
-- a whole number of 2 ^ -22 and moves by at most 4 · P of them. The sums, their difference, ring / 16 and the product by sixteen are exact.
use mathlib.Core.Path.{◌≡◌, refl, sym, ap, ◌∙◌, subst}
use mathlib.Core.Logic.{◌⊎◌, inl, inr}
use Prim.Native.Nat.{ℕ, zero, suc, ◌+◌, ◌-◌, ◌*◌, ◌^◌, ◌≤◌, ◌<◌}
use native.Mathlib.Nat.{le_refl, lt_of_lt_of_le, add_left_comm, one-mul, mul-one, mul_comm, mul_assoc, mul-le-mul, sub_self, eq-zero-or-pos}
use native.Mathlib.Omega.{arith}
use mathlib.Core.Bool.{Bool, true, false, not}
use lib.IntN.{pos}
use lib.Dec.{T, leb, leb→le, nleb→lt, lit<, lit≤}
use lib.Pow.{pow-add, pow_pos, pow_mono}
use lib.Ieee.{Float, nan, inf, fin, binary32, Format, fits, of_int, round, sub, mul, div}
use lib.Ieee.Fits.{sub-fits}
use lib.Ieee.Exact.{HasValue}
use Rattle.floats.specs.Magnitude.{magnitude}
use Rattle.floats.proofs.Half.{Near}
use Rattle.floats.proofs.Fractions.{mul-value, div_value}
use Rattle.shapes.specs.Numbers.{plus_zero}
use Rattle.pixel_response.specs.Samples.{apart, sixteen, five, value_of}
use Rattle.pixel_response.specs.Near.{ByAtMost}
use Rattle.pixel_response.proofs.SumLaws.{Bounded}
use Rattle.pixel_response.proofs.RoundLaws.{Rounded, Difference, value_same, exact, many, whole, difference, difference-of, sub-above, shifted}

pub record Way (P sr dr ring cross : ℕ) (v : Float) : Type 0 where
  -- cross / 5 and the middle difference, in steps of 2 ^ -26
  pub fifth : ℕ
  pub fifth-near : Near (fifth * 5) (cross * 2 ^ 26) (5 * (P * 4))
  pub inner : Bool
  pub middle : ℕ
  pub middle-near : ByAtMost (P * 4) inner (2 * middle) (2 * (ring * 2 ^ 22)) (2 * fifth)
  -- the value, in steps of 2 ^ -22, and so is sixteen times the middle
  pub negative : Bool
  pub units : ℕ
  pub size : HasValue v negative units (2 ^ 22)
  pub near : ByAtMost (P * 8) negative (2 * units) (2 * (sr * 2 ^ 22)) (2 * (dr * 2 ^ 22 + middle))

-- ---- the steps of `value_of`
abbrev sided : ℕ → ℕ → Float
sided sr dr = sub binary32 (of_int binary32 (pos sr)) (of_int binary32 (pos dr))

abbrev ring_mean : ℕ → Float
ring_mean ring = div binary32 (of_int binary32 (pos ring)) sixteen

abbrev cross_mean : ℕ → Float
cross_mean cross = div binary32 (of_int binary32 (pos cross)) five

abbrev unlevel : ℕ → ℕ → Float
unlevel ring cross = sub binary32 (ring_mean ring) (cross_mean cross)

abbrev level : ℕ → ℕ → Float
level ring cross = mul binary32 sixteen (magnitude (unlevel ring cross))

-- ---- the sizes of single operations
of-whole : (n : ℕ) → n < 2 ^ 24 → HasValue (of_int binary32 (pos n)) false n (2 ^ 0)
unfolding of_int
of-whole n h = exact binary32 0 149 refl false n 1 (pow_pos 0) n h refl

magnitude-value : (x : Float) (s : Bool) (a c : ℕ) → HasValue x s a c → HasValue (magnitude x) false a c
unfolding magnitude
magnitude-value nan s a c h = h
magnitude-value (inf t) s a c h = h
magnitude-value (fin t m e) s a c h = (refl, h.1)

magnitude-fits : (f : Format) (x : Float) → T (fits f x) → T (fits f (magnitude x))
unfolding magnitude fits
magnitude-fits f nan p = p
magnitude-fits f (inf t) p = p
magnitude-fits f (fin t zero e) p = p
magnitude-fits f (fin t (suc m) e) p = p

sixteen-value : HasValue sixteen false 16 1
sixteen-value = (refl, refl)

five-value : HasValue five false 5 1
five-value = (refl, refl)

-- sixteen times the magnitude of q / (16 * d)
sixteen-times : (x : Float) (s : Bool) (q d : ℕ) → T (fits binary32 x) → HasValue x s q (16 * d) → 0 < d → q < 2 ^ 60 → HasValue (mul binary32 sixteen (magnitude x)) false q d
sixteen-times x s q d p h D l =
    let M = magnitude-value x s q (16 * d) h in
    let E : 0 < 16 * d = omega arith in
    let L : q * 2 ^ 4 < 2 ^ 64 = omega arith in
    subst (λ (z : Float). HasValue z false q d)
    (sym (mul-value binary32 sixteen (magnitude x) false false 16 1 q (16 * d) (pow_pos 0) E sixteen-value M ∙ ap (λ (z : ℕ). round binary32 false z (1 * (16 * d))) (mul_comm 16 q) ∙ ap (λ (z : ℕ). round binary32 false (q * 2 ^ 4) z) (one-mul (16 * d))))
    (value_same (round binary32 false (q * 2 ^ 4) (16 * d)) false (q * 2 ^ 4) (16 * d) q d E (mul_assoc q 16 d)
    (shifted binary32 (magnitude x) false q (16 * d) 4 (magnitude-fits binary32 x p) M E (lt_of_lt_of_le L (mul-le-mul {n₁ = 2 ^ 64} {m₁ = 1} {n₂ = 2 ^ 128} {m₂ = 16 * d} (lit≤ tt) E))))

ring-value : (n : ℕ) → n < 2 ^ 24 → HasValue (ring_mean n) false n (2 ^ 4)
ring-value n h =
    subst (λ (z : Float). HasValue z false n (2 ^ 4)) (sym (div_value binary32 (of_int binary32 (pos n)) sixteen false false n 1 16 1 (pow_pos 0) (pow_pos 0) (lit< tt) (of-whole n h) sixteen-value))
    (exact binary32 4 145 refl false (n * 1) (16 * 1) (lit< tt) n h (omega arith))

cross-is : (n : ℕ) → n < 2 ^ 24 → cross_mean n ≡ round binary32 false n 5
cross-is n h =
    div_value binary32 (of_int binary32 (pos n)) five false false n 1 5 1 (pow_pos 0) (pow_pos 0) (lit< tt) (of-whole n h) five-value
    ∙ ap (λ (z : ℕ). round binary32 false z 5) (mul-one n)

-- ---- powers of two at a limit
power : (p k : ℕ) → 2 ^ (24 + (p + k)) ≡ 2 ^ p * 2 ^ (24 + k)
power p k = ap (λ (z : ℕ). 2 ^ z) (add_left_comm 24 p k) ∙ pow-add 2 p (24 + k)

room : (p k : ℕ) → p ≤ 12 → k ≤ 3 → 24 + (p + k) < 128
room p k h l = omega arith

pub limit : (p : ℕ) → p ≤ 12 → 2 ^ p ≤ 4096
limit p le = pow_mono {i = p} {j = 12} le

-- ---- the bounds of the way, over plain numbers: q the steps of cross / 5, m those of the middle difference, d those of SR - DR
sum-small : (P n : ℕ) → P ≤ 4096 → n ≤ 16 * P → n < 2 ^ 24
sum-small P n h k = omega arith

cross-tiny : (P n : ℕ) → P ≤ 4096 → n + 5 ≤ 5 * P → n < 2 ^ 20
cross-tiny P n h k = omega arith

cross-some : (n : ℕ) → 0 < n → 2 ^ 23 * 5 ≤ n * 2 ^ 26
cross-some n h = omega arith

cross-below : (P n : ℕ) → n + 5 ≤ 5 * P → n * 2 ^ 26 < P * 2 ^ 26 * 5
cross-below P n h = omega arith

fifth-below : (P n q : ℕ) → P ≤ 4096 → n + 5 ≤ 5 * P → Near (q * 5) (n * 2 ^ 26) (5 * (P * 4)) → q < P * 2 ^ 26
fifth-below P n q h k l = omega arith

ring-below : (P n : ℕ) → n + 16 ≤ 16 * P → n * 2 ^ 22 < P * 2 ^ 26
ring-below P n h = omega arith

middle-below : (s : Bool) (P n q m : ℕ) → n + 16 ≤ 16 * P → q < P * 2 ^ 26 → ByAtMost (P * 4) s (2 * m) (2 * (n * 2 ^ 22)) (2 * q) → m < P * (2 ^ 26 + 2)
middle-below false P n q m h k w = omega arith
middle-below true P n q m h k w = omega arith

middle-small : (P m : ℕ) → P ≤ 4096 → m < P * (2 ^ 26 + 2) → m < 2 ^ 60
middle-small P m h k = omega arith

halved : (s : Bool) (d a b : ℕ) → ByAtMost 1 s (2 * d) (2 * a) (2 * b) → ByAtMost 0 s (d * 2 ^ 22) (a * 2 ^ 22) (b * 2 ^ 22)
halved false d a b w = (omega arith, omega arith)
halved true d a b w = (omega arith, omega arith)

last-below : (s : Bool) (P a b d m : ℕ) → a ≤ 8 * P → b ≤ 8 * P → ByAtMost 1 s (2 * d) (2 * a) (2 * b) → m < P * (2 ^ 26 + 2) → d * 2 ^ 22 + m < P * 2 ^ 27
last-below false P a b d m h k w l = omega arith
last-below true P a b d m h k w l = omega arith

-- ---- the way
cross-rounded : (p n : ℕ) → p ≤ 12 → n < 2 ^ 24 → n + 5 ≤ 5 * 2 ^ p → Rounded (cross_mean n) false (n * 2 ^ 26) 5 26 (p + 2)
cross-rounded p n le s h = subst (λ (z : Float). Rounded z false (n * 2 ^ 26) 5 26 (p + 2)) (sym (cross-is n s)) (go (eq-zero-or-pos n))
  where
    go : (n ≡ 0) ⊎ (0 < n) → Rounded (round binary32 false n 5) false (n * 2 ^ 26) 5 26 (p + 2)
    go (inl z) = whole binary32 26 123 (p + 2) refl (room p 2 le (lit≤ tt)) false n 5 (lit< tt) 0 (ap (λ (x : ℕ). x * 2 ^ 26) z) (pow_pos (24 + (p + 2)))
    go (inr l) =
        many binary32 26 123 (p + 2) refl (room p 2 le (lit≤ tt)) false n 5 (lit< tt) (cross-some n l)
        (subst (λ (z : ℕ). n * 2 ^ 26 < z * 5) (sym (power p 2)) (cross-below (2 ^ p) n h))

module _ (p sr dr ring cross : ℕ) (le : p ≤ 12) (b : Bounded (2 ^ p) sr dr ring cross) where
  sr-small : sr < 2 ^ 24
  sr-small = sum-small (2 ^ p) sr (limit p le) (omega arith)

  dr-small : dr < 2 ^ 24
  dr-small = sum-small (2 ^ p) dr (limit p le) (omega arith)

  ring-small : ring < 2 ^ 24
  ring-small = sum-small (2 ^ p) ring (limit p le) (omega arith)

  cross-small : cross < 2 ^ 24
  cross-small = sum-small (2 ^ p) cross (limit p le) (omega arith)

  fifth_of : Rounded (cross_mean cross) false (cross * 2 ^ 26) 5 26 (p + 2)
  fifth_of = cross-rounded p cross le cross-small b.by-cross

  fifth-is : Near (fifth_of.steps * 5) (cross * 2 ^ 26) (5 * (2 ^ p * 4))
  fifth-is = subst (λ (z : ℕ). Near (fifth_of.steps * 5) (cross * 2 ^ 26) (5 * z)) (pow-add 2 p 2) fifth_of.near

  fifth-under : fifth_of.steps < 2 ^ p * 2 ^ 26
  fifth-under = fifth-below (2 ^ p) cross fifth_of.steps (limit p le) b.by-cross fifth-is

  middle_of : Difference (unlevel ring cross) (ring * 2 ^ 22) fifth_of.steps 26 (p + 2)
  middle_of =
      difference binary32 26 123 (p + 2) refl (room p 2 le (lit≤ tt)) (ring_mean ring) (cross_mean cross) (ring * 2 ^ 22) fifth_of.steps
      (value_same (ring_mean ring) false ring (2 ^ 4) (ring * 2 ^ 22) (2 ^ 26) (pow_pos 4) (omega arith) (ring-value ring ring-small))
      fifth_of.value
      (subst (λ (z : ℕ). ring * 2 ^ 22 < z) (sym (power p 2)) (ring-below (2 ^ p) ring b.by-ring))
      (subst (λ (z : ℕ). fifth_of.steps < z) (sym (power p 2)) fifth-under)

  middle-is : ByAtMost (2 ^ p * 4) middle_of.negative (2 * middle_of.steps) (2 * (ring * 2 ^ 22)) (2 * fifth_of.steps)
  middle-is = subst (λ (z : ℕ). ByAtMost z middle_of.negative (2 * middle_of.steps) (2 * (ring * 2 ^ 22)) (2 * fifth_of.steps)) (pow-add 2 p 2) middle_of.close

  middle-under : middle_of.steps < 2 ^ p * (2 ^ 26 + 2)
  middle-under = middle-below middle_of.negative (2 ^ p) ring fifth_of.steps middle_of.steps b.by-ring fifth-under middle-is

  level-is : HasValue (level ring cross) false middle_of.steps (2 ^ 22)
  level-is =
      sixteen-times (unlevel ring cross) middle_of.negative middle_of.steps (2 ^ 22) (sub-fits binary32 (ring_mean ring) (cross_mean cross)) middle_of.value (pow_pos 22)
      (middle-small (2 ^ p) middle_of.steps (limit p le) middle-under)

  sides_of : Difference (sided sr dr) sr dr 0 0
  sides_of = difference binary32 0 149 0 refl (lit< tt) (of_int binary32 (pos sr)) (of_int binary32 (pos dr)) sr dr (of-whole sr sr-small) (of-whole dr dr-small) sr-small dr-small

  written : Difference (value_of sr dr ring cross) (sr * 2 ^ 22) (dr * 2 ^ 22 + middle_of.steps) 22 (p + 3)
  unfolding value_of
  written =
      difference-of binary32 22 127 (p + 3) refl (room p 3 le (lit≤ tt)) (sided sr dr) (level ring cross)
      sides_of.negative (sides_of.steps * 2 ^ 22) middle_of.steps (sr * 2 ^ 22) (dr * 2 ^ 22)
      (value_same (sided sr dr) sides_of.negative sides_of.steps (2 ^ 0) (sides_of.steps * 2 ^ 22) (2 ^ 22) (pow_pos 0) (omega arith) sides_of.value)
      (halved sides_of.negative sides_of.steps sr dr sides_of.close)
      level-is
      (subst (λ (z : ℕ). sides_of.steps * 2 ^ 22 + middle_of.steps < z) (sym (power p 3)) (last-below sides_of.negative (2 ^ p) sr dr sides_of.steps middle_of.steps b.by-square b.by-edge sides_of.close middle-under))

  pub way : Way (2 ^ p) sr dr ring cross (value_of sr dr ring cross)
  way = record {
    fifth = fifth_of.steps;
    fifth-near = fifth-is;
    inner = middle_of.negative;
    middle = middle_of.steps;
    middle-near = middle-is;
    negative = written.negative;
    units = written.steps;
    size = written.value;
    near = subst (λ (z : ℕ). ByAtMost z written.negative (2 * written.steps) (2 * (sr * 2 ^ 22)) (2 * (dr * 2 ^ 22 + middle_of.steps))) (pow-add 2 p 3) written.close;
  }

-- ---- |a - b|, by which is larger
abbrev pub Apart : ℕ → ℕ → ℕ → Type 0
Apart a b g = (a ≡ b + g) ⊎ (b ≡ a + g)

pub apart_by : (a b : ℕ) → Apart a b (apart a b)
unfolding apart
apart_by a b = go (leb a b) (leb→le a b) (nleb→lt a b)
  where
    go : (t : Bool) → (T t → a ≤ b) → (T (not t) → b < a) → Apart a b ((a - b) + (b - a))
    go true h k = let l = h tt in inr (omega arith)
    go false h k = let l = k tt in inl (omega arith)

-- ---- where N is zero, 5 divides the cross sum: nothing is rounded, and the last operation takes a value from itself
five-divides : (sr dr ring cross g : ℕ) → 5 * sr ≡ 5 * dr + g → Apart (5 * ring) (16 * cross) g → (w : ℕ) × (cross ≡ w * 5)
five-divides sr dr ring cross g e (inl a) = (ring + dr - (sr + 3 * cross), omega arith)
five-divides sr dr ring cross g e (inr a) = (ring + sr - (dr + 3 * cross), omega arith)

same-sides : (s : Bool) (sr dr ring w q g : ℕ) → 5 * sr ≡ 5 * dr + g → Apart (5 * ring) (16 * (w * 5)) g → ByAtMost 1 s (2 * q) (2 * ring) (2 * (w * 16)) → sr - dr ≡ q
same-sides false sr dr ring w q g e (inl a) c = omega arith
same-sides false sr dr ring w q g e (inr a) c = omega arith
same-sides true sr dr ring w q g e (inl a) c = omega arith
same-sides true sr dr ring w q g e (inr a) c = omega arith

round-zero : round binary32 false 0 1 ≡ plus_zero
unfolding round
round-zero = refl

module _ (sr dr ring w g : ℕ) (even : 5 * sr ≡ 5 * dr + g) (by : Apart (5 * ring) (16 * (w * 5)) g) (S : sr < 2 ^ 24) (D : dr < 2 ^ 24) (R : ring < 2 ^ 24) (C : w * 5 < 2 ^ 20) where
  exactly : Difference (unlevel ring (w * 5)) ring (w * 16) 4 0
  exactly =
      difference binary32 4 145 0 refl (lit< tt) (ring_mean ring) (cross_mean (w * 5)) ring (w * 16) (ring-value ring R)
      (value_same (cross_mean (w * 5)) false w (2 ^ 0) (w * 16) (2 ^ 4) (pow_pos 0) (omega arith)
      (subst (λ (z : Float). HasValue z false w (2 ^ 0)) (sym (cross-is (w * 5) (omega arith))) (exact binary32 0 149 refl false (w * 5) 5 (lit< tt) w (omega arith) (omega arith))))
      R (omega arith)

  both : sr - dr ≡ exactly.steps
  both = same-sides exactly.negative sr dr ring w exactly.steps g even by exactly.close

  no_value : value_of sr dr ring (w * 5) ≡ plus_zero
  unfolding value_of
  no_value =
      sub-above binary32 (sided sr dr) (level ring (w * 5)) exactly.steps exactly.steps 1 (pow_pos 0)
      (sixteen-times (unlevel ring (w * 5)) exactly.negative exactly.steps 1 (sub-fits binary32 (ring_mean ring) (cross_mean (w * 5))) exactly.value (pow_pos 0) (omega (arith, both)))
      (subst (λ (z : ℕ). HasValue (sided sr dr) false z 1) both
      (subst (λ (z : Float). HasValue z false (sr - dr) 1) (sym (sub-above binary32 (of_int binary32 (pos sr)) (of_int binary32 (pos dr)) sr dr 1 (pow_pos 0) (of-whole dr D) (of-whole sr S) (omega arith)))
      (exact binary32 0 149 refl false (sr - dr) 1 (pow_pos 0) (sr - dr) (omega arith) refl)))
      (le_refl exactly.steps)
      ∙ ap (λ (z : ℕ). round binary32 false z 1) (sub_self exactly.steps)
      ∙ round-zero

pub value-zero : (p sr dr ring cross : ℕ) → p ≤ 12 → Bounded (2 ^ p) sr dr ring cross → 5 * sr ≡ 5 * dr + apart (5 * ring) (16 * cross) → value_of sr dr ring cross ≡ plus_zero
value-zero p sr dr ring cross le b e =
    let g = apart (5 * ring) (16 * cross) in
    let a = apart_by (5 * ring) (16 * cross) in
    let w = five-divides sr dr ring cross g e a in
    ap (λ (z : ℕ). value_of sr dr ring z) w.1
    ∙ no_value sr dr ring w.0 g e (subst (λ (z : ℕ). Apart (5 * ring) (16 * z) g) w.1 a)
    (sr-small p sr dr ring cross le b) (dr-small p sr dr ring cross le b) (ring-small p sr dr ring cross le b)
    (subst (λ (z : ℕ). z < 2 ^ 20) w.1 (cross-tiny (2 ^ p) cross (limit p le) b.by-cross))

-- The response of an inverted board, and of samples that are all moved by one number: N depends on neither, and two values that stand for one N are alike.
use mathlib.Core.Path.{◌≡◌, refl, sym, ap, ◌∙◌, subst}
use mathlib.Core.Logic.{◌⊎◌, inl, inr, ⊎_elim}
use mathlib.Core.Bool.{Bool, true, false, cond}
use mathlib.Core.List.{List}
use Prim.Native.Nat.{ℕ, zero, suc, ◌+◌, ◌-◌, ◌*◌, ◌%◌, ◌^◌, ◌≤◌, ◌<◌}
use native.Mathlib.Omega.{arith}
use lib.Dec.{T, ltb}
use lib.IntN.{ℤ}
use lib.ListN.{length, get_or}
use lib.Ieee.{Float, of_int, sub, mul, div, lt}
use lib.Ieee.Bits.{is_true}
use lib.Ieee.Exact.{HasValue}
use Rattle.floats.specs.Magnitude.{magnitude}
use Rattle.floats.proofs.OrderLaws.{lt-asym}
use Rattle.shapes.specs.Numbers.{plus_zero}
use Rattle.imageview.specs.Image.{Image, pixel}
use Rattle.pixel_response.specs.Samples.{square_sum, edge_sum, ring_sum, cross_sum, response_of}
use Rattle.pixel_response.specs.Near.{ByAtMost, Near, Stands, Orders}
use Rattle.pixel_response.proofs.DemandLaws.{stands-256, orders-256, stands-4096, orders-4096}
use Rattle.pixel_response.proofs.PixelLaws.{gain-cong, loss-cong}
use Rattle.pixel_response.proofs.Inversion.{gain-inverted, loss-inverted, gain-shifted, loss-shifted}
use Rattle.response.specs.Region.{Region, ring_fits, ring_sample, cross_sample}
use Rattle.response.specs.Demand.{PixelsBelow, column_at, row_at, fits_at, gain_at, loss_at}
use Rattle.response.proofs.DemandThree.{Passed, passed, call-keeps}
use Rattle.response.proofs.PixelsAlone.{ring-holds, cross-holds, fits-same}
use Rattle.theorems.specs.Inverted.{DifferBy, Alike, SameThere, BothWrote, InvertedAlike, InvertedBytes, InvertedDeep, MovedAlike, MovedBytes, MovedDeep}

-- ---- two values that stand for one N
apart-units : (P : ℕ) (s t : Bool) (a b g l g' l' : ℕ) → g + l' ≡ g' + l → ByAtMost (40 * P) s (5 * a) g l → ByAtMost (40 * P) t (5 * b) g' l' → DifferBy (16 * P) s a t b
apart-units P false false a b g l g' l' e p q = (let z : a ≤ b + 16 * P = omega (arith, p.0, q.1) in z, let z : b ≤ a + 16 * P = omega (arith, p.1, q.0) in z)
apart-units P true true a b g l g' l' e p q = (let z : a ≤ b + 16 * P = omega (arith, p.1, q.0) in z, let z : b ≤ a + 16 * P = omega (arith, p.0, q.1) in z)
apart-units P false true a b g l g' l' e p q = omega (arith, p.0, q.1)
apart-units P true false a b g l g' l' e p q = omega (arith, p.1, q.0)

trichotomy : (a b : ℕ) → (a < b) ⊎ ((a ≡ b) ⊎ (b < a))
trichotomy zero zero = inr (inl refl)
trichotomy zero (suc b) = inl (omega arith)
trichotomy (suc a) zero = inr (inr (omega arith))
trichotomy (suc a) (suc b) = ⊎_elim (λ p. inl (omega arith)) (λ q. ⊎_elim (λ e. inr (inl (ap suc e))) (λ r. inr (inr (omega arith))) q) (trichotomy a b)

module _ (P : ℕ) (v w : Float) (g l g' l' : ℕ) (e : g + l' ≡ g' + l) (n : Near P v g l) (n' : Near P w g' l') where
  abbrev Signs : Type 0
  Signs = (lt plus_zero v ≡ lt plus_zero w) × (lt v plus_zero ≡ lt w plus_zero)

  signs : Signs
  signs =
      ⊎_elim
      (λ (p : l < g).
      let a = n.above p in
      let b = n'.above (omega arith) in
      (a ∙ sym b, lt-asym plus_zero v a ∙ sym (lt-asym plus_zero w b)))
      (λ q. ⊎_elim
      (λ (p : l ≡ g).
      let a = n.none (sym p) in
      let b = n'.none (let z : g' ≡ l' = omega arith in z) in
      (ap (λ (x : Float). lt plus_zero x) (a ∙ sym b), ap (λ (x : Float). lt x plus_zero) (a ∙ sym b)))
      (λ (p : g < l).
      let a = n.below p in
      let b = n'.below (omega arith) in
      (lt-asym v plus_zero a ∙ sym (lt-asym w plus_zero b), a ∙ sym b))
      q)
      (trichotomy l g)

  one-n : Alike P v w
  one-n =
      record {
        above = signs.0;
        below = signs.1;
        negative = n.negative;
        units = n.units;
        size = n.size;
        negative' = n'.negative;
        units' = n'.units;
        size' = n'.size;
        close = apart-units P n.negative n'.negative n.units n'.units (g * 2 ^ 22) (l * 2 ^ 22) (g' * 2 ^ 22) (l' * 2 ^ 22) scaled n.close n'.close;
      }
    where
      scaled : g * 2 ^ 22 + l' * 2 ^ 22 ≡ g' * 2 ^ 22 + l * 2 ^ 22
      scaled = omega arith

-- ---- two calls: one law serves both claims, of samples below P
module _ (P : ℕ) (stands : Stands P) (orders : Orders P) (a b : Image) (wide : a.width ≡ b.width) (high : a.height ≡ b.height) (under : PixelsBelow P a) (under' : PixelsBelow P b) (ring : List ℤ) (radius : ℕ) (c : Region) (out out' : List Float) (both : BothWrote a b ring radius c out out') (i : ℕ) (fits : fits_at a radius c i) where
  same-there : gain_at b ring c i ≡ gain_at a ring c i → loss_at b ring c i ≡ loss_at a ring c i → SameThere P a b ring c i (get_or out i plus_zero) (get_or out' i plus_zero)
  same-there g l =
      let n : gain_at a ring c i + loss_at b ring c i ≡ gain_at b ring c i + loss_at a ring c i = cc in
      record {
        same = n;
        alike = one-n P (get_or out i plus_zero) (get_or out' i plus_zero) (gain_at a ring c i) (loss_at a ring c i) (gain_at b ring c i) (loss_at b ring c i) n
            ((call-keeps P stands orders a ring radius both.region c both.old both.answer out under both.done both.way).stands i fits)
            ((call-keeps P stands orders b ring radius both.region c both.old' both.answer' out' under' both.done' both.way').stands i
            (fits.0, subst T (sym (fits-same a b (sym wide) (sym high) radius (column_at c i) (row_at c i))) fits.1));
      }

-- m - p, of a sample p of at most m
abbrev Inverse : ℕ → ℕ → ℕ → Type 0
Inverse m p q = (p ≤ m) × (q ≡ m - p)

pub inverted-alike : (m : ℕ) → Stands (m + 1) → Orders (m + 1) → InvertedAlike m
inverted-alike m stands orders a b v under under' ring radius c out out' both i fits =
    same-there (m + 1) stands orders a b v.width v.height under under' ring radius c out out' both i fits
    (gain-cong s' d' (λ k. m - s k) (λ k. m - d k) (λ k h. (rings k).1) (λ k h. (crosses k).1) ∙ gain-inverted m s d (λ k h. (rings k).0) (λ k h. (crosses k).0))
    (loss-cong s' d' (λ k. m - s k) (λ k. m - d k) (λ k h. (rings k).1) (λ k h. (crosses k).1) ∙ loss-inverted m s d (λ k h. (rings k).0) (λ k h. (crosses k).0))
  where
    x : ℕ
    x = column_at c i

    y : ℕ
    y = row_at c i

    s : ℕ → ℕ
    s = ring_sample a ring x y

    d : ℕ → ℕ
    d = cross_sample a x y

    s' : ℕ → ℕ
    s' = ring_sample b ring x y

    d' : ℕ → ℕ
    d' = cross_sample b x y

    pixels : (x y : ℕ) → x < a.width → y < a.height → Inverse m (pixel a x y) (pixel b x y)
    pixels x y h k = (omega (arith, under x y h k), v.inverts x y h k)

    tests : Passed a ring radius
    tests = passed a ring radius both.region c (length both.old) both.way

    clear : ring_fits a radius x y ≡ true
    clear = is_true (ring_fits a radius x y) fits.1

    rings : (k : ℕ) → Inverse m (s k) (s' k)
    rings = ring-holds (Inverse m) a b pixels radius x y clear ring tests.within

    crosses : (k : ℕ) → Inverse m (d k) (d' k)
    crosses = cross-holds (Inverse m) a b pixels radius x y clear tests.some

pub inverted-bytes : InvertedBytes
inverted-bytes = inverted-alike 255 stands-256 orders-256

pub inverted-deep : InvertedDeep
inverted-deep = inverted-alike 4095 stands-4096 orders-4096

-- the one image's samples raised by down are the other's raised by up
pub moved-alike : (P : ℕ) → Stands P → Orders P → MovedAlike P
moved-alike P stands orders a b wide high under under' ring radius c out out' both up down i fits m =
    same-there P stands orders a b wide high under under' ring radius c out out' both i fits
    (sym (gain-shifted down s' d') ∙ gain-cong (λ k. s' k + down) (λ k. d' k + down) (λ k. s k + up) (λ k. d k + up) m.ring-by m.cross-by ∙ gain-shifted up s d)
    (sym (loss-shifted down s' d') ∙ loss-cong (λ k. s' k + down) (λ k. d' k + down) (λ k. s k + up) (λ k. d k + up) m.ring-by m.cross-by ∙ loss-shifted up s d)
  where
    s : ℕ → ℕ
    s = ring_sample a ring (column_at c i) (row_at c i)

    d : ℕ → ℕ
    d = cross_sample a (column_at c i) (row_at c i)

    s' : ℕ → ℕ
    s' = ring_sample b ring (column_at c i) (row_at c i)

    d' : ℕ → ℕ
    d' = cross_sample b (column_at c i) (row_at c i)

pub moved-bytes : MovedBytes
moved-bytes = moved-alike 256 stands-256 orders-256

pub moved-deep : MovedDeep
moved-deep = moved-alike 4096 stands-4096 orders-4096

-- ---- closed cases: the values do differ, here by 2 ^ -13; quarters of the ring in turn, and a cross of two samples and three
abbrev shown : ℕ → ℕ → ℕ → ℕ → Float
shown light dark two three = response_of (λ k. cond (ltb (k % 8) 4) light dark) (λ k. cond (ltb k 2) two three)

raised : HasValue (shown 254 0 128 127) false 16593715 (2 ^ 13) × HasValue (shown 255 1 129 128) false 16593716 (2 ^ 13)
unfolding response_of square_sum edge_sum ring_sum cross_sum of_int sub mul div magnitude
raised = ((refl, refl), (refl, refl))

inverted : HasValue (shown 254 0 1 0) false 52429 (2 ^ 13) × HasValue (shown 1 255 254 255) false 52428 (2 ^ 13)
unfolding response_of square_sum edge_sum ring_sum cross_sum of_int sub mul div magnitude
inverted = ((refl, refl), (refl, refl))

-- The rule of one pixel, test by test.
use mathlib.Core.Path.{◌≡◌, sym, ap, ◌∙◌}
use mathlib.Core.Logic.{◌⊎◌, inl, inr, ⊎_elim}
use mathlib.Core.Bool.{Bool, true, false, ◌&&◌, and-false}
use Prim.Native.Nat.{ℕ, zero, suc, ◌+◌, ◌*◌, ◌≤◌, ◌<◌, zero-le, suc-le-suc}
use native.Mathlib.Omega.{arith}
use lib.Dec.{leb, ltb}
use lib.ListN.{get_or}
use lib.Ieee.{Float, nan, lt}
use borrow.Author.Tests.{lt-leb, le-leb, lt-ltb, le-ltb}
use Rattle.peaks.specs.Peak.{Scan, value_at, border, inside, floor_of, highest, positives, is_peak}
use Rattle.peaks.specs.Steps.{InsideBorder, Bordered}
use Rattle.shapes.proofs.TestLaws.{both}

pub lt-or-le : (a b : ℕ) → (a < b) ⊎ (b ≤ a)
lt-or-le a zero = inr zero-le
lt-or-le zero (suc b) = inl (suc-le-suc zero-le)
lt-or-le (suc a) (suc b) = ⊎_elim (λ p. inl (suc-le-suc p)) (λ q. inr (suc-le-suc q)) (lt-or-le a b)

module _ (s : Scan) (x y : ℕ) where
  abbrev value : Float
  value = get_or s.values (y * s.width + x) nan

  pub peak-by : inside s x y ≡ true → lt (floor_of s) value ≡ true → highest s x y ≡ true → leb s.cluster (positives s x y) ≡ is_peak s x y
  unfolding is_peak value_at
  peak-by e f g = sym (ap (λ (z : Bool). z && leb s.cluster (positives s x y)) (both (both e f) g))

  pub not-highest : highest s x y ≡ false → false ≡ is_peak s x y
  unfolding is_peak value_at
  not-highest e =
      sym (ap (λ (z : Bool). inside s x y && lt (floor_of s) value && z && leb s.cluster (positives s x y)) e
      ∙ ap (λ (z : Bool). z && leb s.cluster (positives s x y)) (and-false (inside s x y && lt (floor_of s) value)))

  pub not-above : lt (floor_of s) value ≡ false → false ≡ is_peak s x y
  unfolding is_peak value_at
  not-above e =
      sym (ap (λ (z : Bool). inside s x y && z && highest s x y && leb s.cluster (positives s x y)) e
      ∙ ap (λ (z : Bool). z && highest s x y && leb s.cluster (positives s x y)) (and-false (inside s x y)))

  outside : inside s x y ≡ false → is_peak s x y ≡ false
  unfolding is_peak
  outside e = ap (λ (z : Bool). z && lt (floor_of s) (value_at s x y) && highest s x y && leb s.cluster (positives s x y)) e

  abbrev four : Bool → Bool → Bool → Bool → Bool
  four a b c d = a && b && c && d

  pub left_out : x < border s → is_peak s x y ≡ false
  unfolding inside
  left_out h = outside (ap (λ (z : Bool). four z (ltb (x + border s) s.width) (leb (border s) y) (ltb (y + border s) s.height)) (lt-leb (border s) x h))

  pub right-out : s.width ≤ x + border s → is_peak s x y ≡ false
  unfolding inside
  right-out h =
      outside (ap (λ (z : Bool). four (leb (border s) x) z (leb (border s) y) (ltb (y + border s) s.height)) (le-ltb (x + border s) s.width h)
      ∙ ap (λ (z : Bool). z && leb (border s) y && ltb (y + border s) s.height) (and-false (leb (border s) x)))

  pub above-out : y < border s → is_peak s x y ≡ false
  unfolding inside
  above-out h =
      outside (ap (λ (z : Bool). four (leb (border s) x) (ltb (x + border s) s.width) z (ltb (y + border s) s.height)) (lt-leb (border s) y h)
      ∙ ap (λ (z : Bool). z && ltb (y + border s) s.height) (and-false (leb (border s) x && ltb (x + border s) s.width)))

  pub below_out : s.height ≤ y + border s → is_peak s x y ≡ false
  unfolding inside
  below_out h =
      outside (ap (λ (z : Bool). four (leb (border s) x) (ltb (x + border s) s.width) (leb (border s) y) z) (le-ltb (y + border s) s.height h)
      ∙ and-false (leb (border s) x && ltb (x + border s) s.width && leb (border s) y))

  inner-is : border s ≤ x → x + border s < s.width → border s ≤ y → y + border s < s.height → inside s x y ≡ true
  unfolding inside
  inner-is a b c d = both (both (both (le-leb (border s) x a) (lt-ltb (x + border s) s.width b)) (le-leb (border s) y c)) (lt-ltb (y + border s) s.height d)

-- ---- a pixel inside the border
pub within : {s : Scan} {y start n : ℕ} → Bordered s y start n → (x : ℕ) → start ≤ x → x < start + n → InsideBorder s x y
within {s} {y} {start} {n} b x h l =
    record {
      framed =
          record {
            sound = b.sound;
            left = let e = b.left in omega arith;
            right = let e = b.right in omega arith;
            above = let e = b.above in omega arith;
            below = let e = b.below in omega arith;
          };
      inner = inner-is s x y (let e = b.left in omega arith) (let e = b.right in omega arith) b.above b.below;
    }

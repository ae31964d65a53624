-- A block of pixels: its parts of the image, and its sums after each quarter of the ring.
use mathlib.Core.Path.{◌≡◌, refl, sym, ap, ◌∙◌, subst}
use mathlib.Core.List.{List}
use Prim.Native.Nat.{ℕ, ◌+◌, ◌-◌, ◌*◌, ◌≤◌, ◌<◌}
use native.Mathlib.Nat.{zero-add, le_trans, mul-le-mul_right, le_of_suc-le-suc}
use native.Mathlib.Omega.{arith}
use lib.ListN.{length, get_or, replicate, get_or-replicate}
use Rattle.pixel_response.specs.Samples.{value_of}
use Rattle.pixel_response.specs.Steps.{listed, Bounded, Levels, square_of, edges_of, sum_of, cross_of, Spare}
use Rattle.response.specs.StepsStarts.{Low, SampledQuarter, SampledCross, sample_of, value_at}
use Rattle.pixel_response.proofs.PixelLaws.{four, Quarters, none, more, all}

-- an element of a low list, and a part of low samples
pub low-at : (l : List ℕ) (n i : ℕ) → Low l → length l ≡ n → i < n → listed l i ≤ 4095
low-at l n i b e h = le_of_suc-le-suc (b i (subst (λ (z : ℕ). i < z) (sym e) h))

-- element i of four rows that lie abreast
pub levels-low : (a b c d : List ℕ) (n i : ℕ) → Low a × Low b × Low c × Low d → length a ≡ n → length b ≡ n → length c ≡ n → length d ≡ n → i < n → Levels (listed a i) (listed b i) (listed c i) (listed d i)
levels-low a b c d n i l p q r s h = record { first = low-at a n i l.0 p h; second = low-at b n i l.1 q h; third = low-at c n i l.2 r h; fourth = low-at d n i l.3 s h }

-- and what was read from them
pub levels-read : (a b c d a' b' c' d' : ℕ) → a ≡ a' → b ≡ b' → c ≡ c' → d ≡ d' → Levels a' b' c' d' → Levels a b c d
levels-read a b c d a' b' c' d' p q r s l = record { first = omega (arith, l.first); second = omega (arith, l.second); third = omega (arith, l.third); fourth = omega (arith, l.fourth) }

-- a cross of levels is that of the samples that they were read from
pub cross-read : (a b c d e a' b' c' d' e' : ℕ) → a ≡ a' → b ≡ b' → c ≡ c' → d ≡ d' → e ≡ e' → cross_of a b c d e ≡ cross_of a' b' c' d' e'
cross-read a b c d e a' b' c' d' e' p q r s t = cc

-- what is bounded of four levels is of the samples that they were read from
pub same-four : (m : ℕ) (f : ℕ → ℕ → ℕ → ℕ → ℕ) (a b c d a' b' c' d' r : ℕ) → a ≡ a' → b ≡ b' → c ≡ c' → d ≡ d' → Bounded (f a b c d) m r → Bounded (f a' b' c' d') m r
same-four m f a b c d a' b' c' d' r p q s t w = record { is = w.is ∙ four f a b c d a' b' c' d' p q s t; most = w.most }

-- ---- the sums of a block after k quarters
pub record Sums (P : ℕ) (img starts : List ℕ) (at n k : ℕ) (square edge sum : List ℕ) : Type 0 where
  pub each : (i : ℕ) → i < n → Quarters P (sample_of img starts (at + i)) k (get_or square i 0) (get_or edge i 0) (get_or sum i 0)
  pub square-long : n ≤ length square
  pub edge-long : n ≤ length edge
  pub sum-long : n ≤ length sum

abbrev pub zeros : List ℕ
zeros = replicate 64 0

pub sums_none : (P : ℕ) (img starts : List ℕ) (at n : ℕ) → n ≤ 64 → Sums P img starts at n 0 zeros zeros zeros
sums_none P img starts at n h =
    record {
      each = λ i l.
          let z : get_or zeros i 0 ≡ 0 = get_or-replicate 64 i 0 0 (omega arith) in
          subst (λ (v : ℕ). Quarters P (sample_of img starts (at + i)) 0 v v v) (sym z) (none P (sample_of img starts (at + i)));
      square-long = h;
      edge-long = h;
      sum-long = h;
    }

-- fewer than four quarters' sums leave room for one
three-most : (k b m v : ℕ) → k < 4 → v ≤ k * b → 3 * b ≤ m → v ≤ m
three-most k b m v h l w = le_trans l (le_trans (mul-le-mul_right b (le_of_suc-le-suc h)) w)

pub spare : (P : ℕ) (img starts : List ℕ) (at n k : ℕ) (square edge sum : List ℕ) → k < 4 → Sums P img starts at n k square edge sum → Spare P n square edge sum
spare P img starts at n k square edge sum h s =
    record {
      squares = record { long = s.square-long; most = λ i l. three-most k (2 * (P - 1)) (12 * (P - 1)) (get_or square i 0) h (s.each i l).square-most (omega arith) };
      edges = record { long = s.edge-long; most = λ i l. three-most k (2 * (P - 1)) (12 * (P - 1)) (get_or edge i 0) h (s.each i l).edge-most (omega arith) };
      sums = record { long = s.sum-long; most = λ i l. three-most k (4 * (P - 1)) (12 * (P - 1)) (get_or sum i 0) h (s.each i l).sum-most (omega arith) };
    }

pub sums-more : (P : ℕ) (img starts : List ℕ) (at n k : ℕ) (square edge sum square' edge' sum' : List ℕ) → Sums P img starts at n k square edge sum → SampledQuarter P img starts k at n square edge sum square' edge' sum'
    → Sums P img starts at n (k + 1) square' edge' sum'
sums-more P img starts at n k square edge sum square' edge' sum' s w =
    record {
      each = λ i l.
          let q = sample_of img starts (at + i) in
          subst (λ (z : ℕ). Quarters P q (k + 1) z (get_or edge' i 0) (get_or sum' i 0)) (sym (w.squares.here i l))
          (subst (λ (z : ℕ). Quarters P q (k + 1) (get_or square i 0 + square_of (q k) (q (k + 4)) (q (k + 8)) (q (k + 12))) z (get_or sum' i 0)) (sym (w.edges.here i l))
          (subst (λ (z : ℕ). Quarters P q (k + 1) (get_or square i 0 + square_of (q k) (q (k + 4)) (q (k + 8)) (q (k + 12))) (get_or edge i 0 + edges_of (q k) (q (k + 4)) (q (k + 8)) (q (k + 12))) z) (sym (w.sums.here i l))
          (more P q k (get_or square i 0) (get_or edge i 0) (get_or sum i 0) (square_of (q k) (q (k + 4)) (q (k + 8)) (q (k + 12))) (edges_of (q k) (q (k + 4)) (q (k + 8)) (q (k + 12))) (sum_of (q k) (q (k + 4)) (q (k + 8)) (q (k + 12)))
          (s.each i l) (record { is = refl; most = w.squares.most i l }) (record { is = refl; most = w.edges.most i l }) (record { is = refl; most = w.sums.most i l }))));
      square-long = omega (arith, s.square-long, w.squares.same);
      edge-long = omega (arith, s.edge-long, w.edges.same);
      sum-long = omega (arith, s.sum-long, w.sums.same);
    }

-- after all four they have the values
pub sums-all : (P : ℕ) (img starts : List ℕ) (at n k : ℕ) (square edge sum before cross : List ℕ) → k ≡ 4 → Sums P img starts at n k square edge sum → SampledCross img starts at n before cross
    → (i : ℕ) → i < n → value_of (listed square i) (listed edge i) (listed sum i) (listed cross i) ≡ value_at img starts (at + i)
unfolding value_at
sums-all P img starts at n k square edge sum before cross e s w i l =
    all P (sample_of img starts (at + i)) (λ k. sample_of img starts (at + i) (k + 16)) k (get_or square i 0) (get_or edge i 0) (get_or sum i 0) (get_or cross i 0) e (s.each i l)
    (ap (λ (k : ℕ). get_or cross k 0) (sym (zero-add i)) ∙ w.here i l)

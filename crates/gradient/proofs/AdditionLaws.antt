-- What is added to the grid: the whole coefficients in binary32, one cell, and one place after the other.
use mathlib.Core.Path.{◌≡◌, refl, sym, ap, ◌∙◌, subst}
use mathlib.Core.Logic.{⊎_elim}
use mathlib.Core.Bool.{cond}
use mathlib.Core.List.{List}
use Prim.Native.Nat.{ℕ, zero, suc, ◌+◌, ◌*◌, ◌<◌}
use native.Mathlib.Nat.{eq-or-lt_of_le}
use native.Mathlib.Omega.{arith}
use lib.IntN.{ℤ, pos, negsuc, ◌-ℤ◌}
use lib.ListN.{length, get_or, set}
use lib.Seq.{get_or-set_same, get_or-set_other}
use lib.Ieee.{Float, nan, binary32, of_int, add, mul}
use Rattle.shapes.specs.Turns.{turns}
use Rattle.shapes.specs.Numbers.{entry}
use Rattle.shapes.proofs.TurnLaws.{turns_more, turns-cong}
use Rattle.pixel_response.specs.Steps.{listed}
use Rattle.gradient.specs.declared.Scale.{Scale}
use Rattle.gradient.specs.Coefficients.{mean_sign, coefficient}
use Rattle.gradient.specs.Call.{added_at, three_and_a_fifth, is_none}
use Rattle.gradient.specs.Steps.{ring_step, cross_step, all_by, sample_at, all_added}
use Rattle.gradient.proofs.SignLaws.{mean-same, coefficient-same}

-- one sample more
pub more-written : (f : ℕ → ℕ) (k : ℕ) (l : List ℕ) → k < length l → ((j : ℕ) → j < k → get_or l j 0 ≡ f j) → (j : ℕ) → j < k + 1 → get_or (set l k (f k)) j 0 ≡ f j
more-written f k l h all j g =
    ⊎_elim (λ e. subst (λ (n : ℕ). get_or (set l k (f k)) n 0 ≡ f n) (sym e) (get_or-set_same l k (f k) 0 h)) (λ b. get_or-set_other l k j (f k) 0 (λ e. omega arith) ∙ all j b) (eq-or-lt_of_le (omega arith))

-- the second number of a cell is read behind the store to the first
pub added-both : (grid : List Float) (cell : ℕ) (u v w : Float) → set (set grid (2 * cell) u) (2 * cell + 1) (add binary32 (entry (set grid (2 * cell) u) (2 * cell + 1)) (mul binary32 v w)) ≡ set (set grid (2 * cell) u) (2 * cell + 1) (add binary32 (entry grid (2 * cell + 1)) (mul binary32 v w))
added-both grid cell u v w =
    ap (λ (x : Float). set (set grid (2 * cell) u) (2 * cell + 1) (add binary32 x (mul binary32 v w))) (get_or-set_other grid (2 * cell) (2 * cell + 1) u nan (λ e. omega arith))

-- ---- one turn more
pub ring_turned : (s : ℕ → ℕ) (mean : ℤ) (cell : ℕ → ℕ) (scale : Scale) (k : ℕ) (c : Float) (first grid grid' : List Float) → grid ≡ turns k (ring_step s mean cell scale) first
    → c ≡ of_int binary32 (coefficient s k -ℤ mean) → grid' ≡ added_at scale c (cell k) grid → grid' ≡ turns (k + 1) (ring_step s mean cell scale) first
unfolding ring_step
ring_turned s mean cell scale k c first grid grid' e g h =
    h ∙ ap (λ (v : Float). added_at scale v (cell k) grid) g ∙ ap (λ (l : List Float). ring_step s mean cell scale k l) e ∙ sym (turns_more k (ring_step s mean cell scale) first)

pub cross_turned : (mean : ℤ) (cell : ℕ → ℕ) (scale : Scale) (k : ℕ) (first grid grid' : List Float) → grid ≡ turns k (cross_step mean cell scale) first
    → grid' ≡ added_at scale (mul binary32 three_and_a_fifth (of_int binary32 mean)) (cell (16 + k)) grid → grid' ≡ turns (k + 1) (cross_step mean cell scale) first
unfolding cross_step
cross_turned mean cell scale k first grid grid' e h = h ∙ ap (λ (x : List Float). cross_step mean cell scale k x) e ∙ sym (turns_more k (cross_step mean cell scale) first)

-- ---- the whole, by samples and cells that agree
module _ (s t c d : ℕ → ℕ) (e : (k : ℕ) → k < 21 → s k ≡ t k) (f : (k : ℕ) → k < 21 → c k ≡ d k) (scale : Scale) where
  ring-same : (mean : ℤ) (k : ℕ) → k < 16 → (grid : List Float) → ring_step s mean c scale k grid ≡ ring_step t mean d scale k grid
  unfolding ring_step
  ring-same mean k h grid =
      ap (λ (z : ℤ). added_at scale (of_int binary32 (z -ℤ mean)) (c k) grid) (coefficient-same s t e k)
      ∙ ap (λ (n : ℕ). added_at scale (of_int binary32 (coefficient t k -ℤ mean)) n grid) (f k (omega arith))

  cross-same : (mean : ℤ) (k : ℕ) → k < 5 → (grid : List Float) → cross_step mean c scale k grid ≡ cross_step mean d scale k grid
  unfolding cross_step
  cross-same mean k h grid = ap (λ (n : ℕ). added_at scale (mul binary32 three_and_a_fifth (of_int binary32 mean)) n grid) (f (16 + k) (omega arith))

  pub all_same : (mean : ℤ) (grid : List Float) → all_by s mean c scale grid ≡ all_by t mean d scale grid
  unfolding all_by
  all_same mean grid =
      let r = turns-cong 16 (ring_step s mean c scale) (ring_step t mean d scale) grid (ring-same mean) in
      ap (λ (g : List Float). cond (is_none mean) g (turns 5 (cross_step mean c scale) g)) r
      ∙ ap (λ (g : List Float). cond (is_none mean) (turns 16 (ring_step t mean d scale) grid) g)
      (turns-cong 5 (cross_step mean c scale) (cross_step mean d scale) (turns 16 (ring_step t mean d scale) grid) (cross-same mean))

-- the sign of the means over the samples of 21 places
abbrev pub mean_of : (ℕ → ℕ) → ℤ
mean_of s = mean_sign s (λ k. s (16 + k))

-- the samples of the cells, and other cells that agree
pub same-samples : (tile samples : List ℕ) (cell : ℕ → ℕ) → ((k : ℕ) → k < 21 → get_or samples k 0 ≡ sample_at tile cell k) → (mean : ℤ) → mean ≡ mean_of (listed samples) → (scale : Scale) (grid : List Float)
    → all_by (listed samples) mean cell scale grid ≡ all_added tile cell scale grid
same-samples tile samples cell e mean m scale grid =
    ap (λ (n : ℤ). all_by (listed samples) n cell scale grid) (m ∙ mean-same (listed samples) (sample_at tile cell) e)
    ∙ all_same (listed samples) (sample_at tile cell) cell cell e (λ k h. refl) scale (mean_of (sample_at tile cell)) grid

pub same-cells : (tile : List ℕ) (cell other : ℕ → ℕ) → ((k : ℕ) → k < 21 → cell k ≡ other k) → (scale : Scale) (grid : List Float) → all_added tile cell scale grid ≡ all_added tile other scale grid
same-cells tile cell other e scale grid =
    let f : (k : ℕ) → k < 21 → sample_at tile cell k ≡ sample_at tile other k = λ k h. ap (λ (n : ℕ). get_or tile n 0) (e k h) in
    ap (λ (n : ℤ). all_by (sample_at tile cell) n cell scale grid) (mean-same (sample_at tile cell) (sample_at tile other) f)
    ∙ all_same (sample_at tile cell) (sample_at tile other) cell other f e scale (mean_of (sample_at tile other)) grid

-- ---- the two ways
pub ring-only : (s : ℕ → ℕ) (mean : ℤ) (cell : ℕ → ℕ) (scale : Scale) (grid : List Float) → mean ≡ pos 0 → turns 16 (ring_step s mean cell scale) grid ≡ all_by s mean cell scale grid
unfolding all_by
ring-only s mean cell scale grid e =
    sym (ap (λ (z : ℤ). cond (is_none z) (turns 16 (ring_step s mean cell scale) grid) (turns 5 (cross_step mean cell scale) (turns 16 (ring_step s mean cell scale) grid))) e)

pub ring-and-cross : (s : ℕ → ℕ) (mean : ℤ) (cell : ℕ → ℕ) (scale : Scale) (grid : List Float) → (mean ≡ pos 0 → ⊥)
    → turns 5 (cross_step mean cell scale) (turns 16 (ring_step s mean cell scale) grid) ≡ all_by s mean cell scale grid
unfolding all_by
ring-and-cross s (pos zero) cell scale grid e = absurd (e refl)
ring-and-cross s (pos (suc n)) cell scale grid e = refl
ring-and-cross s (negsuc n) cell scale grid e = refl

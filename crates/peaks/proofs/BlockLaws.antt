-- Blocks of rows, one row more at a time.
use mathlib.Core.Path.{◌≡◌, sym, ap, ◌∙◌}
use mathlib.Core.Bool.{Bool, true, false, ◌&&◌}
use mathlib.Core.List.{List}
use Prim.Native.Nat.{ℕ, ◌+◌, ◌-◌, ◌*◌, ◌%◌, ◌≤◌, ◌<◌}
use native.Mathlib.Nat.{suc-mul, mul-le-mul, mul-le-mul_right, le_trans, zero-mul, add_assoc}
use native.Mathlib.Numerals.{add-one}
use native.Mathlib.Omega.{arith}
use lib.Arith.{digits_mod, digits_div}
use lib.ListN.{get_or}
use lib.Ieee.{Float, nan}
use Rattle.shapes.specs.Tests.{every}
use Rattle.peaks.specs.Peak.{count}
use Rattle.peaks.specs.Steps.{run_at, block_at}
use Rattle.shapes.proofs.TestLaws.{every-cut, every-same, every-none, every-lost, both}
use Rattle.peaks.proofs.CountLaws.{count_cut, count_same, count_none}

next_row : (r side : ℕ) → (r + 1) * side ≡ r * side + side
next_row r side = ap (λ (k : ℕ). k * side) (add-one r) ∙ suc-mul r side

module _ (values : List Float) (start width side : ℕ) (test : Float → Bool) where
  abbrev in_block : ℕ → Bool
  in_block j = test (block_at values start width side j)

  abbrev in_run : ℕ → ℕ → Bool
  in_run r i = test (run_at values (start + r * width) i)

  row_of : (r i : ℕ) → i < side → in_block (r * side + i) ≡ in_run r i
  row_of r i h =
      ap (λ (q : ℕ). test (get_or values (start + q * width + (r * side + i) % side) nan)) (digits_div r h)
      ∙ ap (λ (c : ℕ). test (get_or values (start + r * width + c) nan)) (digits_mod r h)

  pub no_row : every (0 * side) in_block ≡ true
  no_row = ap (λ (n : ℕ). every n in_block) (zero-mul side) ∙ every-none in_block

  row_more : (r : ℕ) → every ((r + 1) * side) in_block ≡ (every (r * side) in_block && every side (in_run r))
  row_more r =
      ap (λ (n : ℕ). every n in_block) (next_row r side) ∙ every-cut in_block (r * side) side
      ∙ ap (λ (z : Bool). every (r * side) in_block && z) (every-same side (λ i. in_block (r * side + i)) (in_run r) (row_of r))

  pub row-passes : (r : ℕ) → every (r * side) in_block ≡ true → every side (in_run r) ≡ true → every ((r + 1) * side) in_block ≡ true
  row-passes r e f = row_more r ∙ both e f

  pub row-fails : (r n : ℕ) → r < n → every (r * side) in_block ≡ true → every side (in_run r) ≡ false → every (n * side) in_block ≡ false
  row-fails r n h e f = ap (λ (m : ℕ). every m in_block) (sym whole) ∙ every-lost in_block ((r + 1) * side) (n * side - (r + 1) * side) lost
    where
      lost : every ((r + 1) * side) in_block ≡ false
      lost = row_more r ∙ ap (λ (z : Bool). z && every side (in_run r)) e ∙ f

      fits : (r + 1) * side ≤ n * side
      fits = mul-le-mul_right side (let l : r + 1 ≤ n = omega arith in l)

      whole : (r + 1) * side + (n * side - (r + 1) * side) ≡ n * side
      whole = omega (arith, fits)

  pub no-count : count (0 * side) in_block ≡ 0
  no-count = ap (λ (n : ℕ). count n in_block) (zero-mul side) ∙ count_none in_block

  pub count-row : (r sum : ℕ) → sum ≡ count (r * side) in_block → sum + count side (in_run r) ≡ count ((r + 1) * side) in_block
  count-row r sum e =
      ap (λ (z : ℕ). z + count side (in_run r)) e
      ∙ ap (λ (z : ℕ). count (r * side) in_block + z) (sym (count_same side (λ i. in_block (r * side + i)) (in_run r) (row_of r)))
      ∙ sym (ap (λ (n : ℕ). count n in_block) (next_row r side) ∙ count_cut in_block (r * side) side)

pub few : (r n side : ℕ) → r ≤ n → n ≤ 17 → side ≤ 17 → r * side ≤ 289
few r n side h l m = mul-le-mul (le_trans h l) m

all-four : {a b c d a' b' c' d' : Bool} → a ≡ a' → b ≡ b' → c ≡ c' → d ≡ d' → (a && b && c && d) ≡ (a' && b' && c' && d')
all-four {a} {b} {c} {d} {a'} {b'} {c'} {d'} e f g h =
    ap (λ (z : Bool). z && b && c && d) e ∙ ap (λ (z : Bool). a' && z && c && d) f ∙ ap (λ (z : Bool). a' && b' && z && d) g ∙ ap (λ (z : Bool). a' && b' && c' && z) h

-- ---- a run in fours, and what is left behind them
module _ (values : List Float) (start : ℕ) (p : Float → Bool) where
  abbrev passes : ℕ → Bool
  passes i = p (run_at values start i)

  pub none-passed : every (0 * 4) passes ≡ true
  none-passed = every-none passes

  -- four tests at once, one after the other from r · 4 on
  pub four-more : (r : ℕ) {a b c d : Bool} → a ≡ p (get_or values (start + r * 4 + 0) nan) → b ≡ p (get_or values (start + r * 4 + 1) nan) → c ≡ p (get_or values (start + r * 4 + 2) nan) → d ≡ p (get_or values (start + r * 4 + 3) nan)
      → every (r * 4) passes ≡ true → every ((r + 1) * 4) passes ≡ (a && b && c && d)
  unfolding every
  four-more r e f g h so-far =
      ap (λ (n : ℕ). every n passes) (let q : (r + 1) * 4 ≡ r * 4 + 4 = omega arith in q) ∙ every-cut passes (r * 4) 4 ∙ ap (λ (z : Bool). z && every 4 (λ j. passes (r * 4 + j))) so-far
      ∙ sym (all-four (e ∙ place 0) (f ∙ place 1) (g ∙ place 2) (h ∙ place 3))
    where
      at : ℕ → Float
      at j = run_at values start (r * 4 + j)

      place : (j : ℕ) → p (get_or values (start + r * 4 + j) nan) ≡ p (at j)
      place j = ap (λ (k : ℕ). p (get_or values k nan)) (add_assoc start (r * 4) j)

  pub run-more : (i : ℕ) {b : Bool} → b ≡ passes i → every i passes ≡ true → every (i + 1) passes ≡ b
  unfolding every
  run-more i e so-far = ap (λ (n : ℕ). every n passes) (add-one i) ∙ ap (λ (z : Bool). z && passes i) so-far ∙ sym e

  pub run-lost : (m n : ℕ) → m ≤ n → every m passes ≡ false → false ≡ every n passes
  run-lost m n h e = sym (ap (λ (k : ℕ). every k passes) (let q : n ≡ m + (n - m) = omega arith in q) ∙ every-lost passes m (n - m) e)

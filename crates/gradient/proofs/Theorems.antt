-- The theorem of specs/Claims.antt: how N moves where one cell of the tile is raised by one.
use mathlib.Core.Path.{◌≡◌, refl, sym, ap, ◌∙◌}
use mathlib.Core.Bool.{Bool, true, false, not, cond}
use mathlib.Core.List.{List}
use Prim.Native.Nat.{ℕ, zero, suc, ◌+◌, ◌*◌, ◌/◌, ◌%◌, ◌<◌}
use native.Mathlib.Nat.{add-zero, mod-lt}
use native.Mathlib.Omega.{arith}
use lib.Dec.{ltb, eqb, lit<}
use lib.IntN.{ℤ, pos, sub_ℕ, ◌+ℤ◌, ◌-ℤ◌, ◌*ℤ◌}
use lib.ListN.{length, get_or}
use lib.Seq.{get_or-set_same, get_or-set_other}
use borrow.Author.Tests.{eqb-true, eqb-false}
use Rattle.shapes.specs.Turns.{turns}
use Rattle.pixel_response.specs.Samples.{total, gain, loss}
use Rattle.gradient.specs.Stencil.{cell_of, ring_of, cross_of}
use Rattle.gradient.specs.Coefficients.{minus_where, square_sign, edge_sign, mean_sign, coefficient}
use Rattle.gradient.specs.Claims.{AllKeep, n_of, raised_at, sum_over, RaisingMoves}
use Rattle.gradient.proofs.Differences.{sub_same, sub-add}
use Rattle.gradient.proofs.Moves.{part, signed, keeps-sign, plus, minus, square_up, edge_up, mean_up, ring_more, ring_less, cross_more, cross_less, n-moved}

-- ---- sums of whole numbers as differences
sum_is : (n : ℕ) (cell : ℕ → ℕ) (p : ℕ) (f : ℕ → ℤ) (more less : ℕ → ℕ) → ((k : ℕ) → k < n → cond (eqb (cell k) p) (f k) (pos 0) ≡ sub_ℕ (more k) (less k)) → sum_over n cell p f ≡ sub_ℕ (total n more) (total n less)
unfolding turns total
sum_is zero cell p f more less e = refl
sum_is (suc n) cell p f more less e =
    ap (λ (z : ℤ). z +ℤ cond (eqb (cell n) p) (f n) (pos 0)) (sum_is n cell p f more less (λ k h. e k (omega arith)))
    ∙ ap (λ (z : ℤ). sub_ℕ (total n more) (total n less) +ℤ z) (e n (omega arith)) ∙ sub-add (total n more) (total n less) (more n) (less n)

-- ---- one place
turned-sign : (t u : Bool) → minus_where t (signed u) ≡ signed (plus t u)
turned-sign true true = refl
turned-sign true false = refl
turned-sign false true = refl
turned-sign false false = refl

less-is : (t u : Bool) → not (plus t u) ≡ minus t u
less-is true true = refl
less-is true false = refl
less-is false true = refl
less-is false false = refl

-- five times two signs less five times a third, where the place is hit
fives-at : (hit x y w : Bool) → cond hit (pos 5 *ℤ (signed x +ℤ signed y) -ℤ pos 5 *ℤ signed w) (pos 0)
    ≡ sub_ℕ (5 * part x (part hit 1) + 5 * part y (part hit 1) + 5 * part (not w) (part hit 1)) (5 * part (not x) (part hit 1) + 5 * part (not y) (part hit 1) + 5 * part w (part hit 1))
fives-at true true true true = refl
fives-at true true true false = refl
fives-at true true false true = refl
fives-at true true false false = refl
fives-at true false true true = refl
fives-at true false true false = refl
fives-at true false false true = refl
fives-at true false false false = refl
fives-at false true true true = refl
fives-at false true true false = refl
fives-at false true false true = refl
fives-at false true false false = refl
fives-at false false true true = refl
fives-at false false true false = refl
fives-at false false false true = refl
fives-at false false false false = refl

sixteen-at : (hit w : Bool) → cond hit (pos 16 *ℤ signed w) (pos 0) ≡ sub_ℕ (16 * part w (part hit 1)) (16 * part (not w) (part hit 1))
sixteen-at true true = refl
sixteen-at true false = refl
sixteen-at false true = refl
sixteen-at false false = refl

-- ---- samples of the raised tile
raised : (tile : List ℕ) (p n : ℕ) → p < length tile → get_or (raised_at p tile) n 0 ≡ get_or tile n 0 + part (eqb n p) 1
raised tile p n h = go (eqb n p) refl
  where
    go : (b : Bool) → eqb n p ≡ b → get_or (raised_at p tile) n 0 ≡ get_or tile n 0 + part b 1
    go true e =
        ap (λ (k : ℕ). get_or (raised_at p tile) k 0) (eqb-true n p e) ∙ get_or-set_same tile p (get_or tile p 0 + 1) 0 h
        ∙ ap (λ (k : ℕ). get_or tile k 0 + 1) (sym (eqb-true n p e))
    go false e = get_or-set_other tile p n (get_or tile p 0 + 1) 0 (λ q. eqb-false n p e q) ∙ sym (add-zero (get_or tile n 0))

-- ---- the coefficients by signs that are not zero
module _ (s c s' c' : ℕ → ℕ) (keep : AllKeep s c s' c') where
  mean-signed : mean_sign s c ≡ signed (mean_up s c)
  unfolding mean_sign
  mean-signed = keeps-sign keep.means

  coefficient-signed : (k : ℕ) → coefficient s k ≡ signed (plus (eqb (k / 4 % 2) 1) (square_up s (k % 4))) +ℤ signed (plus (ltb k 8) (edge_up s (k % 8)))
  unfolding coefficient square_sign edge_sign
  coefficient-signed k =
      ap (λ (z : ℤ). minus_where (eqb (k / 4 % 2) 1) z +ℤ minus_where (ltb k 8) (edge_sign s (k % 8))) (keeps-sign (keep.squares (k % 4) (mod-lt k (lit< tt))))
      ∙ ap (λ (z : ℤ). minus_where (eqb (k / 4 % 2) 1) (signed (square_up s (k % 4))) +ℤ minus_where (ltb k 8) z) (keeps-sign (keep.edges (k % 8) (mod-lt k (lit< tt))))
      ∙ ap (λ (z : ℤ). z +ℤ minus_where (ltb k 8) (signed (edge_up s (k % 8)))) (turned-sign (eqb (k / 4 % 2) 1) (square_up s (k % 4)))
      ∙ ap (λ (z : ℤ). signed (plus (eqb (k / 4 % 2) 1) (square_up s (k % 4))) +ℤ z) (turned-sign (ltb k 8) (edge_up s (k % 8)))

  ring-place : (d : ℕ → Bool) (k : ℕ) → cond (d k) (pos 5 *ℤ coefficient s k -ℤ pos 5 *ℤ mean_sign s c) (pos 0)
      ≡ sub_ℕ (ring_more s c (λ j. part (d j) 1) k) (ring_less s c (λ j. part (d j) 1) k)
  ring-place d k =
      let t = eqb (k / 4 % 2) 1 in
      let r = ltb k 8 in
      let u = square_up s (k % 4) in
      let v = edge_up s (k % 8) in
      let w = mean_up s c in
      let n = part (d k) 1 in
      ap (λ (z : ℤ). cond (d k) (pos 5 *ℤ z -ℤ pos 5 *ℤ mean_sign s c) (pos 0)) (coefficient-signed k)
      ∙ ap (λ (z : ℤ). cond (d k) (pos 5 *ℤ (signed (plus t u) +ℤ signed (plus r v)) -ℤ pos 5 *ℤ z) (pos 0)) mean-signed
      ∙ fives-at (d k) (plus t u) (plus r v) w
      ∙ ap (λ (b : Bool). sub_ℕ (5 * part (plus t u) n + 5 * part (plus r v) n + 5 * part (not w) n) (5 * part b n + 5 * part (not (plus r v)) n + 5 * part w n)) (less-is t u)
      ∙ ap (λ (b : Bool). sub_ℕ (5 * part (plus t u) n + 5 * part (plus r v) n + 5 * part (not w) n) (5 * part (minus t u) n + 5 * part b n + 5 * part w n)) (less-is r v)

  cross-place : (g : ℕ → Bool) (k : ℕ) → cond (g k) (pos 16 *ℤ mean_sign s c) (pos 0)
      ≡ sub_ℕ (cross_more s c (λ j. part (g j) 1) k) (cross_less s c (λ j. part (g j) 1) k)
  cross-place g k = ap (λ (z : ℤ). cond (g k) (pos 16 *ℤ z) (pos 0)) mean-signed ∙ sixteen-at (g k) (mean_up s c)

  -- N by the sums over the places that the cell p is
  moves : (cell : ℕ → ℕ) (p : ℕ) → ((k : ℕ) → s' k ≡ s k + part (eqb (cell k) p) 1) → ((k : ℕ) → c' k ≡ c k + part (eqb (cell (16 + k)) p) 1)
      → n_of s' c' ≡ n_of s c +ℤ (sum_over 16 cell p (λ k. pos 5 *ℤ coefficient s k -ℤ pos 5 *ℤ mean_sign s c) +ℤ sum_over 5 (λ k. cell (16 + k)) p (λ k. pos 16 *ℤ mean_sign s c))
  moves cell p e f =
      let d : ℕ → Bool = λ k. eqb (cell k) p in
      let g : ℕ → Bool = λ k. eqb (cell (16 + k)) p in
      let more = total 16 (ring_more s c (λ k. part (d k) 1)) in
      let less = total 16 (ring_less s c (λ k. part (d k) 1)) in
      let more' = total 5 (cross_more s c (λ k. part (g k) 1)) in
      let less' = total 5 (cross_less s c (λ k. part (g k) 1)) in
      let ring = sum_is 16 cell p (λ k. pos 5 *ℤ coefficient s k -ℤ pos 5 *ℤ mean_sign s c) (ring_more s c (λ k. part (d k) 1)) (ring_less s c (λ k. part (d k) 1)) (λ k h. ring-place d k) in
      let cross = sum_is 5 (λ k. cell (16 + k)) p (λ k. pos 16 *ℤ mean_sign s c) (cross_more s c (λ k. part (g k) 1)) (cross_less s c (λ k. part (g k) 1)) (λ k h. cross-place g k) in
      sub_same (gain s') (loss s' c') (gain s + (more + more')) (loss s c + (less + less')) (n-moved s s' (λ k. part (d k) 1) e c c' (λ k. part (g k) 1) f keep)
      ∙ sym (sub-add (gain s) (loss s c) (more + more') (less + less'))
      ∙ ap (λ (z : ℤ). n_of s c +ℤ z) (sym (sub-add more less more' less'))
      ∙ ap (λ (z : ℤ). n_of s c +ℤ (z +ℤ sub_ℕ more' less')) (sym ring)
      ∙ ap (λ (z : ℤ). n_of s c +ℤ (sum_over 16 cell p (λ k. pos 5 *ℤ coefficient s k -ℤ pos 5 *ℤ mean_sign s c) +ℤ z)) (sym cross)

pub raising-moves : RaisingMoves
unfolding ring_of cross_of
raising-moves tile side ring x y p h keep =
    moves (ring_of tile side ring x y) (cross_of tile side ring x y) (ring_of (raised_at p tile) side ring x y) (cross_of (raised_at p tile) side ring x y) keep (cell_of side ring x y) p
    (λ k. raised tile p (cell_of side ring x y k) h) (λ k. raised tile p (cell_of side ring x y (16 + k)) h)

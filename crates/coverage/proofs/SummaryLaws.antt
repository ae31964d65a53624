-- The summary, one corner after the other, and of a list with a corner more, another or one less.
use mathlib.Core.Path.{◌≡◌, refl, sym, ap, ◌∙◌, subst}
use mathlib.Core.Logic.{◌≢◌, ⊎_elim}
use mathlib.Core.Bool.{Bool, true, false, cond}
use mathlib.Core.List.{List}
use Prim.Native.Nat.{ℕ, zero, suc, ◌+◌, ◌-◌, ◌*◌, ◌≤◌, ◌<◌}
use native.Mathlib.Nat.{eq-or-lt_of_le, not-suc-le-zero}
use native.Mathlib.Numerals.{add-one}
use native.Mathlib.Omega.{arith}
use lib.Dec.{eqb, ltb}
use lib.ListN.{length, get_or, replicate}
use lib.Ieee.{Float}
use borrow.Author.Tests.{eq-eqb, ne_eqb, lt-ltb, ltb-true, ltb-false}
use Rattle.std.specs.Prelude.{min}
use Rattle.shapes.specs.Lists.{tabulated}
use Rattle.shapes.specs.Numbers.{entry}
use Rattle.shapes.proofs.ListLaws.{length-tabulated, get_d-tabulated, tabulated-cong}
use Rattle.imageview.specs.Steps.{Sized}
use Rattle.coverage.specs.Tiles.{tile_at}
use Rattle.coverage.specs.Summary.{in_tile, summary}
use Rattle.coverage.specs.Call.{more, less}
use Rattle.coverage.proofs.TileLaws.{tile-under}
use Rattle.coverage.proofs.EntryLaws.{set-tabulated}

-- one more, where 65,535 stays
pub more_is : (n : ℕ) → min (n + 1) 65535 ≡ cond (ltb n 65535) (n + 1) 65535
more_is n = go (ltb n 65535) refl
  where
    go : (b : Bool) → ltb n 65535 ≡ b → min (n + 1) 65535 ≡ cond b (n + 1) 65535
    go true e = let l = ltb-true n 65535 e in omega arith
    go false e = let l = ltb-false n 65535 e in omega arith

-- 1 where a corner of tile a lies in tile t
abbrev pub hit : ℕ → ℕ → ℕ
hit a t = cond (eqb a t) 1 0

hit_same : (t : ℕ) → hit t t ≡ 1
hit_same t = ap (λ (b : Bool). cond b 1 0) (eq-eqb t t refl)

hit_other : (t i : ℕ) → i ≢ t → hit t i ≡ 0
hit_other t i h = ap (λ (b : Bool). cond b 1 0) (ne_eqb t i (λ e. h (sym e)))

-- ---- how many of the first n lie in a tile
module _ (tile : ℕ → ℕ) (t : ℕ) where
  pub next-in : (n : ℕ) → in_tile tile (suc n) t ≡ in_tile tile n t + hit (tile n) t
  unfolding in_tile
  next-in n = refl

  pub none_in : in_tile tile 0 t ≡ 0
  unfolding in_tile
  none_in = refl

  pub most-in : (n : ℕ) → in_tile tile n t ≤ n
  most-in zero = omega (arith, none_in)
  most-in (suc n) = by (eqb (tile n) t) (most-in n) (next-in n)
    where
      by : (b : Bool) → in_tile tile n t ≤ n → in_tile tile (suc n) t ≡ in_tile tile n t + cond b 1 0 → in_tile tile (suc n) t ≤ suc n
      by true h e = omega arith
      by false h e = omega arith

  pub has_in : (n k : ℕ) → k < n → hit (tile k) t ≤ in_tile tile n t
  has_in zero k h = absurd (not-suc-le-zero h)
  has_in (suc n) k h =
      ⊎_elim (λ e. subst (λ (j : ℕ). hit (tile j) t ≤ in_tile tile (suc n) t) (sym e) (last (hit (tile n) t) (in_tile tile n t) (next-in n)))
      (λ l. before (hit (tile k) t) (hit (tile n) t) (has_in n k l) (next-in n))
      (eq-or-lt_of_le (let l : k ≤ n = omega arith in l))
    where
      last : (a b : ℕ) → in_tile tile (suc n) t ≡ b + a → a ≤ in_tile tile (suc n) t
      last a b e = omega arith

      before : (a b : ℕ) → a ≤ in_tile tile n t → in_tile tile (suc n) t ≡ in_tile tile n t + b → a ≤ in_tile tile (suc n) t
      before a b h e = omega arith

module _ (tile tile' : ℕ → ℕ) (t : ℕ) where
  pub same_in : (n : ℕ) → ((i : ℕ) → i < n → tile i ≡ tile' i) → in_tile tile n t ≡ in_tile tile' n t
  same_in zero h = none_in tile t ∙ sym (none_in tile' t)
  same_in (suc n) h =
      next-in tile t n
      ∙ ap (λ (m : ℕ). m + hit (tile n) t) (same_in n (λ i l. h i (omega arith)))
      ∙ ap (λ (m : ℕ). in_tile tile' n t + hit m t) (h n (omega arith))
      ∙ sym (next-in tile' t n)

  -- corner k is another one
  pub replaced-in : (k n : ℕ) → k < n → ((i : ℕ) → i < n → i ≢ k → tile i ≡ tile' i) → in_tile tile' n t + hit (tile k) t ≡ in_tile tile n t + hit (tile' k) t
  replaced-in k zero l h = absurd (not-suc-le-zero l)
  replaced-in k (suc n) l h = ⊎_elim here (λ g. before g (replaced-in k n g (λ i m d. h i (omega arith) d))) (eq-or-lt_of_le (let g : k ≤ n = omega arith in g))
    where
      sum : (a p q p' q' : ℕ) → p' ≡ a + q' → p ≡ a + q → p' + q ≡ p + q'
      sum a p q p' q' e d = omega arith

      here : k ≡ n → in_tile tile' (suc n) t + hit (tile k) t ≡ in_tile tile (suc n) t + hit (tile' k) t
      here e =
          subst (λ (j : ℕ). in_tile tile' (suc n) t + hit (tile j) t ≡ in_tile tile (suc n) t + hit (tile' j) t) (sym e)
          (sum (in_tile tile' n t) (in_tile tile (suc n) t) (hit (tile n) t) (in_tile tile' (suc n) t) (hit (tile' n) t) (next-in tile' t n)
          (next-in tile t n ∙ ap (λ (m : ℕ). m + hit (tile n) t) (same_in n (λ i g. h i (omega arith) (λ d. omega arith)))))

      step : (p q p' q' r a b : ℕ) → p' + q ≡ p + q' → a ≡ p + r → b ≡ p' + r → b + q ≡ a + q'
      step p q p' q' r a b e d g = omega arith

      before : k < n → in_tile tile' n t + hit (tile k) t ≡ in_tile tile n t + hit (tile' k) t → in_tile tile' (suc n) t + hit (tile k) t ≡ in_tile tile (suc n) t + hit (tile' k) t
      before g so_far =
          step (in_tile tile n t) (hit (tile k) t) (in_tile tile' n t) (hit (tile' k) t) (hit (tile n) t) (in_tile tile (suc n) t) (in_tile tile' (suc n) t)
          so_far (next-in tile t n)
          (next-in tile' t n ∙ ap (λ (m : ℕ). in_tile tile' n t + hit m t) (sym (h n (omega arith) (λ d. omega arith))))

  -- corner k is left out, and the later ones move down
  pub dropped-in : (k n : ℕ) → k ≤ n → ((i : ℕ) → i < k → tile i ≡ tile' i) → ((i : ℕ) → k ≤ i → i < n → tile (suc i) ≡ tile' i) → in_tile tile' n t + hit (tile k) t ≡ in_tile tile (suc n) t
  dropped-in k zero l front back =
      ap (λ (m : ℕ). m + hit (tile k) t) (none_in tile' t ∙ sym (none_in tile t))
      ∙ ap (λ (j : ℕ). in_tile tile 0 t + hit (tile j) t) (let e : k ≡ 0 = omega arith in e)
      ∙ sym (next-in tile t 0)
  dropped-in k (suc n) l front back = ⊎_elim here (λ g. before g (dropped-in k n (omega arith) front (λ i m d. back i m (omega arith)))) (eq-or-lt_of_le l)
    where
      here : k ≡ suc n → in_tile tile' (suc n) t + hit (tile k) t ≡ in_tile tile (suc (suc n)) t
      here e =
          ap (λ (j : ℕ). in_tile tile' (suc n) t + hit (tile j) t) e
          ∙ ap (λ (m : ℕ). m + hit (tile (suc n)) t) (sym (same_in (suc n) (λ i g. front i (omega arith))))
          ∙ sym (next-in tile t (suc n))

      step : (p q p' r a b : ℕ) → p' + q ≡ p → a ≡ p + r → b ≡ p' + r → b + q ≡ a
      step p q p' r a b e d g = omega arith

      before : k < suc n → in_tile tile' n t + hit (tile k) t ≡ in_tile tile (suc n) t → in_tile tile' (suc n) t + hit (tile k) t ≡ in_tile tile (suc (suc n)) t
      before g so_far =
          step (in_tile tile (suc n) t) (hit (tile k) t) (in_tile tile' n t) (hit (tile (suc n)) t) (in_tile tile (suc (suc n)) t) (in_tile tile' (suc n) t)
          so_far (next-in tile t (suc n))
          (next-in tile' t n ∙ ap (λ (m : ℕ). in_tile tile' n t + hit m t) (sym (back n (omega arith) (omega arith))))

-- ---- one more and one less in tile t, of counts by their entries
module _ (n : ℕ) (f : ℕ → ℕ) (t : ℕ) (h : t < n) where
  pub more-tabulated : f t < 65535 → more (tabulated n f) t ≡ tabulated n (λ i. f i + hit t i)
  more-tabulated s =
      set-tabulated n f (λ i. f i + hit t i) t h _
      (ap (λ (m : ℕ). cond (ltb m 65535) (m + 1) 65535) (get_d-tabulated n f t 0 h)
      ∙ ap (λ (b : Bool). cond b (f t + 1) 65535) (lt-ltb (f t) 65535 s)
      ∙ ap (λ (m : ℕ). f t + m) (sym (hit_same t)))
      (λ i l d. none (f i) (hit t i) (hit_other t i d))
    where
      none : (a b : ℕ) → b ≡ 0 → a ≡ a + b
      none a b e = omega arith

  pub less-tabulated : less (tabulated n f) t ≡ tabulated n (λ i. f i - hit t i)
  less-tabulated =
      set-tabulated n f (λ i. f i - hit t i) t h _
      (ap (λ (m : ℕ). m - 1) (get_d-tabulated n f t 0 h) ∙ ap (λ (m : ℕ). f t - m) (sym (hit_same t)))
      (λ i l d. none (f i) (hit t i) (hit_other t i d))
    where
      none : (a b : ℕ) → b ≡ 0 → a ≡ a - b
      none a b e = omega arith

-- ---- of a list
pub summary_none : (w h : ℕ) (l : List Float) → replicate 65 0 ≡ summary w h l 0
unfolding summary tabulated in_tile
summary_none w h l = refl

module _ (w h : ℕ) (s : Sized w h) where
  pub tile-at-under : (l : List Float) (i : ℕ) → tile_at w h l i < 65
  tile-at-under l i = tile-under w h (entry l (3 * i)) (entry l (3 * i + 1)) s

  pub length_summary : (l : List Float) (n : ℕ) → length (summary w h l n) ≡ 65
  unfolding summary
  length_summary l n = length-tabulated 65 (in_tile (tile_at w h l) n)

  pub get_d-summary : (l : List Float) (n i : ℕ) → i < 65 → get_or (summary w h l n) i 0 ≡ in_tile (tile_at w h l) n i
  unfolding summary
  get_d-summary l n i g = get_d-tabulated 65 (in_tile (tile_at w h l) n) i 0 g

  pub same-summary : (l m : List Float) (n : ℕ) → ((i : ℕ) → i < n → tile_at w h l i ≡ tile_at w h m i) → summary w h l n ≡ summary w h m n
  unfolding summary
  same-summary l m n e = tabulated-cong 65 (in_tile (tile_at w h l) n) (in_tile (tile_at w h m) n) (λ i g. same_in (tile_at w h l) (tile_at w h m) i n e)

  -- the next corner
  pub summary_next : (l : List Float) (n : ℕ) → n < 65535 → more (summary w h l n) (tile_at w h l n) ≡ summary w h l (n + 1)
  unfolding summary
  summary_next l n g =
      let tile : ℕ → ℕ = λ i. tile_at w h l i in
      more-tabulated 65 (in_tile tile n) (tile n) (tile-at-under l n) (let m = most-in tile (tile n) n in omega arith)
      ∙ tabulated-cong 65 (λ i. in_tile tile n i + hit (tile n) i) (in_tile tile (n + 1)) (λ i d. sym (ap (λ (m : ℕ). in_tile tile m i) (add-one n) ∙ next-in tile i n))

  pub summary-replaced : (l m : List Float) (n k : ℕ) → k < n → n ≤ 4096 → ((i : ℕ) → i < n → i ≢ k → tile_at w h l i ≡ tile_at w h m i) → more (less (summary w h l n) (tile_at w h l k)) (tile_at w h m k) ≡ summary w h m n
  unfolding summary
  summary-replaced l m n k g few e =
      let tile : ℕ → ℕ = λ i. tile_at w h l i in
      let tile' : ℕ → ℕ = λ i. tile_at w h m i in
      ap (λ (c : List ℕ). more c (tile' k)) (less-tabulated 65 (in_tile tile n) (tile k) (tile-at-under l k))
      ∙ more-tabulated 65 (λ i. in_tile tile n i - hit (tile k) i) (tile' k) (tile-at-under m k) (small (in_tile tile n (tile' k)) (hit (tile k) (tile' k)) (most-in tile (tile' k) n))
      ∙ tabulated-cong 65 (λ i. in_tile tile n i - hit (tile k) i + hit (tile' k) i) (in_tile tile' n)
      (λ i d. sum (in_tile tile n i) (in_tile tile' n i) (hit (tile k) i) (hit (tile' k) i) (has_in tile i n k g) (replaced-in tile tile' i k n g e))
    where
      small : (a b : ℕ) → a ≤ n → a - b < 65535
      small a b d = omega arith

      sum : (p p' q q' : ℕ) → q ≤ p → p' + q ≡ p + q' → p - q + q' ≡ p'
      sum p p' q q' d e = omega arith

  pub summary-dropped : (l m : List Float) (n k : ℕ) → k < n → ((i : ℕ) → i < k → tile_at w h l i ≡ tile_at w h m i) → ((i : ℕ) → k ≤ i → i < n - 1 → tile_at w h l (suc i) ≡ tile_at w h m i) → less (summary w h l n) (tile_at w h l k) ≡ summary w h m (n - 1)
  unfolding summary
  summary-dropped l m n k g front back =
      let tile : ℕ → ℕ = λ i. tile_at w h l i in
      let tile' : ℕ → ℕ = λ i. tile_at w h m i in
      less-tabulated 65 (in_tile tile n) (tile k) (tile-at-under l k)
      ∙ tabulated-cong 65 (λ i. in_tile tile n i - hit (tile k) i) (in_tile tile' (n - 1))
      (λ i d. sum (in_tile tile n i) (in_tile tile' (n - 1) i) (hit (tile k) i)
      (dropped-in tile tile' i k (n - 1) (omega arith) front back ∙ ap (λ (j : ℕ). in_tile tile j i) (let e : suc (n - 1) ≡ n = omega arith in e)))
    where
      sum : (p p' q : ℕ) → p' + q ≡ p → p - q ≡ p'
      sum p p' q e = omega arith

-- Laws of the inverse: an entry after a column's stages, and one turn of the search for the pivot and of the reduction.
use Rattle.std.proofs.Common.{◌≡◌, ℕ, suc, ◌+◌, ◌-◌, ◌*◌, ◌/◌, ◌%◌, ◌<◌, ◌≤◌, Bool, true, false, cond, eqb, List, length, sym, refl, ap, ◌∙◌, sub-eq-zero_of_le, arith, eq-eqb, ne_eqb}
use lib.Ieee.{Float, nan, binary64, sub, mul, div, lt}
use Rattle.floats.specs.Magnitude.{magnitude}
use Rattle.floats.specs.TotalOrder.{total_cmp}
use Rattle.std.specs.declared.cmp.Ordering.{Ordering}
use Rattle.shapes.proofs.ListLaws.{length-tabulated, get_d-tabulated, tabulated-by}
use Rattle.shapes.specs.Numbers.{entry, one}
use Rattle.refine_operator.specs.Inverse.{better, pivot_from, pivot_of, exchanged, swapped, scaled, cleared, least_pivot, singular, reduced, reduce_from}
use Rattle.refine_operator.specs.Steps.{Continued, reduced_at}
use Rattle.refine_operator.proofs.WrittenLaws.{continued-whole}

module _ {A : Type 0} (t : Bool) (x y : A) where
  pub first_of : t ≡ true → cond t x y ≡ x
  first_of e = ap (λ (b : Bool). cond b x y) e

  pub second-of : t ≡ false → cond t x y ≡ y
  second-of e = ap (λ (b : Bool). cond b x y) e

-- ---- the stages of a column
pub exchanged-first : (a b r : ℕ) → r ≡ a → b ≡ exchanged a b r
exchanged-first a b r e = sym (first_of (eqb r a) b _ (eq-eqb r a e))

pub exchanged-second : (a b r : ℕ) → (r ≡ a → ⊥) → r ≡ b → a ≡ exchanged a b r
exchanged-second a b r n e = sym (second-of (eqb r a) b _ (ne_eqb r a n) ∙ first_of (eqb r b) a r (eq-eqb r b e))

pub exchanged-other : (a b r : ℕ) → (r ≡ a → ⊥) → (r ≡ b → ⊥) → r ≡ exchanged a b r
exchanged-other a b r n e = sym (second-of (eqb r a) b _ (ne_eqb r a n) ∙ second-of (eqb r b) a r (ne_eqb r b e))

-- the entry i after each stage
abbrev swapped_at : ℕ → ℕ → List Float → ℕ → Float
swapped_at a b m i = entry m (12 * exchanged a b (i / 12) + i % 12)

abbrev scaled_at : ℕ → List Float → ℕ → Float
scaled_at col m i = cond (eqb (i / 12) col) (mul binary64 (entry m i) (div binary64 one (entry m (12 * col + col)))) (entry m i)

abbrev cleared_at : ℕ → List Float → ℕ → Float
cleared_at col m i = cond (eqb (i / 12) col) (entry m i) (sub binary64 (entry m i) (mul binary64 (entry m (12 * (i / 12) + col)) (entry m (12 * col + i % 12))))

pub length-cleared : (col : ℕ) (m : List Float) → length (cleared col m) ≡ 72
unfolding cleared
length-cleared col m = length-tabulated 72 (cleared_at col m)

swapped-entry : (a b i r : ℕ) (m : List Float) (x : Float) → i < 72 → r ≡ exchanged a b (i / 12) → x ≡ entry m (12 * r + i % 12) → x ≡ entry (swapped a b m) i
unfolding swapped
swapped-entry a b i r m x h e p = p ∙ ap (λ (q : ℕ). entry m (12 * q + i % 12)) e ∙ sym (get_d-tabulated 72 (swapped_at a b m) i nan h)

module _ (col i : ℕ) (m : List Float) (h : i < 72) where
  at_scaled : entry (scaled col m) i ≡ scaled_at col m i
  unfolding scaled
  at_scaled = get_d-tabulated 72 (scaled_at col m) i nan h

  at-cleared : entry (cleared col m) i ≡ cleared_at col m i
  unfolding cleared
  at-cleared = get_d-tabulated 72 (cleared_at col m) i nan h

  scaled-pivot : (x y : Float) → i / 12 ≡ col → x ≡ entry m i → y ≡ entry m (12 * col + col) → mul binary64 x (div binary64 one y) ≡ entry (scaled col m) i
  scaled-pivot x y e p q =
      ap (λ (z : Float). mul binary64 z (div binary64 one y)) p
      ∙ ap (λ (z : Float). mul binary64 (entry m i) (div binary64 one z)) q
      ∙ sym (at_scaled ∙ first_of (eqb (i / 12) col) _ (entry m i) (eq-eqb (i / 12) col e))

  scaled-other : (x : Float) → (i / 12 ≡ col → ⊥) → x ≡ entry m i → x ≡ entry (scaled col m) i
  scaled-other x e p = p ∙ sym (at_scaled ∙ second-of (eqb (i / 12) col) _ (entry m i) (ne_eqb (i / 12) col e))

  cleared-pivot : (x : Float) → i / 12 ≡ col → x ≡ entry m i → x ≡ entry (cleared col m) i
  cleared-pivot x e p = p ∙ sym (at-cleared ∙ first_of (eqb (i / 12) col) (entry m i) _ (eq-eqb (i / 12) col e))

  cleared-other : (x y z : Float) → (i / 12 ≡ col → ⊥) → x ≡ entry m i → y ≡ entry m (12 * (i / 12) + col) → z ≡ entry m (12 * col + i % 12)
      → sub binary64 x (mul binary64 y z) ≡ entry (cleared col m) i
  cleared-other x y z e p q r =
      ap (λ (w : Float). sub binary64 w (mul binary64 y z)) p
      ∙ ap (λ (w : Float). sub binary64 (entry m i) (mul binary64 w z)) q
      ∙ ap (λ (w : Float). sub binary64 (entry m i) (mul binary64 (entry m (12 * (i / 12) + col)) w)) r
      ∙ sym (at-cleared ∙ second-of (eqb (i / 12) col) (entry m i) _ (ne_eqb (i / 12) col e))

-- ---- a column at once: an entry of the matrix exchanged, scaled and cleared, from the matrix before
module _ (col pivot : ℕ) (m : List Float) (hc : col < 6) (hp : pivot < 6) where
  swapped_at_lem : (row from j : ℕ) → row < 6 → j < 12 → from ≡ exchanged col pivot row → entry m (12 * from + j) ≡ entry (swapped col pivot m) (12 * row + j)
  swapped_at_lem row from j h l e =
      swapped-entry col pivot (12 * row + j) from m (entry m (12 * from + j)) (omega arith)
      (e ∙ ap (λ (n : ℕ). exchanged col pivot n) (let q : row ≡ (12 * row + j) / 12 = omega arith in q))
      (ap (λ (n : ℕ). entry m (12 * from + n)) (let q : j ≡ (12 * row + j) % 12 = omega arith in q))

  scaled-here : (j : ℕ) → j < 12 → mul binary64 (entry m (12 * pivot + j)) (div binary64 one (entry m (12 * pivot + col))) ≡ entry (scaled col (swapped col pivot m)) (12 * col + j)
  scaled-here j l =
      scaled-pivot col (12 * col + j) (swapped col pivot m) (omega arith) _ _ (omega arith) (swapped_at_lem col pivot j hc l (exchanged-first col pivot col refl)) (swapped_at_lem col pivot col hc (omega arith) (exchanged-first col pivot col refl))

  scaled-there : (row from j : ℕ) → row < 6 → j < 12 → from ≡ exchanged col pivot row → (row ≡ col → ⊥) → entry m (12 * from + j) ≡ entry (scaled col (swapped col pivot m)) (12 * row + j)
  scaled-there row from j h l e n =
      scaled-other col (12 * row + j) (swapped col pivot m) (omega arith) _ (λ d. n ((let q : row ≡ (12 * row + j) / 12 = omega arith in q) ∙ d)) (swapped_at_lem row from j h l e)

  pub pivot-entry : (j : ℕ) → j < 12 → mul binary64 (entry m (12 * pivot + j)) (div binary64 one (entry m (12 * pivot + col))) ≡ reduced_at col pivot m (12 * col + j)
  pivot-entry j l = cleared-pivot col (12 * col + j) (scaled col (swapped col pivot m)) (omega arith) _ (omega arith) (scaled-here j l)

  pub other-entry : (row from j : ℕ) → row < 6 → j < 12 → from ≡ exchanged col pivot row → (row ≡ col → ⊥)
      → sub binary64 (entry m (12 * from + j)) (mul binary64 (entry m (12 * from + col)) (mul binary64 (entry m (12 * pivot + j)) (div binary64 one (entry m (12 * pivot + col)))))
      ≡ reduced_at col pivot m (12 * row + j)
  other-entry row from j h l e n =
      cleared-other col (12 * row + j) (scaled col (swapped col pivot m)) (omega arith) _ _ _ (λ d. n ((let q : row ≡ (12 * row + j) / 12 = omega arith in q) ∙ d)) (scaled-there row from j h l e n)
      (scaled-there row from col h (omega arith) e n ∙ ap (λ (k : ℕ). entry (scaled col (swapped col pivot m)) (12 * k + col)) (let q : row ≡ (12 * row + j) / 12 = omega arith in q))
      (scaled-here j l ∙ ap (λ (k : ℕ). entry (scaled col (swapped col pivot m)) (12 * col + k)) (let q : j ≡ (12 * row + j) % 12 = omega arith in q))

  pub column-done : (l l' : List Float) → length l ≡ 72 → Continued 0 72 (reduced_at col pivot m) l l' → l' ≡ cleared col (scaled col (swapped col pivot m))
  column-done l l' h c =
      continued-whole 72 (reduced_at col pivot m) l l' h c
      ∙ tabulated-by 72 nan (cleared col (scaled col (swapped col pivot m))) (length-cleared col (scaled col (swapped col pivot m)))

-- ---- the pivot
pub better-is : (m : List Float) (col best p : ℕ) (x y : Float) (o : Ordering) → x ≡ entry m (12 * best + col) → y ≡ entry m (12 * p + col) → o ≡ total_cmp x y
    → better m col best p o ≡ better m col best p (total_cmp (entry m (12 * best + col)) (entry m (12 * p + col)))
better-is m col best p x y o e d q =
    ap (λ (z : Ordering). better m col best p z) (q ∙ ap (λ (z : Float). total_cmp z y) e ∙ ap (λ (z : Float). total_cmp (entry m (12 * best + col)) z) d)

pub pivot-none : (m : List Float) (col : ℕ) → pivot_from (6 - (col + 1)) m col col (col + 1) ≡ pivot_of m col
unfolding pivot_of
pivot-none m col = ap (λ (left : ℕ). pivot_from left m col col (col + 1)) (let e : 6 - (col + 1) ≡ 5 - col = omega arith in e)

pub pivot-more : (m : List Float) (col best p r : ℕ) → p < 6 → r ≡ better m col best p (total_cmp (entry m (12 * best + col)) (entry m (12 * p + col)))
    → pivot_from (6 - (p + 1)) m col r (p + 1) ≡ pivot_from (6 - p) m col best p
unfolding pivot_from
pivot-more m col best p r h e =
    ap (λ (b : ℕ). pivot_from (6 - (p + 1)) m col b (p + 1)) e ∙ ap (λ (left : ℕ). pivot_from left m col best p) (let q : suc (6 - (p + 1)) ≡ 6 - p = omega arith in q)

pub pivot-all : (m : List Float) (col best p : ℕ) → 6 ≤ p → pivot_from (6 - p) m col best p ≡ best
unfolding pivot_from
pivot-all m col best p h = ap (λ (left : ℕ). pivot_from left m col best p) (sub-eq-zero_of_le h)

-- ---- the reduction
module _ (m : List Float) (col p : ℕ) (h : col < 6) (e : p ≡ pivot_of m col) where
  left_is : 6 - col ≡ suc (6 - (col + 1))
  left_is = omega arith

  pub reduce-stop : lt (magnitude (entry m (12 * p + col))) least_pivot ≡ true → reduce_from (6 - col) col m ≡ singular
  unfolding reduce_from
  reduce-stop s =
      ap (λ (left : ℕ). reduce_from left col m) left_is
      ∙ ap (λ (q : ℕ). cond (lt (magnitude (entry m (12 * q + col))) least_pivot) singular (reduce_from (6 - (col + 1)) (col + 1) (cleared col (scaled col (swapped col q m))))) (sym e)
      ∙ first_of (lt (magnitude (entry m (12 * p + col))) least_pivot) singular _ s

  pub reduce-more : (m' : List Float) → lt (magnitude (entry m (12 * p + col))) least_pivot ≡ false → m' ≡ cleared col (scaled col (swapped col p m))
      → reduce_from (6 - (col + 1)) (col + 1) m' ≡ reduce_from (6 - col) col m
  unfolding reduce_from
  reduce-more m' s d =
      ap (λ (l : List Float). reduce_from (6 - (col + 1)) (col + 1) l) d
      ∙ sym (second-of (lt (magnitude (entry m (12 * p + col))) least_pivot) singular _ s)
      ∙ ap (λ (q : ℕ). cond (lt (magnitude (entry m (12 * q + col))) least_pivot) singular (reduce_from (6 - (col + 1)) (col + 1) (cleared col (scaled col (swapped col q m))))) e
      ∙ ap (λ (left : ℕ). reduce_from left col m) (sym left_is)

pub reduce-all : (m : List Float) (col : ℕ) → 6 ≤ col → reduce_from (6 - col) col m ≡ reduced m
unfolding reduce_from
reduce-all m col h = ap (λ (left : ℕ). reduce_from left col m) (sub-eq-zero_of_le h)

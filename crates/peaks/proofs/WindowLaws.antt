-- The window of a pixel in four pieces: the rows above, the left and the right of its own row, and the rows below; the pixel itself is in none.
use mathlib.Core.Path.{◌≡◌, refl, sym, ap, ◌∙◌}
use mathlib.Core.Bool.{Bool, true, false, ◌&&◌, ◌||◌, not, cond}
use Prim.Native.Nat.{ℕ, suc, ◌+◌, ◌-◌, ◌*◌, ◌/◌, ◌%◌, ◌≤◌, ◌<◌}
use native.Mathlib.Nat.{add-mul, suc-mul, mul-le-mul, mul-le-mul_right, mul-add-div_right, mul-add-mod_self_right}
use native.Mathlib.Omega.{arith}
use lib.Arith.{digits_mod, digits_div}
use lib.Dec.{ltb, eqb}
use lib.ListN.{get_or}
use lib.Ieee.{Float, nan, lt, le}
use borrow.Author.Tests.{lt-ltb, le-ltb, eq-eqb, ne_eqb}
use Rattle.floats.proofs.OrderLaws.{lt-le}
use Rattle.shapes.specs.Numbers.{plus_zero}
use Rattle.shapes.specs.Tests.{every}
use Rattle.peaks.specs.Peak.{Scan, value_at, side, cells, middle, neighbour, count, beats_at, beats, highest, positives}
use Rattle.peaks.specs.Steps.{run_at, block_at}
use Rattle.shapes.proofs.TestLaws.{every-cut, every-same}
use Rattle.peaks.proofs.CountLaws.{count_cut, count_same, count_most}

-- ---- the rule of the window, before and after the pixel
pub beats-before : (s : Scan) (j : ℕ) (v w : Float) → j < middle s → beats s j v w ≡ lt w v
unfolding beats
beats-before s j v w h = ap (λ (earlier : Bool). beats_at earlier v w) (lt-ltb j (middle s) h)

pub beats-after : (s : Scan) (j : ℕ) (v w : Float) → middle s < j → beats s j v w ≡ le w v
unfolding beats
beats-after s j v w h = ap (λ (earlier : Bool). beats_at earlier v w) (le-ltb j (middle s) (omega arith))

-- a lower value is beaten on either side
pub beats-lower : (s : Scan) (j : ℕ) (v w : Float) → lt w v ≡ true → beats s j v w ≡ true
unfolding beats
beats-lower s j v w h = go (ltb j (middle s))
  where
    go : (earlier : Bool) → beats_at earlier v w ≡ true
    go true = h
    go false = lt-le w v h

-- ---- indices
-- row r and column c of the window, counted from its first pixel
pub index_of : (width n x y r c d : ℕ) → d + n ≡ y → n ≤ x → (y + r - n) * width + (x + c - n) ≡ y * width + x - n * width - n + r * width + c
index_of width n x y r c d e h =
    ap (λ (k : ℕ). k * width + (x + c - n)) (let q : y + r - n ≡ d + r = omega arith in q) ∙ ap (λ (k : ℕ). k + (x + c - n)) (add-mul d r width)
    ∙ join (d * width) (r * width) (y * width) (n * width) x c n (ap (λ (k : ℕ). k * width) (sym e) ∙ add-mul d n width) h
  where
    join : (a b p q x c n : ℕ) → p ≡ a + q → n ≤ x → a + b + (x + c - n) ≡ p + x - q - n + b + c
    join a b p q x c n e h = omega arith

-- how many values there are in the four pieces and the pixel, and which is the pixel's number
cells_are : (s : Scan) → cells s ≡ s.window * side s + (s.window + (1 + (s.window + s.window * side s)))
cells_are s =
    join (side s * side s) (s.window * side s)
    (ap (λ (k : ℕ). k * side s) (let e : side s ≡ s.window + s.window + 1 = omega arith in e) ∙ add-mul (s.window + s.window) 1 (side s) ∙ ap (λ (k : ℕ). k + 1 * side s) (add-mul s.window s.window (side s)))
  where
    join : (p q : ℕ) → p ≡ q + q + 1 * side s → p ≡ q + (s.window + (1 + (s.window + q)))
    join p q e = omega arith

pub middle-is : (s : Scan) → middle s ≡ s.window * side s + s.window
middle-is s = join (cells s) (s.window * side s) (cells_are s)
  where
    join : (p q : ℕ) → p ≡ q + (s.window + (1 + (s.window + q))) → p / 2 ≡ q + s.window
    join p q e = omega arith

-- ---- a piece that is not beaten decides
right-lost : (a l r b : Bool) → r ≡ false → false ≡ (a && (l && (r && b)))
right-lost true true r b e = sym (ap (λ (z : Bool). z && b) e)
right-lost true false r b e = refl
right-lost false l r b e = refl

left-lost : (a l r b : Bool) → l ≡ false → false ≡ (a && (l && (r && b)))
left-lost true l r b e = sym (ap (λ (z : Bool). z && (r && b)) e)
left-lost false l r b e = refl

above-lost : (a l r b : Bool) → a ≡ false → false ≡ (a && (l && (r && b)))
above-lost a l r b e = sym (ap (λ (z : Bool). z && (l && (r && b))) e)

below-lost : (a l r b : Bool) → b ≡ false → false ≡ (a && (l && (r && b)))
below-lost true true true b e = sym e
below-lost true true false b e = refl
below-lost true false r b e = refl
below-lost false l r b e = refl

by-below : (a l r b : Bool) → r ≡ true → l ≡ true → a ≡ true → b ≡ (a && (l && (r && b)))
by-below a l r b e f g = sym (ap (λ (z : Bool). z && (l && (r && b))) g ∙ ap (λ (z : Bool). z && (r && b)) f ∙ ap (λ (z : Bool). z && b) e)

module _ (s : Scan) (x y : ℕ) (low : s.window ≤ x) (high : s.window ≤ y) where
  abbrev n : ℕ
  n = s.window

  abbrev at : ℕ
  at = y * s.width + x

  abbrev corner : ℕ
  corner = at - n * s.width - n

  abbrev rows : ℕ
  rows = n * side s

  abbrev value : Float
  value = get_or s.values at nan

  near : (j r c : ℕ) → j / side s ≡ r → j % side s ≡ c → neighbour s x y j ≡ get_or s.values (corner + r * s.width + c) nan
  unfolding neighbour value_at
  near j r c e f =
      ap (λ (k : ℕ). get_or s.values ((y + k - n) * s.width + (x + j % side s - n)) nan) e
      ∙ ap (λ (k : ℕ). get_or s.values ((y + r - n) * s.width + (x + k - n)) nan) f
      ∙ ap (λ (k : ℕ). get_or s.values k nan) (index_of s.width n x y r c (y - n) (omega arith) low)

  above : (j : ℕ) → neighbour s x y j ≡ block_at s.values corner s.width (side s) j
  above j = near j (j / side s) (j % side s) refl refl

  pub corner-is : corner + n * s.width + n ≡ at
  corner-is = rest (y * s.width) (n * s.width) (mul-le-mul_right s.width high)
    where
      rest : (p q : ℕ) → q ≤ p → p + x - q - n + q + n ≡ p + x
      rest p q h = omega arith

  own : (i : ℕ) → i < side s → neighbour s x y (rows + i) ≡ get_or s.values (corner + n * s.width + i) nan
  own i h = near (rows + i) n i (digits_div n h) (digits_mod n h)

  left : (i : ℕ) → i < n → neighbour s x y (rows + i) ≡ run_at s.values (at - n) i
  left i h = own i (omega arith) ∙ ap (λ (k : ℕ). get_or s.values k nan) (join (corner + n * s.width) at corner-is)
    where
      join : (p q : ℕ) → p + n ≡ q → p + i ≡ q - n + i
      join p q e = omega arith

  right : (i : ℕ) → i < n → neighbour s x y (rows + (n + (1 + i))) ≡ run_at s.values (at + 1) i
  right i h = own (n + (1 + i)) (omega arith) ∙ ap (λ (k : ℕ). get_or s.values k nan) (join (corner + n * s.width) at corner-is)
    where
      join : (p q : ℕ) → p + n ≡ q → p + (n + (1 + i)) ≡ q + 1 + i
      join p q e = omega arith

  -- the number of the first value below
  past : (j : ℕ) → rows + (n + (1 + (n + j))) ≡ suc n * side s + j
  past j = join (suc n * side s) (suc-mul n (side s))
    where
      join : (p : ℕ) → p ≡ rows + side s → rows + (n + (1 + (n + j))) ≡ p + j
      join p e = omega arith

  below : (j : ℕ) → neighbour s x y (rows + (n + (1 + (n + j)))) ≡ block_at s.values (at + s.width - n) s.width (side s) j
  below j =
      ap (λ (k : ℕ). neighbour s x y k) (past j)
      ∙ near (suc n * side s + j) (suc n + j / side s) (j % side s) (mul-add-div_right odd (suc n) j) (mul-add-mod_self_right (suc n) (side s) j)
      ∙ ap (λ (k : ℕ). get_or s.values (corner + k + j % side s) nan) (add-mul (suc n) (j / side s) s.width ∙ ap (λ (k : ℕ). k + j / side s * s.width) (suc-mul n s.width))
      ∙ ap (λ (k : ℕ). get_or s.values k nan) (join corner (n * s.width) s.width (j / side s * s.width) (j % side s) at corner-is)
    where
      odd : 0 < side s
      odd = omega arith

      join : (a b w q r m : ℕ) → a + b + n ≡ m → a + (b + w + q) + r ≡ m + w - n + q + r
      join a b w q r m e = omega arith

  -- ---- the pixel beats its window when it beats the four pieces
  abbrev beaten : ℕ → Bool
  beaten j = eqb j (middle s) || beats s j value (neighbour s x y j)

  before : (j : ℕ) (w : Float) → j < rows + n → neighbour s x y j ≡ w → beaten j ≡ lt w value
  before j w h e =
      ap (λ (z : Bool). z || beats s j value (neighbour s x y j)) (ne_eqb j (middle s) (λ q. omega (arith, middle-is s)))
      ∙ beats-before s j value (neighbour s x y j) (omega (arith, middle-is s)) ∙ ap (λ (z : Float). lt z value) e

  after : (j : ℕ) (w : Float) → rows + n < j → neighbour s x y j ≡ w → beaten j ≡ le w value
  after j w h e =
      ap (λ (z : Bool). z || beats s j value (neighbour s x y j)) (ne_eqb j (middle s) (λ q. omega (arith, middle-is s)))
      ∙ beats-after s j value (neighbour s x y j) (omega (arith, middle-is s)) ∙ ap (λ (z : Float). le z value) e

  itself : every 1 (λ j. beaten (rows + (n + j))) ≡ true
  unfolding every
  itself = ap (λ (z : Bool). z || beats s (rows + (n + 0)) value (neighbour s x y (rows + (n + 0)))) (eq-eqb (rows + (n + 0)) (middle s) (omega (arith, middle-is s)))

  abbrev beats_above : Bool
  beats_above = every rows (λ j. lt (block_at s.values corner s.width (side s) j) value)

  abbrev beats_left : Bool
  beats_left = every n (λ i. lt (run_at s.values (at - n) i) value)

  abbrev beats_right : Bool
  beats_right = every n (λ i. le (run_at s.values (at + 1) i) value)

  abbrev beats_below : Bool
  beats_below = every rows (λ j. le (block_at s.values (at + s.width - n) s.width (side s) j) value)

  highest-is : highest s x y ≡ (beats_above && (beats_left && (beats_right && beats_below)))
  unfolding highest value_at
  highest-is =
      ap (λ (k : ℕ). every k beaten) (cells_are s) ∙ every-cut beaten rows (n + (1 + (n + rows)))
      ∙ ap (λ (z : Bool). every rows beaten && z) (every-cut (λ j. beaten (rows + j)) n (1 + (n + rows)))
      ∙ ap (λ (z : Bool). every rows beaten && (every n (λ j. beaten (rows + j)) && z)) (every-cut (λ j. beaten (rows + (n + j))) 1 (n + rows))
      ∙ ap (λ (z : Bool). every rows beaten && (every n (λ j. beaten (rows + j)) && (z && every (n + rows) (λ j. beaten (rows + (n + (1 + j))))))) itself
      ∙ ap (λ (z : Bool). every rows beaten && (every n (λ j. beaten (rows + j)) && z)) (every-cut (λ j. beaten (rows + (n + (1 + j)))) n rows)
      ∙ ap (λ (z : Bool). z && (every n (λ j. beaten (rows + j)) && (every n (λ j. beaten (rows + (n + (1 + j)))) && every rows (λ j. beaten (rows + (n + (1 + (n + j))))))))
      (every-same rows beaten (λ j. lt (block_at s.values corner s.width (side s) j) value) (λ j h. before j (block_at s.values corner s.width (side s) j) (omega arith) (above j)))
      ∙ ap (λ (z : Bool). beats_above && (z && (every n (λ j. beaten (rows + (n + (1 + j)))) && every rows (λ j. beaten (rows + (n + (1 + (n + j))))))))
      (every-same n (λ j. beaten (rows + j)) (λ i. lt (run_at s.values (at - n) i) value) (λ i h. before (rows + i) (run_at s.values (at - n) i) (omega arith) (left i h)))
      ∙ ap (λ (z : Bool). beats_above && (beats_left && (z && every rows (λ j. beaten (rows + (n + (1 + (n + j))))))))
      (every-same n (λ j. beaten (rows + (n + (1 + j)))) (λ i. le (run_at s.values (at + 1) i) value) (λ i h. after (rows + (n + (1 + i))) (run_at s.values (at + 1) i) (omega arith) (right i h)))
      ∙ ap (λ (z : Bool). beats_above && (beats_left && (beats_right && z)))
      (every-same rows (λ j. beaten (rows + (n + (1 + (n + j))))) (λ j. le (block_at s.values (at + s.width - n) s.width (side s) j) value) (λ j h. after (rows + (n + (1 + (n + j)))) (block_at s.values (at + s.width - n) s.width (side s) j) (omega arith) (below j)))

  pub lost-right : beats_right ≡ false → false ≡ highest s x y
  lost-right e = right-lost beats_above beats_left beats_right beats_below e ∙ sym highest-is

  pub lost-left : beats_left ≡ false → false ≡ highest s x y
  lost-left e = left-lost beats_above beats_left beats_right beats_below e ∙ sym highest-is

  pub lost-above : beats_above ≡ false → false ≡ highest s x y
  lost-above e = above-lost beats_above beats_left beats_right beats_below e ∙ sym highest-is

  pub lost-below : beats_below ≡ false → false ≡ highest s x y
  lost-below e = below-lost beats_above beats_left beats_right beats_below e ∙ sym highest-is

  pub won-by-below : beats_right ≡ true → beats_left ≡ true → beats_above ≡ true → beats_below ≡ highest s x y
  won-by-below e f g = by-below beats_above beats_left beats_right beats_below e f g ∙ sym highest-is

  -- ---- the positive values of the window are those of the four pieces
  abbrev counted : ℕ → Bool
  counted j = not (eqb j (middle s)) && lt plus_zero (neighbour s x y j)

  other : (j : ℕ) (w : Float) → (j ≡ rows + n → ⊥) → neighbour s x y j ≡ w → counted j ≡ lt plus_zero w
  other j w h e =
      ap (λ (z : Bool). not z && lt plus_zero (neighbour s x y j)) (ne_eqb j (middle s) (λ q. h (q ∙ middle-is s))) ∙ ap (λ (z : Float). lt plus_zero z) e

  itself-not : count 1 (λ j. counted (rows + (n + j))) ≡ 0
  unfolding count
  itself-not = ap (λ (z : Bool). 0 + cond {A = ℕ} (not z && lt plus_zero (neighbour s x y (rows + (n + 0)))) 1 0) (eq-eqb (rows + (n + 0)) (middle s) (omega (arith, middle-is s)))

  abbrev count_above : ℕ
  count_above = count rows (λ j. lt plus_zero (block_at s.values corner s.width (side s) j))

  abbrev count_left : ℕ
  count_left = count n (λ i. lt plus_zero (run_at s.values (at - n) i))

  abbrev count_right : ℕ
  count_right = count n (λ i. lt plus_zero (run_at s.values (at + 1) i))

  abbrev count_below : ℕ
  count_below = count rows (λ j. lt plus_zero (block_at s.values (at + s.width - n) s.width (side s) j))

  positives-is : positives s x y ≡ count_above + count_left + count_right + count_below
  unfolding positives
  positives-is =
      ap (λ (k : ℕ). count k counted) (cells_are s) ∙ count_cut counted rows (n + (1 + (n + rows)))
      ∙ ap (λ (z : ℕ). count rows counted + z) (count_cut (λ j. counted (rows + j)) n (1 + (n + rows)))
      ∙ ap (λ (z : ℕ). count rows counted + (count n (λ j. counted (rows + j)) + z)) (count_cut (λ j. counted (rows + (n + j))) 1 (n + rows))
      ∙ ap (λ (z : ℕ). count rows counted + (count n (λ j. counted (rows + j)) + (count 1 (λ j. counted (rows + (n + j))) + z))) (count_cut (λ j. counted (rows + (n + (1 + j)))) n rows)
      ∙ sums (count_same rows counted (λ j. lt plus_zero (block_at s.values corner s.width (side s) j)) (λ j h. other j (block_at s.values corner s.width (side s) j) (λ e. omega arith) (above j)))
      (count_same n (λ j. counted (rows + j)) (λ i. lt plus_zero (run_at s.values (at - n) i)) (λ i h. other (rows + i) (run_at s.values (at - n) i) (λ e. omega arith) (left i h)))
      itself-not
      (count_same n (λ j. counted (rows + (n + (1 + j)))) (λ i. lt plus_zero (run_at s.values (at + 1) i)) (λ i h. other (rows + (n + (1 + i))) (run_at s.values (at + 1) i) (λ e. omega arith) (right i h)))
      (count_same rows (λ j. counted (rows + (n + (1 + (n + j))))) (λ j. lt plus_zero (block_at s.values (at + s.width - n) s.width (side s) j)) (λ j h. other (rows + (n + (1 + (n + j)))) (block_at s.values (at + s.width - n) s.width (side s) j) (λ e. omega arith) (below j)))
    where
      sums : {a b c d e a' b' d' e' : ℕ} → a ≡ a' → b ≡ b' → c ≡ 0 → d ≡ d' → e ≡ e' → a + (b + (c + (d + e))) ≡ a' + b' + d' + e'
      sums p q r t u = omega arith

  -- counts that are those of the pieces, one after the other: how far they go, and how large they are
  module _ {l r : ℕ} (small : n ≤ 8) (f : l ≡ count_left) (g : r ≡ count_right) where
    beside-most : l + r ≤ 16
    beside-most = omega (arith, f, g, count_most n (λ i. lt plus_zero (run_at s.values (at - n) i)), count_most n (λ i. lt plus_zero (run_at s.values (at + 1) i)))

    rows-most : rows ≤ 136
    rows-most = mul-le-mul {n₂ = 8} {m₂ = 17} small (let m : side s ≤ 17 = omega arith in m)

    pub positives-beside : (l + r ≤ positives s x y) × (l + r ≤ 16)
    positives-beside = (omega (arith, f, g, positives-is), beside-most)

    pub positives-above : {a : ℕ} → a ≡ count_above → (l + r + a ≤ positives s x y) × (l + r + a ≤ 152)
    positives-above {a} e = (omega (arith, f, g, positives-is), omega (arith, beside-most, rows-most, count_most rows (λ j. lt plus_zero (block_at s.values corner s.width (side s) j))))

    pub positives-all : {a b : ℕ} → a ≡ count_above → b ≡ count_below → (l + r + a + b ≡ positives s x y) × (l + r + a + b ≤ 288)
    positives-all {a} {b} e h =
        (omega (arith, f, g, positives-is), omega (arith, (positives-above e).1, rows-most, count_most rows (λ j. lt plus_zero (block_at s.values (at + s.width - n) s.width (side s) j))))

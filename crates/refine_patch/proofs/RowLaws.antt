-- Sample by sample, row by row, the sums of four patches become their coefficients; and where the rows and the centres lie.
use mathlib.Core.Path.{◌≡◌, refl, sym, ap, ◌∙◌, subst}
use mathlib.Core.Bool.{Bool, true, ◌&&◌, cond, and-eq-true_iff}
use mathlib.Core.Logic.{⊎_elim}
use mathlib.Core.List.{List}
use Prim.Native.Nat.{ℕ, zero, suc, ◌+◌, ◌-◌, ◌*◌, ◌/◌, ◌%◌, ◌≤◌, ◌<◌}
use native.Mathlib.Nat.{add_assoc, add-zero, add-suc, add-mul, mul_assoc, one-mul, zero-mul, le_refl, le_trans, suc-mul, mul-le-mul, mul-le-mul_right, eq-or-lt_of_le, div-add-mod', mod-lt}
use native.Mathlib.Numerals.{add-one}
use native.Mathlib.Omega.{arith}
use Rattle.std.specs.Ordering.{ord_min, nat_cmp}
use Rattle.std.proofs.lemmas.Grind.{common_steps}
use borrow.Author.Tests.{leb-true, lt-ltb, le-ltb}
use lib.Dec.{leb}
use lib.Arith.{digits_div, digits_mod}
use lib.ListN.{length, get_or}
use lib.Ieee.{Float}
use Rattle.shapes.specs.Numbers.{plus_zero, entry}
use Rattle.shapes.specs.Turns.{turns}
use Rattle.refine_operator.specs.Basis.{side, samples}
use Rattle.refine_formulas.specs.Numbers.{◌⊕◌, ◌⊖◌, ◌⊗◌}
use Rattle.refine_patch.specs.declared.Firsts.{Firsts}
use Rattle.refine_patch.specs.declared.Sums.{Sums}
use Rattle.refine_patch.specs.StepsFrom.{sample_from, coefficient_from}
use Rattle.refine_patch.specs.StepsFour.{lane_of, lane_in, sum_in, quad_in, quad_by, sums_by, moved_by, float_of, level_of, added, row_added, blocks, wide_of, rows_of, FourReach, PatchesInside, Reaches, RowsReach, Gathered, Rows}
use Rattle.refine_patch.specs.StepsRows.{centres_of, term, sums_after}
use Rattle.refine_patch.proofs.FourLaws.{lt-or-le}

-- ---- by the lane
quad-same : (f g : ℕ → Float) → ((l : ℕ) → l < 4 → f l ≡ g l) → quad_by f ≡ quad_by g
quad-same f g e =
    let a = e 0 (omega arith) in
    let b = e 1 (omega arith) in
    let c = e 2 (omega arith) in
    let d = e 3 (omega arith) in
    cc

lane-quad : (f : ℕ → Float) (l : ℕ) → l < 4 → lane_in (quad_by f) l ≡ f l
lane-quad f zero h = refl
lane-quad f (suc zero) h = refl
lane-quad f (suc (suc zero)) h = refl
lane-quad f (suc (suc (suc zero))) h = refl
lane-quad f (suc (suc (suc (suc l)))) h = absurd (let z : ⊥ = omega arith in z)

lane-moved : (at : Firsts) (by l : ℕ) → lane_of (moved_by at by) l ≡ lane_of at l + by
lane-moved at by zero = refl
lane-moved at by (suc zero) = refl
lane-moved at by (suc (suc zero)) = refl
lane-moved at by (suc (suc (suc l))) = refl

-- ---- the samples of one patch
-- the sample i of row j
pub row-sample : (list : List ℕ) (pitch radius first j i : ℕ) → i < side radius → float_of (get_or list (first + j * pitch + i) 0) ≡ sample_from list pitch radius first (j * side radius + i)
unfolding sample_from
row-sample list pitch radius first j i h =
    ap (λ (k : ℕ). float_of (get_or list (first + k * pitch + i) 0)) (sym (digits_div j h))
    ∙ ap (λ (k : ℕ). float_of (get_or list (first + (j * side radius + i) / side radius * pitch + k) 0)) (sym (digits_mod j h))

-- the middle sample
pub middle : (r : ℕ) → samples r / 2 ≡ r * side r + r
middle r = ap (λ (n : ℕ). n / 2) (add-mul (2 * r) 1 (side r) ∙ ap (λ (n : ℕ). n + 1 * side r) (mul_assoc 2 r (side r)) ∙ ap (λ (n : ℕ). 2 * (r * side r) + n) (one-mul (side r))) ∙ twice r (r * side r)
  where
    twice : (r p : ℕ) → (2 * p + (2 * r + 1)) / 2 ≡ p + r
    twice r p = omega arith

pub centre-sample : (list : List ℕ) (pitch radius first : ℕ) → float_of (get_or list (first + (radius * pitch + radius)) 0) ≡ sample_from list pitch radius first (samples radius / 2)
centre-sample list pitch radius first =
    ap (λ (k : ℕ). float_of (get_or list k 0)) (sym (add_assoc first (radius * pitch) radius))
    ∙ row-sample list pitch radius first radius radius (omega arith)
    ∙ ap (λ (k : ℕ). sample_from list pitch radius first k) (sym (middle radius))

-- the whole part of a number below some rows
whole_below : (rows width n d m : ℕ) → d * width + m ≡ n → n < rows * width → d < rows
whole_below rows width n d m e h = ⊎_elim (λ (p : d < rows). p) (λ (p : rows ≤ d). absurd (too_many (rows * width) (d * width) (mul-le-mul_right width p) e h)) (lt-or-le d rows)
  where
    too_many : (a b : ℕ) → a ≤ b → b + m ≡ n → n < a → ⊥
    too_many a b q e h = omega arith

-- ---- how many samples of a row are read, and how many rows at a time
pub wide-small : (radius : ℕ) → radius < 4 → wide_of radius ≡ 8
wide-small radius h = ap (λ (b : Bool). cond b 8 16) (lt-ltb radius 4 h)

pub wide-large : (radius : ℕ) → 4 ≤ radius → wide_of radius ≡ 16
wide-large radius h = ap (λ (b : Bool). cond b 8 16) (le-ltb radius 4 h)

pub wide-most : (radius : ℕ) → wide_of radius ≤ 16
wide-most radius = ⊎_elim (λ (p : radius < 4). omega (arith, wide-small radius p)) (λ (p : 4 ≤ radius). omega (arith, wide-large radius p)) (lt-or-le radius 4)

pub wide-least : (radius : ℕ) → radius ≤ 7 → 2 * radius + 1 ≤ wide_of radius
wide-least radius h = ⊎_elim (λ (p : radius < 4). omega (arith, wide-small radius p)) (λ (p : 4 ≤ radius). omega (arith, wide-large radius p)) (lt-or-le radius 4)

pub rows-small : (radius : ℕ) → radius < 3 → rows_of radius ≡ 5
rows-small radius h = ap (λ (b : Bool). cond b 5 1) (lt-ltb radius 3 h)

pub rows-large : (radius : ℕ) → 3 ≤ radius → rows_of radius ≡ 1
rows-large radius h = ap (λ (b : Bool). cond b 5 1) (le-ltb radius 3 h)

pub rows-most : (radius : ℕ) → rows_of radius ≤ 5
rows-most radius = ⊎_elim (λ (p : radius < 3). omega (arith, rows-small radius p)) (λ (p : 3 ≤ radius). omega (arith, rows-large radius p)) (lt-or-le radius 3)

pub rows-least : (radius : ℕ) → 0 < rows_of radius
rows-least radius = ⊎_elim (λ (p : radius < 3). omega (arith, rows-small radius p)) (λ (p : 3 ≤ radius). omega (arith, rows-large radius p)) (lt-or-le radius 3)

-- the lesser of two numbers
pub lesser-of : (a b r : ℕ) → r ≡ ord_min nat_cmp a b → (r ≤ a) × (r ≤ b) × (0 < a → 0 < b → 0 < r)
lesser-of a b r e = (grind (arith, common_steps), grind (arith, common_steps), λ p q. grind (arith, common_steps))

-- ---- adding samples
pub row_none : (columns : List Float) (row : List ℕ) (centre : List Float) (from : ℕ) (s : Sums) → s ≡ row_added columns row centre from 0 s
unfolding row_added
row_none columns row centre from s = refl

pub row_more : (columns : List Float) (row : List ℕ) (centre : List Float) (from n : ℕ) (s t u : Sums) (z : List Float) → t ≡ row_added columns row centre from n s → z ≡ level_of (λ l. get_or row (4 * n + l) 0) centre → u ≡ added columns (from + n) z t → u ≡ row_added columns row centre from (n + 1) s
unfolding row_added
row_more columns row centre from n s t u z p e q =
    q
    ∙ ap (λ (v : List Float). added columns (from + n) v t) e
    ∙ ap (λ (v : Sums). added columns (from + n) (level_of (λ l. get_or row (4 * n + l) 0) centre) v) p
    ∙ ap (λ (k : ℕ). row_added columns row centre from k s) (sym (add-one n))

module _ (list : List ℕ) (pitch : ℕ) (columns : List Float) (radius : ℕ) (at : Firsts) where
  -- what the sample k is above the centre, in the lane l
  abbrev height : ℕ → ℕ → Float
  height k l = sample_from list pitch radius (lane_of at l) k ⊖ sample_from list pitch radius (lane_of at l) (samples radius / 2)

  sums-more : (k : ℕ) (f : ℕ → Float) → ((l : ℕ) → l < 4 → f l ≡ height k l) → added columns k (quad_by f) (sums_after list pitch columns radius at k) ≡ sums_after list pitch columns radius at (suc k)
  unfolding turns
  sums-more k f e = ap (λ (v : List Float). added columns k v (sums_after list pitch columns radius at k)) (quad-same f (height k) e)

  rows-height : (row : List ℕ) (centre : List Float) (j rows n : ℕ) → Rows list pitch (side radius) (moved_by at (j * pitch)) rows row → centre ≡ centres_of list at (radius * pitch + radius) → n < rows * side radius → (l : ℕ) → l < 4 → float_of (get_or row (4 * n + l) 0) ⊖ lane_in centre l ≡ height (j * side radius + n) l
  rows-height row centre j rows n g c h l q =
      let d = n / side radius in
      let m = n % side radius in
      let e : d * side radius + m ≡ n = div-add-mod' n (side radius) in
      let p : m < side radius = mod-lt n (omega arith) in
      ap (λ (k : ℕ). float_of (get_or row (4 * k + l) 0) ⊖ lane_in centre l) (sym e)
      ∙ ap (λ (v : ℕ). float_of v ⊖ lane_in centre l)
      (g.here d m l (whole_below rows (side radius) n d m e h) p q ∙ ap (λ (k : ℕ). get_or list (k + d * pitch + m) 0) (lane-moved at (j * pitch) l) ∙ ap (λ (k : ℕ). get_or list (k + m) 0) (add_assoc (lane_of at l) (j * pitch) (d * pitch) ∙ ap (λ (k : ℕ). lane_of at l + k) (sym (add-mul j d pitch))))
      ∙ ap (λ (v : Float). v ⊖ lane_in centre l) (row-sample list pitch radius (lane_of at l) (j + d) m p ∙ ap (λ (k : ℕ). sample_from list pitch radius (lane_of at l) k) (ap (λ (k : ℕ). k + m) (add-mul j d (side radius)) ∙ add_assoc (j * side radius) (d * side radius) m ∙ ap (λ (k : ℕ). j * side radius + k) e))
      ∙ ap (λ (v : Float). sample_from list pitch radius (lane_of at l) (j * side radius + n) ⊖ v)
      (ap (λ (v : List Float). lane_in v l) c ∙ lane-quad (λ m. float_of (get_or list (lane_of at m + (radius * pitch + radius)) 0)) l q ∙ centre-sample list pitch radius (lane_of at l))

  along-rows : (row : List ℕ) (centre : List Float) (j rows n : ℕ) → Rows list pitch (side radius) (moved_by at (j * pitch)) rows row → centre ≡ centres_of list at (radius * pitch + radius) → n ≤ rows * side radius → row_added columns row centre (j * side radius) n (sums_after list pitch columns radius at (j * side radius)) ≡ sums_after list pitch columns radius at (j * side radius + n)
  unfolding row_added
  along-rows row centre j rows zero g c h = ap (λ (k : ℕ). sums_after list pitch columns radius at k) (sym (add-zero (j * side radius)))
  along-rows row centre j rows (suc n) g c h =
      ap (λ (s : Sums). added columns (j * side radius + n) (level_of (λ l. get_or row (4 * n + l) 0) centre) s) (along-rows row centre j rows n g c (omega arith))
      ∙ sums-more (j * side radius + n) (λ l. float_of (get_or row (4 * n + l) 0) ⊖ lane_in centre l) (rows-height row centre j rows n g c (omega arith))
      ∙ ap (λ (k : ℕ). sums_after list pitch columns radius at k) (sym (add-suc (j * side radius) n))

  -- ---- all rows
  pub sums_none : (s : Sums) → s ≡ sums_by (λ c l. plus_zero) → s ≡ sums_after list pitch columns radius at (0 * side radius)
  unfolding turns
  sums_none s e = e ∙ ap (λ (n : ℕ). sums_after list pitch columns radius at n) (sym (zero-mul (side radius)))

  pub rows-done : (row : List ℕ) (centre : List Float) (j rows : ℕ) (s r : Sums) → s ≡ sums_after list pitch columns radius at (j * side radius) → Rows list pitch (side radius) (moved_by at (j * pitch)) rows row → centre ≡ centres_of list at (radius * pitch + radius) → r ≡ row_added columns row centre (j * side radius) (rows * side radius) s → r ≡ sums_after list pitch columns radius at ((j + rows) * side radius)
  rows-done row centre j rows s r e g c q =
      q
      ∙ ap (λ (t : Sums). row_added columns row centre (j * side radius) (rows * side radius) t) e
      ∙ along-rows row centre j rows (rows * side radius) g c (le_refl (rows * side radius))
      ∙ ap (λ (n : ℕ). sums_after list pitch columns radius at n) (sym (add-mul j rows (side radius)))

  pub all-rows : (j : ℕ) (s : Sums) → j ≡ side radius → s ≡ sums_after list pitch columns radius at (j * side radius) → s ≡ sums_after list pitch columns radius at (samples radius)
  all-rows j s h e = e ∙ ap (λ (n : ℕ). sums_after list pitch columns radius at (n * side radius)) h

  -- the sums are the coefficients
  pub blocks-done : (s : Sums) (to : ℕ) (old : List Float) → s ≡ sums_after list pitch columns radius at (samples radius) → blocks 5 (sum_in s) to old ≡ blocks 5 (λ c l. coefficient_from list pitch columns radius (lane_of at l) c) to old
  unfolding blocks coefficient_from
  blocks-done s to old e = ap (λ (t : Sums). blocks 5 (sum_in t) to old) e

-- ---- where the rows and the centres lie
-- row j begins at most 2 · radius rows on
rows-below : (pitch radius j : ℕ) → j < side radius → j * pitch ≤ 2 * radius * pitch
rows-below pitch radius j h = mul-le-mul_right pitch (omega arith)

-- so many samples of each row lie in the list where those of the last row do
pub row_below : (count pitch radius j : ℕ) (at : Firsts) → Reaches count pitch radius at → j < side radius → FourReach (count + 1) (wide_of radius) (moved_by at (j * pitch))
row_below count pitch radius j at w h = record { first = lane at.a w.first; second = lane at.b w.second; third = lane at.c w.third; fourth = lane at.d w.fourth }
  where
    begun : (a by most n : ℕ) → by ≤ most → a + most + n < count + 1 → a + by + n < count + 1
    begun a by most n p q = omega arith

    lane : (a : ℕ) → a + 2 * radius * pitch + wide_of radius < count + 1 → a + j * pitch + wide_of radius < count + 1
    lane a p = begun a (j * pitch) (2 * radius * pitch) (wide_of radius) (rows-below pitch radius j h) p

-- those of some rows from row j on
pub rows-reach : (count pitch radius j rows : ℕ) (at : Firsts) → Reaches count pitch radius at → j + rows ≤ side radius → RowsReach count pitch radius (moved_by at (j * pitch)) rows
rows-reach count pitch radius j rows at w h =
    record {
      each =
          λ k p.
          let f = row_below count pitch radius (j + k) at w (omega arith) in
          record { first = lane k at.a f.first; second = lane k at.b f.second; third = lane k at.c f.third; fourth = lane k at.d f.fourth };
    }
  where
    lane : (k a : ℕ) → a + (j + k) * pitch + wide_of radius < count + 1 → a + j * pitch + k * pitch + wide_of radius < count + 1
    lane k a p = subst (λ (n : ℕ). n + wide_of radius < count + 1) (ap (λ (n : ℕ). a + n) (add-mul j k pitch) ∙ sym (add_assoc a (j * pitch) (k * pitch))) p

-- and the first of each row does
pub row-begins : (count pitch radius j : ℕ) (at : Firsts) → radius ≤ 7 → FourReach (count + 1) (wide_of radius) (moved_by at (j * pitch)) → FourReach count (j * pitch) at
row-begins count pitch radius j at h f = record { first = lane _ f.first; second = lane _ f.second; third = lane _ f.third; fourth = lane _ f.fourth }
  where
    lane : (a : ℕ) → a + wide_of radius < count + 1 → a < count
    lane a p = omega (arith, wide-least radius h)

-- the last row begins in the list
pub begins : (count radius a down : ℕ) → a + down + 2 * radius < count → a + down < count
begins count radius a down h = omega arith

-- they do where so many are left from the first of each patch's last row on
pub reaches_more : (count pitch radius : ℕ) (at : Firsts) (p q r s : Bool) → PatchesInside count pitch radius at
    → p ≡ leb (wide_of radius) (count - (at.a + 2 * radius * pitch)) → q ≡ leb (wide_of radius) (count - (at.b + 2 * radius * pitch)) → r ≡ leb (wide_of radius) (count - (at.c + 2 * radius * pitch)) → s ≡ leb (wide_of radius) (count - (at.d + 2 * radius * pitch))
    → (p && q && r && s) ≡ true → Reaches count pitch radius at
reaches_more count pitch radius at p q r s w a b c d h =
    let three = (and-eq-true_iff (p && q && r) s).0 h in
    let two = (and-eq-true_iff (p && q) r).0 three.0 in
    let one = (and-eq-true_iff p q).0 two.0 in
    record { first = lane at.a _ p w.first a one.0; second = lane at.b _ q w.second b one.1; third = lane at.c _ r w.third c two.1; fourth = lane at.d _ s w.fourth d three.1 }
  where
    left : (a down n : ℕ) → a + down + 2 * radius < count → n ≤ count - (a + down) → a + down + n < count + 1
    left a down n p q = omega arith

    lane : (a down : ℕ) (t : Bool) → a + down + 2 * radius < count → t ≡ leb (wide_of radius) (count - (a + down)) → t ≡ true → a + down + wide_of radius < count + 1
    lane a down t p e h = left a down (wide_of radius) p (leb-true (wide_of radius) (count - (a + down)) (sym e ∙ h))

-- the middle sample lies in the list, and so does each
pub centre-inside : (count pitch radius first : ℕ) → first + 2 * radius * pitch + 2 * radius < count → first + (radius * pitch + radius) < count
centre-inside count pitch radius first h = room (radius * pitch) (2 * radius * pitch) (rows-below pitch radius radius (omega arith)) h
  where
    room : (a b : ℕ) → a ≤ b → first + b + 2 * radius < count → first + (a + radius) < count
    room a b p q = omega arith

pub sample-inside : (count pitch radius first k : ℕ) → k < samples radius → first + 2 * radius * pitch + 2 * radius < count → first + k / side radius * pitch + k % side radius < count
sample-inside count pitch radius first k h q =
    let d = k / side radius in
    let m = k % side radius in
    room (d * pitch) (2 * radius * pitch) m (rows-below pitch radius d (whole_below (side radius) (side radius) k d m (div-add-mod' k (side radius)) h)) (mod-lt k (omega arith)) q
  where
    room : (a b m : ℕ) → a ≤ b → m < side radius → first + b + 2 * radius < count → first + a + m < count
    room a b m p r q = omega arith

pub samples-most : (radius : ℕ) → radius ≤ 7 → samples radius ≤ 225
samples-most radius h = mul-le-mul {n₁ = side radius} {m₁ = side radius} {n₂ = 15} {m₂ = 15} (omega arith) (omega arith)

-- a row's samples are numbered below 225
pub numbered : (radius j : ℕ) → radius ≤ 7 → j < side radius → j * side radius + side radius ≤ 225
numbered radius j h g =
    subst (λ (n : ℕ). n ≤ 225) (suc-mul j (side radius)) (le_trans (mul-le-mul_right (side radius) g) (mul-le-mul {n₁ = side radius} {m₁ = side radius} {n₂ = 15} {m₂ = 15} (omega arith) (omega arith)))

-- as many rows as are gathered at a time have few samples
pub rows_few : (radius rows : ℕ) → radius ≤ 7 → rows ≤ rows_of radius → rows * side radius ≤ 25
rows_few radius rows h q =
    ⊎_elim (λ (p : radius < 3). le_trans (mul-le-mul {n₁ = rows} {m₁ = side radius} {n₂ = 5} {m₂ = 5} (omega (arith, rows-small radius p)) (omega arith)) (omega arith))
    (λ (p : 3 ≤ radius). le_trans (mul-le-mul {n₁ = rows} {m₁ = side radius} {n₂ = 1} {m₂ = 15} (omega (arith, rows-large radius p)) (omega arith)) (omega arith))
    (lt-or-le radius 3)

-- which are numbered below those of the patch
pub rows-numbered : (radius j rows most : ℕ) → radius ≤ most → j + rows ≤ side radius → j * side radius + rows * side radius ≤ side most * side most
rows-numbered radius j rows most h q =
    subst (λ (n : ℕ). n ≤ side most * side most) (add-mul j rows (side radius)) (mul-le-mul {n₁ = j + rows} {m₁ = side radius} {n₂ = side most} {m₂ = side most} (omega arith) (omega arith))

-- and what is read of them has room in the row
pub rows-room : (radius j rows : ℕ) → radius ≤ 7 → rows ≤ rows_of radius → j < rows → 4 * (j * side radius) + 4 * wide_of radius ≤ 112
rows-room radius j rows h q r =
    ⊎_elim (λ (p : radius < 3). near (j * side radius) (wide_of radius) (mul-le-mul {n₁ = j} {m₁ = side radius} {n₂ = 4} {m₂ = 5} (omega (arith, rows-small radius p)) (omega arith)) (wide-small radius (omega arith)))
    (λ (p : 3 ≤ radius). far (j * side radius) (wide_of radius) (mul-le-mul {n₁ = j} {m₁ = side radius} {n₂ = 0} {m₂ = 15} (omega (arith, rows-large radius p)) (omega arith)) (wide-most radius))
    (lt-or-le radius 3)
  where
    near : (a w : ℕ) → a ≤ 4 * 5 → w ≡ 8 → 4 * a + 4 * w ≤ 112
    near a w p q = omega arith

    far : (a w : ℕ) → a ≤ 0 * 15 → w ≤ 16 → 4 * a + 4 * w ≤ 112
    far a w p q = omega arith

-- ---- rows one after the other
-- an entry of an earlier row lies before a later one
earlier : (side i j k l : ℕ) → i < side → l < 4 → j < k → 4 * (j * side + i) + l < 4 * (k * side)
earlier side i j k l p q h = room (j * side) (k * side) (subst (λ (n : ℕ). n ≤ k * side) (suc-mul j side) (mul-le-mul_right side h))
  where
    room : (a b : ℕ) → a + side ≤ b → 4 * (a + i) + l < 4 * b
    room a b e = omega arith

module _ (list : List ℕ) (pitch side : ℕ) (at : Firsts) where
  pub rows_none : (row : List ℕ) → length row ≡ 112 → Rows list pitch side at 0 row
  rows_none row h = record { long = h; here = λ j i l p q r. absurd (let z : ⊥ = omega arith in z) }

  pub rows_more : (n k : ℕ) (old row : List ℕ) → side ≤ n → Rows list pitch side at k old → Gathered list (moved_by at (k * pitch)) n (4 * (k * side)) old row → Rows list pitch side at (k + 1) row
  rows_more n k old row h g w =
      record {
        long = w.long;
        here =
            λ j i l p q r.
            ⊎_elim
            (λ (same : j ≡ k).
            subst (λ (m : ℕ). get_or row (4 * (m * side + i) + l) 0 ≡ get_or list (lane_of at l + m * pitch + i) 0) (sym same)
            (ap (λ (m : ℕ). get_or row m 0) (let e : 4 * (k * side + i) + l ≡ 4 * (k * side) + 4 * i + l = omega arith in e) ∙ w.here i l (omega arith) r ∙ ap (λ (m : ℕ). get_or list (m + i) 0) (lane-moved at (k * pitch) l)))
            (λ (less : j < k). w.before (4 * (j * side + i) + l) (earlier side i j k l q r less) ∙ g.here j i l less q r)
            (eq-or-lt_of_le (omega arith));
      }

-- ---- a number that is read four times
pub number-four : (columns : List Float) (i : ℕ) → ((j l : ℕ) → j < 125 → l < 4 → entry columns (624 + 4 * j + l) ≡ entry columns j) → i < 125 → quad_by (λ l. entry columns (624 + 4 * i + l)) ≡ quad_by (λ l. entry columns i)
number-four columns i each h = quad-same (λ l. entry columns (624 + 4 * i + l)) (λ l. entry columns i) (λ l q. each i l h q)

-- the sums of a sample, of its five numbers read so
module _ (columns : List Float) (k : ℕ) (z : List Float) (s : Sums) where
  -- the sum of one coefficient
  part : (c : ℕ) (old n r : List Float) → n ≡ quad_by (λ l. entry columns (5 * k + c)) → r ≡ quad_by (λ l. lane_in old l ⊕ lane_in n l ⊗ lane_in z l) → r ≡ quad_by (λ l. lane_in old l ⊕ entry columns (5 * k + c) ⊗ lane_in z l)
  part c old n r e q = q ∙ ap (λ (v : List Float). quad_by (λ l. lane_in old l ⊕ lane_in v l ⊗ lane_in z l)) e

  pub sample-added : (n0 n1 n2 n3 n4 r0 r1 r2 r3 r4 : List Float)
      → n0 ≡ quad_by (λ l. entry columns (5 * k + 0)) → n1 ≡ quad_by (λ l. entry columns (5 * k + 1)) → n2 ≡ quad_by (λ l. entry columns (5 * k + 2)) → n3 ≡ quad_by (λ l. entry columns (5 * k + 3)) → n4 ≡ quad_by (λ l. entry columns (5 * k + 4))
      → r0 ≡ quad_by (λ l. lane_in s.a l ⊕ lane_in n0 l ⊗ lane_in z l) → r1 ≡ quad_by (λ l. lane_in s.b l ⊕ lane_in n1 l ⊗ lane_in z l) → r2 ≡ quad_by (λ l. lane_in s.c l ⊕ lane_in n2 l ⊗ lane_in z l) → r3 ≡ quad_by (λ l. lane_in s.d l ⊕ lane_in n3 l ⊗ lane_in z l) → r4 ≡ quad_by (λ l. lane_in s.e l ⊕ lane_in n4 l ⊗ lane_in z l)
      → record { a = r0; b = r1; c = r2; d = r3; e = r4 } ≡ added columns k z s
  sample-added n0 n1 n2 n3 n4 r0 r1 r2 r3 r4 a b c d e p q u v w =
      ap (λ (x : List Float). record { a = x; b = r1; c = r2; d = r3; e = r4 }) (part 0 s.a n0 r0 a p)
      ∙ ap (λ (x : List Float). record { a = quad_in (added columns k z s) 0; b = x; c = r2; d = r3; e = r4 }) (part 1 s.b n1 r1 b q)
      ∙ ap (λ (x : List Float). record { a = quad_in (added columns k z s) 0; b = quad_in (added columns k z s) 1; c = x; d = r3; e = r4 }) (part 2 s.c n2 r2 c u)
      ∙ ap (λ (x : List Float). record { a = quad_in (added columns k z s) 0; b = quad_in (added columns k z s) 1; c = quad_in (added columns k z s) 2; d = x; e = r4 }) (part 3 s.d n3 r3 d v)
      ∙ ap (λ (x : List Float). record { a = quad_in (added columns k z s) 0; b = quad_in (added columns k z s) 1; c = quad_in (added columns k z s) 2; d = quad_in (added columns k z s) 3; e = x }) (part 4 s.e n4 r4 e w)

-- ---- the sum of one coefficient of one patch
module _ (list : List ℕ) (pitch : ℕ) (columns : List Float) (radius first i : ℕ) where
  pub term-more : (k v w : ℕ) (sum : Float) → sum ≡ turns k (term list pitch columns radius first i) plus_zero → v ≡ get_or list (first + k / side radius * pitch + k % side radius) 0 → w ≡ get_or list (first + (radius * pitch + radius)) 0
      → sum ⊕ entry columns (5 * k + i) ⊗ (float_of v ⊖ float_of w) ≡ turns (k + 1) (term list pitch columns radius first i) plus_zero
  unfolding turns sample_from
  term-more k v w sum e p q =
      ap (λ (s : Float). s ⊕ entry columns (5 * k + i) ⊗ (float_of v ⊖ float_of w)) e
      ∙ ap (λ (n : ℕ). turns k (term list pitch columns radius first i) plus_zero ⊕ entry columns (5 * k + i) ⊗ (float_of n ⊖ float_of w)) p
      ∙ ap (λ (x : Float). turns k (term list pitch columns radius first i) plus_zero ⊕ entry columns (5 * k + i) ⊗ (float_of (get_or list (first + k / side radius * pitch + k % side radius) 0) ⊖ x)) (ap float_of q ∙ centre-sample list pitch radius first)
      ∙ ap (λ (n : ℕ). turns n (term list pitch columns radius first i) plus_zero) (sym (add-one k))

  pub terms-none : plus_zero ≡ turns 0 (term list pitch columns radius first i) plus_zero
  unfolding turns
  terms-none = refl

  pub terms-all : (k : ℕ) (sum : Float) → k ≡ samples radius → sum ≡ turns k (term list pitch columns radius first i) plus_zero → sum ≡ coefficient_from list pitch columns radius first i
  unfolding coefficient_from
  terms-all k sum h e = e ∙ ap (λ (n : ℕ). turns n (term list pitch columns radius first i) plus_zero) h

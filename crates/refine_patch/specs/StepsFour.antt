-- Four patches side by side: a number for each, a row of their samples, their sums while samples are added, and where the sums are put.
use Rattle.std.specs.Prelude.{◌≡◌, cond, List, [], ◌∷◌, ℕ, zero, suc, ◌+◌, ◌*◌, ◌≤◌, ◌<◌, ltb, pos, length, get_or, set, Float}
use Rattle.std.specs.Float.{binary32}
use Rattle.std.specs.Float.Ieee.{of_int}
use Rattle.shapes.specs.Numbers.{entry}
use Rattle.refine_formulas.specs.Numbers.{◌⊕◌, ◌⊖◌, ◌⊗◌}
use Rattle.refine_patch.specs.declared.Firsts.{Firsts}
use Rattle.refine_formulas.specs.declared.Corners.{Corners}
use Rattle.refine_patch.specs.declared.Sums.{Sums}

-- ---- by the lane: what is told of each of the four
abbrev pub four_of : {A : Type 0} → A → A → A → A → ℕ → A
four_of a b c d zero = a
four_of a b c d (suc zero) = b
four_of a b c d (suc (suc zero)) = c
four_of a b c d (suc (suc (suc l))) = d

abbrev pub lane_of : Firsts → ℕ → ℕ
lane_of at = four_of at.a at.b at.c at.d

abbrev pub four_by : {A : Type 0} → (ℕ → A) → List A
four_by f = f 0 ∷ f 1 ∷ f 2 ∷ f 3 ∷ []

abbrev pub lane_in : List Float → ℕ → Float
lane_in v l = entry v l

abbrev pub sample_in : List ℕ → ℕ → ℕ
sample_in v l = get_or v l 0

-- the samples that lie `by` past the first ones
abbrev pub four_at : List ℕ → Firsts → ℕ → List ℕ
four_at list at by = four_by (λ l. get_or list (lane_of at l + by) 0)

abbrev pub quad_by : (ℕ → Float) → List Float
quad_by f = four_by f

abbrev pub sums_by : (ℕ → ℕ → Float) → Sums
sums_by f = record { a = quad_by (f 0); b = quad_by (f 1); c = quad_by (f 2); d = quad_by (f 3); e = quad_by (f 4) }

-- coefficient by coefficient, lane by lane
abbrev pub quad_in : Sums → ℕ → List Float
quad_in s zero = s.a
quad_in s (suc zero) = s.b
quad_in s (suc (suc zero)) = s.c
quad_in s (suc (suc (suc zero))) = s.d
quad_in s (suc (suc (suc (suc c)))) = s.e

abbrev pub sum_in : Sums → ℕ → ℕ → Float
sum_in s c = lane_in (quad_in s c)

-- each sum has its four
pub record FourLanes (s : Sums) : Type 0 where
  pub a : length s.a ≡ 4
  pub b : length s.b ≡ 4
  pub c : length s.c ≡ 4
  pub d : length s.d ≡ 4
  pub e : length s.e ≡ 4

-- the four fits about a base, coefficient by coefficient
abbrev pub side_by_side : Corners → Sums
side_by_side fits = sums_by (λ c l. entry (four_of fits.c00 fits.c10 fits.c01 fits.c11 l) c)

abbrev pub moved_by : Firsts → ℕ → Firsts
moved_by at by = record { a = at.a + by; b = at.b + by; c = at.c + by; d = at.d + by }

-- ---- where the four lie
-- each place and `by` more is below the count
pub record FourReach (count by : ℕ) (at : Firsts) : Type 0 where
  pub first : at.a + by < count
  pub second : at.b + by < count
  pub third : at.c + by < count
  pub fourth : at.d + by < count

-- the four patches lie in a list of so many samples
pub record PatchesInside (count pitch radius : ℕ) (at : Firsts) : Type 0 where
  pub small : radius ≤ 7
  pub first : at.a + 2 * radius * pitch + 2 * radius < count
  pub second : at.b + 2 * radius * pitch + 2 * radius < count
  pub third : at.c + 2 * radius * pitch + 2 * radius < count
  pub fourth : at.d + 2 * radius * pitch + 2 * radius < count

-- how many samples of a row are read: its own and some more
abbrev pub wide_of : ℕ → ℕ
wide_of radius = cond (ltb radius 4) 8 16

-- so many of every row of the four lie in the list: those of the last row do
abbrev pub Reaches : ℕ → ℕ → ℕ → Firsts → Type 0
Reaches count pitch radius at = FourReach (count + 1) (wide_of radius) (moved_by at (2 * radius * pitch))

-- how many rows are gathered at a time, at most
abbrev pub rows_of : ℕ → ℕ
rows_of radius = cond (ltb radius 3) 5 1

-- so many of each of some rows do
pub record RowsReach (count pitch radius : ℕ) (at : Firsts) (rows : ℕ) : Type 0 where
  pub each : (j : ℕ) → j < rows → FourReach (count + 1) (wide_of radius) (moved_by at (j * pitch))

-- ---- writing four side by side
abbrev pub four_set : {A : Type 0} → List A → ℕ → (ℕ → A) → List A
four_set l m g = set (set (set (set l (m + 0) (g 0)) (m + 1) (g 1)) (m + 2) (g 2)) (m + 3) (g 3)

-- n blocks of four, one after the other
unfoldable pub blocks : ℕ → (ℕ → ℕ → Float) → ℕ → List Float → List Float
blocks zero f to l = l
blocks (suc n) f to l = four_set (blocks n f to l) (to + 4 * n) (f n)

-- n samples of a row of each patch, from `to` on; what lies before stays
pub record Gathered (list : List ℕ) (at : Firsts) (n to : ℕ) (old row : List ℕ) : Type 0 where
  pub long : length row ≡ 112
  pub here : (i l : ℕ) → i < n → l < 4 → get_or row (to + 4 * i + l) 0 ≡ get_or list (lane_of at l + i) 0
  pub before : (m : ℕ) → m < to → get_or row m 0 ≡ get_or old m 0

-- some rows of so many samples each, one after the other
pub record Rows (list : List ℕ) (pitch side : ℕ) (at : Firsts) (rows : ℕ) (row : List ℕ) : Type 0 where
  pub long : length row ≡ 112
  pub here : (j i l : ℕ) → j < rows → i < side → l < 4 → get_or row (4 * (j * side + i) + l) 0 ≡ get_or list (lane_of at l + j * pitch + i) 0

-- ---- adding
abbrev pub float_of : ℕ → Float
float_of n = of_int binary32 (pos n)

abbrev pub level_of : (ℕ → ℕ) → List Float → List Float
level_of f centre = quad_by (λ l. float_of (f l) ⊖ lane_in centre l)

-- with the sample k, which is z above the centres
abbrev pub added : List Float → ℕ → List Float → Sums → Sums
added columns k z s = sums_by (λ c l. sum_in s c l ⊕ entry columns (5 * k + c) ⊗ lane_in z l)

-- with n samples, the first of which is the sample from
unfoldable pub row_added : List Float → List ℕ → List Float → ℕ → ℕ → Sums → Sums
row_added columns row centre from zero s = s
row_added columns row centre from (suc n) s = added columns (from + n) (level_of (λ l. get_or row (4 * n + l) 0) centre) (row_added columns row centre from n s)

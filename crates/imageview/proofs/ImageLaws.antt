-- What the test of an image says when it passes, and where the samples of a tested image stand.
use mathlib.Core.Path.{◌≡◌, refl, sym, ap, ◌∙◌, subst}
use mathlib.Core.Bool.{Bool, true, false, ◌&&◌, cond}
use mathlib.Core.List.{List}
use Prim.Native.Nat.{ℕ, suc, ◌+◌, ◌-◌, ◌*◌, ◌^◌, ◌≤◌, ◌<◌}
use native.Mathlib.Nat.{mul-le-mul, mul-le-mul_right, mul_comm, suc-mul, le_trans}
use native.Mathlib.Omega.{arith}
use lib.Dec.{T, leb, eqb, leb→le, eqb→eq}
use lib.ListN.{length, get_or, take, drop, length-drop}
use lib.Seq.{get_or-take, get_or-drop, length-take-le}
use lib.Ieee.Fits.{and_l, and_r}
use borrow.Author.Tests.{leb-true}
use Rattle.shapes.specs.Tests.{every}
use Rattle.shapes.proofs.TestLaws.{every-at, every-same}
use Rattle.imageview.specs.Image.{Image, pixel, is_size, is_pitch, sizes_fit, is_image, in_range, most, most_pitch, most_sample}
use Rattle.imageview.specs.Levels.{row_low}
use Rattle.imageview.specs.Steps.{Sized, Tested, LowPixels, IsMeasured, IsTested, rows_low}

-- ---- what sizes and counts that pass have
pub sized : (w h : ℕ) → T (is_size w h) → Sized w h
sized w h t =
    let a = leb 1 w in
    let b = leb w most in
    let c = leb 1 h in
    let d = leb h most in
    let abc : T (a && b && c) = and_l (a && b && c) d t in
    let ab : T (a && b) = and_l (a && b) c abc in
    record {
      wide = leb→le 1 w (and_l a b ab);
      width-most = leb→le w most (and_r a b ab);
      high = leb→le 1 h (and_r (a && b) c abc);
      height-most = leb→le h most (and_r (a && b && c) d t);
    }

pub passed : {b : Bool} → b ≡ true → T b
passed e = subst T (sym e) tt

-- a list of a tested count, as an image of samples or not
pub counted : (n w h : ℕ) → T (sizes_fit n w h) → Sized w h × (n ≡ w * h)
unfolding sizes_fit
counted n w h t = (sized w h (and_l (is_size w h) (eqb n (w * h)) t), eqb→eq n (w * h) (and_r (is_size w h) (eqb n (w * h)) t))

-- ---- the test of an image, by that of its sizes, and what an image that passes has
module _ (img : Image) where
  abbrev sizes : Bool
  sizes = is_size img.width img.height && is_pitch img.width img.pitch

  abbrev counts : Bool
  counts = eqb (length img.samples) (img.pitch * img.height)

  pub image-by-count : sizes ≡ true → counts ≡ is_image img
  unfolding is_image
  image-by-count e = sym (ap (λ (b : Bool). b && counts) e)

  pub image-no-size : sizes ≡ false → false ≡ is_image img
  unfolding is_image
  image-no-size e = sym (ap (λ (b : Bool). b && counts) e)

  pub sizes-told : T sizes → Sized img.width img.height × (img.width ≤ img.pitch) × (img.pitch ≤ most_pitch)
  sizes-told t =
      let s = is_size img.width img.height in
      let p = is_pitch img.width img.pitch in
      let h = leb img.width img.pitch in
      let m = leb img.pitch most_pitch in
      (sized img.width img.height (and_l s p t), leb→le img.width img.pitch (and_l h m (and_r s p t)), leb→le img.pitch most_pitch (and_r h m (and_r s p t)))

  pub tested : T (is_image img) → Tested img
  unfolding is_image
  tested t =
      let s = sizes-told (and_l sizes counts t) in
      record { sized = s.0; holds = s.1; pitch-most = s.2; count = eqb→eq (length img.samples) (img.pitch * img.height) (and_r sizes counts t) }

-- so a list without padding has at most 2 ^ 24 entries, and an image at most 2 ^ 25 samples
pub count_most : (w h : ℕ) → w ≤ most → h ≤ most → w * h ≤ 2 ^ 24
count_most w h a b = mul-le-mul a b

pub samples-most : (p h : ℕ) → p ≤ most_pitch → h ≤ most → p * h ≤ 2 ^ 25
samples-most p h a b = mul-le-mul a b

-- ---- the index y · pitch + x: n samples of a row stand in the image
row-stands : (s y x n h count : ℕ) → count ≡ s * h → x + n ≤ s → y < h → y * s + x + n ≤ count
row-stands s y x n h count e a b = all (y * s) (suc y * s) (suc-mul y s) (subst (λ (z : ℕ). suc y * s ≤ z) (mul_comm h s ∙ sym e) (mul-le-mul_right s b))
  where
    all : (q m : ℕ) → m ≡ q + s → m ≤ count → q + x + n ≤ count
    all q m p l = omega arith

pub index : (img : Image) → Tested img → (x y n : ℕ) → x + n ≤ img.width → y < img.height → y * img.pitch + x + n ≤ length img.samples
index img t x y n a b = row-stands img.pitch y x n img.height (length img.samples) t.count (le_trans a t.holds) b

-- ---- a row as a part of the samples
pub cut : (a n : ℕ) → a + n - a ≡ n
cut a n = omega arith

pub run-count : (l : List ℕ) (a n m : ℕ) → m ≡ n → a + n ≤ length l → length (take m (drop a l)) ≡ n
run-count l a n m e h = length-take-le m (drop a l) (simp length-drop (omega arith)) ∙ e

pub run_at : (l : List ℕ) (a i m j : ℕ) → i < m → a + i ≡ j → get_or (take m (drop a l)) i 0 ≡ get_or l j 0
run_at l a i m j h e = get_or-take m (drop a l) i 0 h ∙ get_or-drop a l i 0 ∙ ap (λ (k : ℕ). get_or l k 0) e

pub part_low : (l : List ℕ) (start n : ℕ) → start + n ≤ length l → row_low (take (start + n - start) (drop start l)) (length (take (start + n - start) (drop start l))) ≡ every n (λ x. leb (get_or l (start + x) 0) most_sample)
part_low l start n h =
    let part = take (start + n - start) (drop start l) in
    ap (λ (k : ℕ). row_low part k) (run-count l start n (start + n - start) (cut start n) h)
    ∙ every-same n (λ x. leb (get_or part x 0) most_sample) (λ x. leb (get_or l (start + x) 0) most_sample)
    (λ x k. ap (λ (v : ℕ). leb v most_sample) (run_at l start x (start + n - start) (start + x) (subst (λ (m : ℕ). x < m) (sym (cut start n)) k) refl))

-- ---- the pixels of a deep image whose samples passed their test
pub low : (img : Image) → in_range img ≡ true → img.deep ≡ true → (x y : ℕ) → x < img.width → y < img.height → pixel img x y ≤ most_sample
unfolding in_range
low img r d x y h l =
    let all = sym (ap (λ (b : Bool). cond b (every img.height (λ v. every img.width (λ u. leb (pixel img u v) most_sample))) true) d) ∙ r in
    leb-true (pixel img x y) most_sample (every-at (λ u. leb (pixel img u y) most_sample) img.width x h (every-at (λ v. every img.width (λ u. leb (pixel img u v) most_sample)) img.height y l all))

pub row-whole : (img : Image) → Tested img → (y : ℕ) → y < img.height → y * img.pitch + img.width ≤ length img.samples
row-whole img t y h = omega (arith, index img t 0 y img.width (omega arith) h)

-- ---- the test of the samples row by row, of either width
-- a row as a part of the samples, and the same of the samples' numbers
pub row-of-levels : {S : Type 0} (levels : List S → List ℕ) → ((n : ℕ) (l : List S) → levels (take n l) ≡ take n (levels l)) → ((n : ℕ) (l : List S) → levels (drop n l) ≡ drop n (levels l))
    → (l : List S) (a n : ℕ) → levels (take n (drop a l)) ≡ take n (drop a (levels l))
row-of-levels levels taken dropped l a n = taken n (drop a l) ∙ ap (take n) (dropped a l)

pub low_row : (l : List ℕ) (start n : ℕ) → start + n ≤ length l → row_low (take n (drop start l)) (length (take n (drop start l))) ≡ every n (λ x. leb (get_or l (start + x) 0) most_sample)
low_row l start n h = subst (λ (m : ℕ). row_low (take m (drop start l)) (length (take m (drop start l))) ≡ every n (λ x. leb (get_or l (start + x) 0) most_sample)) (cut start n) (part_low l start n h)

module _ (img : Image) where
  abbrev rows : Bool
  rows = rows_low img.samples img.width img.pitch img.height

  -- the rows' test is the image's where they are all low in an image of bytes
  pub rows-range : (low : Bool) → low ≡ rows → (img.deep ≡ false → low ≡ true) → low ≡ in_range img
  unfolding in_range pixel
  rows-range low e bytes = go img.deep bytes
    where
      go : (deep : Bool) → (deep ≡ false → low ≡ true) → low ≡ cond deep rows true
      go true bytes = e
      go false bytes = bytes refl

  pub rows-low : rows ≡ true → LowPixels img
  unfolding pixel
  rows-low r x y h l =
      leb-true (pixel img x y) most_sample (every-at (λ u. leb (pixel img u y) most_sample) img.width x h (every-at (λ v. every img.width (λ u. leb (pixel img u v) most_sample)) img.height y l r))

-- an image that passed the test of its sizes
pub is_measured : (img : Image) → is_image img ≡ true → IsMeasured img
is_measured img i = record { image = i; stands = tested img (passed i) }

-- an image that passed both tests
pub is-tested : (img : Image) → is_image img ≡ true → in_range img ≡ true → LowPixels img → IsTested img
is-tested img i r l = record { image = i; range = r; stands = tested img (passed i); low = l }

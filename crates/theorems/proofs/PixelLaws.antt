-- Pixels about which the ring fits: which element of the whole image's response is theirs, what demand 3 says of the value that a scan reads there, and that
-- those inside a scan's border are such; of these, what beats its window.
use mathlib.Core.Path.{◌≡◌, refl, sym, ap, ◌∙◌, subst, subst₂}
use mathlib.Core.Bool.{Bool, true, false, ◌&&◌, ◌||◌, cond}
use mathlib.Core.List.{List}
use Prim.Native.Nat.{ℕ, zero, suc, ◌+◌, ◌-◌, ◌*◌, ◌/◌, ◌%◌, ◌≤◌, ◌<◌}
use native.Mathlib.Nat.{zero-add, sub-zero, mul_comm, mod-lt, div-lt_iff_lt-mul}
use native.Mathlib.Omega.{arith}
use lib.Arith.{digits_div, digits_mod, digits_lt}
use lib.Dec.{T, leb, ltb, eqb}
use lib.IntN.{ℤ}
use lib.ListN.{length, get_or}
use lib.Ieee.{Float, nan, lt}
use borrow.Author.Tests.{le-leb, lt-leb, lt-ltb, leb-true, ltb-true, eqb-false}
use Rattle.shapes.proofs.ListLaws.{get_d-inside}
use Rattle.shapes.proofs.TestLaws.{both, first_of, second-of}
use Rattle.shapes.specs.Numbers.{plus_zero}
use Rattle.shapes.specs.Tests.{every}
use Rattle.imageview.specs.Image.{Image}
use Rattle.pixel_response.specs.Samples.{gain, loss}
use Rattle.pixel_response.specs.Near.{Near}
use Rattle.response.specs.Region.{is_empty, width_of, height_of, ring_fits, ring_sample, cross_sample}
use Rattle.response.specs.Demand.{column_at, row_at, fits_at, gain_at, loss_at, DemandThree}
use Rattle.peaks.specs.Peak.{Scan, value_at, border, inside, side, cells, middle, neighbour, beats, highest}
use Rattle.peaks.specs.Sound.{scan_for}
use Rattle.peaks.proofs.WindowLaws.{beats-lower}
use Rattle.theorems.specs.Claims.{whole, Exceeds}

abbrev pub index : Image → ℕ → ℕ → ℕ
index img a b = b * img.width + a

-- a pixel about which the ring fits
pub record Clear (img : Image) (radius a b : ℕ) : Type 0 where
  pub left : radius ≤ a
  pub right : a + radius < img.width
  pub above : radius ≤ b
  pub below : b + radius < img.height

module _ {img : Image} {radius a b : ℕ} (c : Clear img radius a b) where
  in-column : a < img.width
  in-column = omega (arith, c.right)

  in_row : b < img.height
  in_row = omega (arith, c.below)

  some : is_empty (whole img) ≡ false
  some = ap (λ (v : Bool). v || leb img.height 0) (lt-leb img.width 0 (omega (arith, in-column))) ∙ lt-leb img.height 0 (omega (arith, in_row))

  width_is : width_of (whole img) ≡ img.width
  width_is = ap (λ (v : Bool). cond v 0 (img.width - 0)) some ∙ sub-zero img.width

  height-is : height_of (whole img) ≡ img.height
  height-is = ap (λ (v : Bool). cond v 0 (img.height - 0)) some ∙ sub-zero img.height

  pub area-is : width_of (whole img) * height_of (whole img) ≡ img.height * img.width
  area-is = ap (λ (w : ℕ). w * height_of (whole img)) width_is ∙ ap (λ (h : ℕ). img.width * h) height-is ∙ mul_comm img.width img.height

  column-is : column_at (whole img) (index img a b) ≡ a
  column-is = zero-add (index img a b % width_of (whole img)) ∙ ap (λ (w : ℕ). index img a b % w) width_is ∙ digits_mod b in-column

  row_is : row_at (whole img) (index img a b) ≡ b
  row_is = zero-add (index img a b / width_of (whole img)) ∙ ap (λ (w : ℕ). index img a b / w) width_is ∙ digits_div b in-column

  ring-fits : ring_fits img radius a b ≡ true
  unfolding ring_fits
  ring-fits =
      both (both (both (le-leb radius a c.left) (lt-ltb (a + radius) img.width c.right)) (le-leb radius b c.above)) (lt-ltb (b + radius) img.height c.below)

  pub in_area : index img a b < img.height * img.width
  in_area = digits_lt in_row in-column

  pub fits : fits_at img radius (whole img) (index img a b)
  fits = (
    subst (λ (n : ℕ). index img a b < n) (sym area-is) in_area,
    subst T (sym (ap (λ (x : ℕ). ring_fits img radius x (row_at (whole img) (index img a b))) column-is ∙ ap (λ (y : ℕ). ring_fits img radius a y) row_is ∙ ring-fits)) tt,
  )

  module _ (ring : List ℤ) where
    pub gain-is : gain_at img ring (whole img) (index img a b) ≡ gain (ring_sample img ring a b)
    gain-is = ap (λ (x : ℕ). gain (ring_sample img ring x (row_at (whole img) (index img a b)))) column-is ∙ ap (λ (y : ℕ). gain (ring_sample img ring a y)) row_is

    pub loss-is : loss_at img ring (whole img) (index img a b) ≡ loss (ring_sample img ring a b) (cross_sample img a b)
    loss-is =
        ap (λ (x : ℕ). loss (ring_sample img ring x (row_at (whole img) (index img a b))) (cross_sample img x (row_at (whole img) (index img a b)))) column-is
        ∙ ap (λ (y : ℕ). loss (ring_sample img ring a y) (cross_sample img a y)) row_is

-- ---- the value that a scan of the response reads
module _ (img : Image) (radius : ℕ) (values : List Float) (window refine : ℕ) (threshold : Float) (cluster : ℕ) where
  abbrev scan : Scan
  scan = scan_for values img.width img.height radius window refine threshold cluster

  module _ (size : length values ≡ img.height * img.width) {a b : ℕ} (c : Clear img radius a b) where
    pub value-is : value_at scan a b ≡ get_or values (index img a b) plus_zero
    unfolding value_at
    value-is = get_d-inside values (index img a b) nan plus_zero (subst (λ (n : ℕ). index img a b < n) (sym size) (in_area c))

    pub stands_at : {P : ℕ} {ring : List ℤ} → DemandThree P img ring radius (whole img) values → Near P (value_at scan a b) (gain (ring_sample img ring a b)) (loss (ring_sample img ring a b) (cross_sample img a b))
    stands_at {P} {ring} d =
        subst (λ (v : Float). Near P v (gain (ring_sample img ring a b)) (loss (ring_sample img ring a b) (cross_sample img a b))) (sym value-is)
        (subst₂ (λ (g l : ℕ). Near P (get_or values (index img a b) plus_zero) g l) (gain-is c ring) (loss-is c ring) (d.stands (index img a b) (fits c)))

-- ---- inside the border
pub record Framed (s : Scan) (x y : ℕ) : Type 0 where
  pub left : border s ≤ x
  pub right : x + border s < s.width
  pub above : border s ≤ y
  pub below : y + border s < s.height

pub framed : (s : Scan) (x y : ℕ) → inside s x y ≡ true → Framed s x y
unfolding inside
framed s x y here =
    let p = leb (border s) x in
    let q = ltb (x + border s) s.width in
    let r = leb (border s) y in
    let t = ltb (y + border s) s.height in
    record {
      left = leb-true (border s) x (first_of p q (first_of (p && q) r (first_of (p && q && r) t here)));
      right = ltb-true (x + border s) s.width (second-of p q (first_of (p && q) r (first_of (p && q && r) t here)));
      above = leb-true (border s) y (second-of (p && q) r (first_of (p && q && r) t here));
      below = ltb-true (y + border s) s.height (second-of (p && q && r) t here);
    }

pub framed-clear : {img : Image} {radius : ℕ} {values : List Float} {window refine : ℕ} {threshold : Float} {cluster x y : ℕ}
    → Framed (scan img radius values window refine threshold cluster) x y → Clear img radius x y
framed-clear f = record { left = omega (arith, f.left); right = omega (arith, f.right); above = omega (arith, f.above); below = omega (arith, f.below) }

-- ---- the window of a pixel inside the border: what has a smaller N is beaten
module _ {P : ℕ} {img : Image} {ring : List ℤ} {radius : ℕ} {values : List Float} (window refine cluster : ℕ) (threshold : Float) (d : DemandThree P img ring radius (whole img) values) (size : length values ≡ img.height * img.width) (x y : ℕ) where
  abbrev around : Scan
  around = scan img radius values window refine threshold cluster

  -- the pixel number j of the window
  abbrev column : ℕ → ℕ
  column j = x + j % side around - window

  abbrev row : ℕ → ℕ
  row j = y + j / side around - window

  lower : {a b : ℕ} → Clear img radius x y → Clear img radius a b → Exceeds img ring x y a b → lt (value_at around a b) (value_at around x y) ≡ true
  lower {a} {b} c e p =
      ap (λ (v : Float). lt v (value_at around x y)) (value-is img radius values window refine threshold cluster size e)
      ∙ ap (λ (v : Float). lt (get_or values (index img a b) plus_zero) v) (value-is img radius values window refine threshold cluster size c)
      ∙ d.orders (index img a b) (index img x y) (fits e) (fits c)
      (by (sym (gain-is e ring)) (sym (loss-is c ring)) (sym (gain-is c ring)) (sym (loss-is e ring)) p)
    where
      by : {g l g' l' g2 l2 g2' l2' : ℕ} → g ≡ g2 → l ≡ l2 → g' ≡ g2' → l' ≡ l2' → g + l < g' + l' → g2 + l2 < g2' + l2'
      by {g} {l} {g'} {l'} {g2} {l2} {g2'} {l2'} p q r s h = omega (arith, p, q, r, s, h)

  module _ (here : inside around x y ≡ true) (j : ℕ) (h : j < cells around) where
    window-clear : Clear img radius (column j) (row j)
    window-clear =
        let f = framed around x y here in
        let c = reaches x (j % side around) radius window refine img.width f.left f.right (mod-lt j (omega arith)) in
        let r = reaches y (j / side around) radius window refine img.height f.above f.below ((div-lt_iff_lt-mul {k = side around} {x = j} {y = side around} (omega arith)).1 h) in
        record { left = c.0; right = c.1; above = r.0; below = r.1 }
      where
        reaches : (x k r w f n : ℕ) → r + w + f ≤ x → x + (r + w + f) < n → k < 2 * w + 1 → (r ≤ x + k - w) × (x + k - w + r < n)
        reaches x k r w f n h l m = (omega arith, omega arith)

    pub beats-exceeded : Exceeds img ring x y (column j) (row j) → beats around j (value_at around x y) (neighbour around x y j) ≡ true
    unfolding neighbour
    beats-exceeded p = beats-lower around j (value_at around x y) (value_at around (column j) (row j)) (lower (framed-clear (framed around x y here)) window-clear p)

-- ---- a pixel that beats every other of its window
every-all : (n : ℕ) (p : ℕ → Bool) → ((j : ℕ) → j < n → p j ≡ true) → every n p ≡ true
unfolding every
every-all zero p h = refl
every-all (suc n) p h = both (every-all n p (λ j l. h j (omega arith))) (h n (omega arith))

pub highest-by : (s : Scan) (x y : ℕ) → ((j : ℕ) → j < cells s → (j ≡ middle s → ⊥) → beats s j (value_at s x y) (neighbour s x y j) ≡ true) → highest s x y ≡ true
unfolding highest
highest-by s x y most = every-all (cells s) (λ j. eqb j (middle s) || beats s j (value_at s x y) (neighbour s x y j)) (λ j h. by j h (eqb j (middle s)) refl)
  where
    by : (j : ℕ) → j < cells s → (v : Bool) → eqb j (middle s) ≡ v → (v || beats s j (value_at s x y) (neighbour s x y j)) ≡ true
    by j h true e = refl
    by j h false e = most j h (eqb-false j (middle s) e)

-- Laws of a window's base: the pixel's number of a whole number, and that the four fits about both are the same.
use mathlib.Core.Path.{◌≡◌, refl, sym, ap, ◌∙◌, subst}
use mathlib.Core.Bool.{Bool, true, false, ◌&&◌, ◌||◌, cond, or-false}
use mathlib.Core.List.{List}
use Prim.Native.Nat.{ℕ, ◌+◌, ◌≤◌, ◌<◌}
use native.Mathlib.Omega.{arith}
use lib.Dec.{T, ltb, lit≤}
use lib.IntN.{ℤ, pos, negsuc, ◌+ℤ◌}
use lib.Ieee.{Float, binary32, to_signed, to_unsigned, of_int, lt, neg}
use lib.Ieee.Bits.{is_true}
use lib.Ieee.Casts.{to_signed_in}
use Rattle.floats.specs.Whole.{floor}
use Rattle.floats.proofs.PartLaws.{Between, small, floor-of, above_of}
use Rattle.floats.proofs.PartLaws as Parts
use Rattle.floats.proofs.WholeLaws.{flipped, neg-neg}
use Rattle.shapes.specs.Numbers.{plus_zero, one}
use Rattle.shapes.proofs.TestLaws.{first_of, second-of}
use Rattle.refine_fits.specs.declared.Window.{Window}
use Rattle.refine_formulas.specs.Numbers.{◌⊖◌}
use mir.Syntax.{w32}
use mir.Val.{SFits, to_z, of_z}
use mir.ValLaws.{to_z-of_z}
use borrow.Author.Tests.{ltb-false}
use Rattle.imageview.specs.Image.{Image}
use Rattle.imageview.specs.Patch.{inside, supports_patch}
use Rattle.refine_fits.specs.Fit.{Fit, no_fit, fit_at, fit_within}
use Rattle.refine_fits.specs.Windows.{window_place, lacking, corners_at}
use Rattle.refine_fits.specs.declared.Base.{Base}
use Rattle.refine_fits.specs.StepsTries.{near_zero, pixel_of, base_by, base_at, window_of}
use Rattle.refine_fits.specs.StepsBases.{corners_about}
use Rattle.std.specs.Prelude.{Option, Some, None}
use Rattle.refine_fits.specs.StepsAdding.{Sound}
use Rattle.refine_fits.proofs.CacheLaws.{none_first, behind}

-- ---- the four fits
far-x : (img : Image) (columns : List Float) (radius : ℕ) (z w : ℤ) → inside radius img.width z ≡ false → corners_at img columns radius z w ≡ lacking
unfolding corners_at fit_at supports_patch
far-x img columns radius z w h =
    none_first (fit_at img columns radius z w) (fit_at img columns radius (z +ℤ pos 1) w) (fit_at img columns radius z (w +ℤ pos 1)) (fit_at img columns radius (z +ℤ pos 1) (w +ℤ pos 1))
    (ap (λ (b : Bool). cond (b && inside radius img.height w) (fit_within img columns radius z w) no_fit) h)

pub never : (b : Bool) (f : Fit) → cond (b && false) f no_fit ≡ no_fit
never true f = refl
never false f = refl

far-y : (img : Image) (columns : List Float) (radius : ℕ) (z w : ℤ) → inside radius img.height w ≡ false → corners_at img columns radius z w ≡ lacking
unfolding corners_at fit_at supports_patch
far-y img columns radius z w h =
    none_first (fit_at img columns radius z w) (fit_at img columns radius (z +ℤ pos 1) w) (fit_at img columns radius z (w +ℤ pos 1)) (fit_at img columns radius (z +ℤ pos 1) (w +ℤ pos 1))
    (ap (λ (b : Bool). cond (inside radius img.width z && b) (fit_within img columns radius z w) no_fit) h ∙ never (inside radius img.width z) (fit_within img columns radius z w))

abbrev is-none : Option ℕ → Type 0
is-none None = Unit
is-none (Some n) = ⊥

-- a number that is no pixel's lies outside every image
outside : (radius n : ℕ) (z : ℤ) → n ≤ 4096 → pixel_of z ≡ None → inside radius n z ≡ false
outside radius n (negsuc a) m e = refl
outside radius n (pos a) m e = behind radius n a (by (ltb a 65536) refl e)
  where
    by : (b : Bool) → ltb a 65536 ≡ b → cond b (Some a) None ≡ None → n ≤ a + radius
    by true t q = absurd (subst is-none (sym q) tt)
    by false t q = let l : 65536 ≤ a = ltb-false a 65536 t in omega arith

-- one that is a pixel's is itself
itself : (z : ℤ) (n : ℕ) → pixel_of z ≡ Some n → z ≡ pos n
itself (negsuc a) n e = search e
itself (pos a) n e = ap pos (by (ltb a 65536) e)
  where
    by : (b : Bool) → cond b (Some a) None ≡ Some n → a ≡ n
    by true q = search q
    by false q = search q

-- the four fits about two whole numbers are those about their base
pub same_corners : (img : Image) (columns : List Float) (radius : ℕ) (z w : ℤ) → Sound img radius → corners_at img columns radius z w ≡ corners_about img columns radius (base_at z w)
same_corners img columns radius z w s = by (pixel_of z) (pixel_of w) refl refl
  where
    by : (a b : Option ℕ) → pixel_of z ≡ a → pixel_of w ≡ b → corners_at img columns radius z w ≡ corners_about img columns radius (base_by a b)
    by None b p q = far-x img columns radius z w (outside radius img.width z s.image.sized.width-most p)
    by (Some m) None p q = far-y img columns radius z w (outside radius img.height w s.image.sized.height-most q)
    by (Some m) (Some n) p q = ap (λ (u : ℤ). corners_at img columns radius u w) (itself z m p) ∙ ap (λ (v : ℤ). corners_at img columns radius (pos m) v) (itself w n q)

-- ---- an offset of less than a pixel
part_none : (x : Float) (b : Between 0 x) → to_unsigned 64 x ≡ 0
part_none x b = let h : to_unsigned 64 x < 1 = small binary32 0 64 x (lit≤ tt) b in omega arith

floor-up : (o : Float) → lt plus_zero o ≡ true → lt o one ≡ true → floor binary32 o ≡ plus_zero
unfolding of_int
floor-up o h g =
    let b = Parts.between 0 o (subst T (sym h) tt) (subst T (sym g) tt) in
    sym (floor-of binary32 0 64 o (lit≤ tt) b) ∙ ap (λ (n : ℕ). of_int binary32 (pos n)) (part_none o b)

floor-down : (o : Float) → lt o plus_zero ≡ true → lt (neg one) o ≡ true → floor binary32 o ≡ neg one
unfolding of_int
floor-down o h g =
    let t = flipped 0 o h g in
    let b = Parts.between 0 (neg o) t.0 t.1 in
    let none = part_none (neg o) b in
    ap (λ (v : Float). floor binary32 v) (sym (neg-neg o))
    ∙ sym (above_of binary32 0 64 (neg o) (lit≤ tt) b (lit≤ tt) (ap (λ (n : ℕ). lt (of_int binary32 (pos n)) (neg o)) none ∙ is_true (lt plus_zero (neg o)) t.0))
    ∙ ap (λ (n : ℕ). neg (of_int binary32 (pos (n + 1)))) none

-- its sign tells the whole number before it
module _ (o : Float) (near : near_zero o ≡ true) where
  within : (lt (neg one) o && lt o one) ≡ true
  within = first_of (lt (neg one) o && lt o one) (lt o plus_zero || lt plus_zero o) near

  signed : (lt o plus_zero || lt plus_zero o) ≡ true
  signed = second-of (lt (neg one) o && lt o one) (lt o plus_zero || lt plus_zero o) near

  pub near-below : lt o plus_zero ≡ true → floor binary32 o ≡ neg one
  near-below h = floor-down o h (first_of (lt (neg one) o) (lt o one) within)

  pub near-above : lt plus_zero o ≡ true → floor binary32 o ≡ plus_zero
  near-above h = floor-up o h (second-of (lt (neg one) o) (lt o one) within)

  pub not-below : lt o plus_zero ≡ false → lt plus_zero o ≡ true
  not-below h = ap (λ (b : Bool). b || lt plus_zero o) (sym h) ∙ signed

  pub not-above : lt plus_zero o ≡ false → lt o plus_zero ≡ true
  not-above h = sym (or-false (lt o plus_zero)) ∙ ap (λ (b : Bool). lt o plus_zero || b) (sym h) ∙ signed

-- ---- the window
-- from whole numbers as the machine has them
pub window_is : (cx cy : ℕ) (ox oy fx fy : Float) (i j : ℤ) (base : Option Base) → fx ≡ floor binary32 ox → fy ≡ floor binary32 oy → i ≡ to_signed 31 fx → j ≡ to_signed 31 fy → base ≡ base_at (pos cx +ℤ to_z w32 (of_z w32 i)) (pos cy +ℤ to_z w32 (of_z w32 j)) → record { base = base; tx = ox ⊖ fx; ty = oy ⊖ fy } ≡ window_of (window_place (pos cx) (pos cy) ox oy)
unfolding window_place
window_is cx cy ox oy fx fy i j base p q a b e =
    ap (λ (v : Option Base). window v (ox ⊖ fx) (oy ⊖ fy)) (e ∙ ap (λ (z : ℤ). base_at (pos cx +ℤ z) (pos cy +ℤ to_z w32 (of_z w32 j))) (back i fx ox a p) ∙ ap (λ (z : ℤ). base_at (pos cx +ℤ to_signed 31 (floor binary32 ox)) (pos cy +ℤ z)) (back j fy oy b q))
    ∙ ap (λ (v : Float). window (base_at (pos cx +ℤ to_signed 31 (floor binary32 ox)) (pos cy +ℤ to_signed 31 (floor binary32 oy))) (ox ⊖ v) (oy ⊖ fy)) p
    ∙ ap (λ (v : Float). window (base_at (pos cx +ℤ to_signed 31 (floor binary32 ox)) (pos cy +ℤ to_signed 31 (floor binary32 oy))) (ox ⊖ floor binary32 ox) (oy ⊖ v)) q
  where
    window : Option Base → Float → Float → Window
    window base tx ty = record { base = base; tx = tx; ty = ty }

    back : (i : ℤ) (f o : Float) → i ≡ to_signed 31 f → f ≡ floor binary32 o → to_z w32 (of_z w32 i) ≡ to_signed 31 (floor binary32 o)
    back i f o a p = to_z-of_z w32 i (subst (λ (z : ℤ). SFits w32 z) (sym a) (record { sfits = to_signed_in 31 f })) ∙ a ∙ ap (λ (v : Float). to_signed 31 v) p

-- How large the eighth of a pixel and the tile of a corner can be.
use mathlib.Core.Path.{◌≡◌, refl, sym, ◌∙◌, subst}
use mathlib.Core.Bool.{Bool, true, false, ◌&&◌, cond, false≢true}
use Prim.Native.Nat.{ℕ, ◌+◌, ◌-◌, ◌*◌, ◌/◌, ◌^◌, ◌≤◌, ◌<◌}
use native.Mathlib.Nat.{lt_of_le_of_lt, min-le_left, mul-one, div-lt_iff_lt-mul}
use native.Mathlib.Omega.{arith}
use lib.IntN.{pos}
use lib.Pow.{pow_pos}
use lib.Ieee.{Float, nan, inf, fin, Format, prec, binary32, up, down, of_int, to_unsigned, lt, le}
use lib.Ieee.Back.{round_whole}
use lib.Ieee.Exact.{HasValue}
use lib.Ieee.Fits.{down_pos}
use borrow.Author.Tests.{ltb-true}
use Rattle.shapes.proofs.TestLaws.{first_of, second-of}
use Rattle.shapes.specs.Numbers.{plus_zero}
use Rattle.floats.specs.Whole.{floor}
use Rattle.floats.proofs.Value.{own_value}
use Rattle.floats.proofs.Fractions.{lt-value}
use Rattle.imageview.specs.Steps.{Sized}
use Rattle.coverage.specs.Tiles.{on_axis, eighth, tile_of}

-- ---- what is below a whole number has a smaller whole part
under-value : (w n : ℕ) (v y : Float) → 1 ≤ n → HasValue y false n 1 → lt v y ≡ true → to_unsigned w v < n
unfolding lt to_unsigned
under-value w n nan y p k h = absurd (false≢true h)
under-value w n (inf true) y p k h = p
under-value w n (inf false) nan p k h = absurd k
under-value w n (inf false) (inf s) p k h = absurd k
under-value w n (inf false) (fin s m e) p k h = absurd (false≢true h)
under-value w n (fin true m e) y p k h = p
under-value w n (fin false m e) y p k h =
    lt_of_le_of_lt (min-le_left (m * up e / down e) (2 ^ w - 1))
    ((div-lt_iff_lt-mul (down_pos e)).1
    (subst (λ (z : ℕ). z < n * down e) (mul-one (m * up e))
    (ltb-true (m * up e * 1) (n * down e) (sym (lt-value (fin false m e) y false false (m * up e) (down e) n 1 (down_pos e) (pow_pos 0) (own_value false m e) k) ∙ h))))

whole-value : (f : Format) (n : ℕ) → n ≤ 2 ^ prec f → HasValue (of_int f (pos n)) false n 1
unfolding of_int
whole-value f n h = round_whole f false n h

pub whole_under : (n : ℕ) (v : Float) → 1 ≤ n → n ≤ 4096 → lt v (of_int binary32 (pos n)) ≡ true → to_unsigned 64 v < n
whole_under n v p m h = under-value 64 n v (of_int binary32 (pos n)) p (whole-value binary32 n (few n m)) h
  where
    few : (n : ℕ) → n ≤ 4096 → n ≤ 2 ^ prec binary32
    few n h = omega arith

-- ---- eighths and tiles
pub eighth_under : (n : ℕ) (v : Float) → 1 ≤ n → n ≤ 4096 → lt v (of_int binary32 (pos n)) ≡ true → to_unsigned 64 v * 8 / n < 8
eighth_under n v p m h = (div-lt_iff_lt-mul p).1 (scaled n (to_unsigned 64 v) (whole_under n v p m h))
  where
    scaled : (n t : ℕ) → t < n → t * 8 < 8 * n
    scaled n t h = omega arith

-- the test of a whole number, and what it says
abbrev pub is_pixel : ℕ → Float → Bool
is_pixel n v = le plus_zero v && lt v (of_int binary32 (pos n))

pub below_end : (r : Bool) (n : ℕ) (v : Float) → r ≡ is_pixel n v → r ≡ true → lt v (of_int binary32 (pos n)) ≡ true
below_end r n v e h = second-of (le plus_zero v) (lt v (of_int binary32 (pos n))) (sym e ∙ h)

pub tile-under : (width height : ℕ) (x y : Float) → Sized width height → tile_of width height x y < 65
unfolding tile_of
tile-under width height x y s = go (on_axis width x && on_axis height y) refl
  where
    go : (b : Bool) → (on_axis width x && on_axis height y) ≡ b → cond b (8 * eighth height y + eighth width x) 64 < 65
    go false e = omega arith
    go true e =
        let a = eighth_under width (floor binary32 x) s.wide s.width-most (below_end _ width (floor binary32 x) refl (first_of (on_axis width x) (on_axis height y) e)) in
        let b = eighth_under height (floor binary32 y) s.high s.height-most (below_end _ height (floor binary32 y) refl (second-of (on_axis width x) (on_axis height y) e)) in
        omega arith

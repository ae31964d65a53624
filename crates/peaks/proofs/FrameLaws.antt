-- Where the pieces of a window lie in the response.
use mathlib.Core.Path.{◌≡◌, sym, ap, ◌∙◌, subst}
use Prim.Native.Nat.{ℕ, suc, ◌+◌, ◌-◌, ◌*◌, ◌≤◌, ◌<◌}
use native.Mathlib.Nat.{add-mul, suc-mul, mul_comm, mul-le-mul, mul-le-mul_right}
use native.Mathlib.Numerals.{add-one}
use native.Mathlib.Omega.{arith}
use lib.ListN.{length}
use Rattle.peaks.specs.Peak.{Scan, side}
use Rattle.peaks.specs.Sound.{Sound}
use Rattle.peaks.specs.Steps.{Framed, BlockFits}
use Rattle.peaks.proofs.WindowLaws.{index_of}

-- m values of a row from column x on
pub in_row : (s : Scan) (x y m : ℕ) → Sound s → x + m ≤ s.width → y < s.height → y * s.width + x + m ≤ length s.values
in_row s x y m k h l =
    all (y * s.width) (suc y * s.width) (suc-mul y s.width) (subst (λ (z : ℕ). suc y * s.width ≤ z) (mul_comm s.height s.width ∙ sym k.size) (mul-le-mul_right s.width (let e : suc y ≤ s.height = omega arith in e)))
  where
    all : (q p : ℕ) → p ≡ q + s.width → p ≤ length s.values → q + x + m ≤ length s.values
    all q p a b = omega arith

-- at most 2 ^ 24 values
pub size-most : (s : Scan) → Sound s → length s.values ≤ 16777216
size-most s k = subst (λ (z : ℕ). z ≤ 16777216) (sym k.size) (mul-le-mul k.width-most k.height-most)

module _ (s : Scan) (x y : ℕ) (f : Framed s x y) where
  abbrev n : ℕ
  n = s.window

  abbrev at : ℕ
  at = y * s.width + x

  pub pixel-most : y * s.width + x < length s.values
  pixel-most = let h = in_row s x y 1 f.sound (omega (arith, f.right)) (omega (arith, f.below)) in omega arith

  pub right-most : at + 1 + n ≤ length s.values
  right-most = let h = in_row s x y (1 + n) f.sound (omega (arith, f.right)) (omega (arith, f.below)) in omega arith

  pub rows-least : n * s.width + n ≤ at
  rows-least = let h : n * s.width ≤ y * s.width = mul-le-mul_right s.width f.above in let l = f.left in omega arith

  pub wide : n ≤ s.width
  wide = let r = f.right in omega arith

  block : (r : ℕ) → y + r - n < s.height → at - n * s.width - n + r * s.width + side s ≤ length s.values
  block r h =
      let e = index_of s.width n x y r 0 (y - n) (let a = f.above in omega arith) f.left in
      let i = in_row s (x + 0 - n) (y + r - n) (side s) f.sound (let a = f.left in let b = f.right in omega arith) h in
      rest (at - n * s.width - n + r * s.width) ((y + r - n) * s.width + (x + 0 - n)) e i
    where
      rest : (p q : ℕ) → q ≡ p + 0 → q + side s ≤ length s.values → p + side s ≤ length s.values
      rest p q a b = omega arith

  pub above-fits : BlockFits s.values (at - n * s.width - n) s.width (side s) n
  above-fits r h = block r (let a = f.above in let b = f.below in omega arith)

  pub below-fits : BlockFits s.values (at + s.width - n) s.width (side s) n
  below-fits r h =
      join (n * s.width) (r * s.width) ((n + 1 + r) * s.width) at (length s.values) (add-mul (n + 1) r s.width ∙ ap (λ (k : ℕ). k + r * s.width) (ap (λ (k : ℕ). k * s.width) (add-one n) ∙ suc-mul n s.width)) rows-least
      (block (n + 1 + r) (let a = f.above in let b = f.below in omega arith))
    where
      join : (q k p m l : ℕ) → p ≡ q + s.width + k → q + n ≤ m → m - q - n + p + side s ≤ l → m + s.width - n + k + side s ≤ l
      join q k p m l a b c = omega arith

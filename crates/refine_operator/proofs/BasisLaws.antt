-- Laws of the basis: the offset as a signed difference, the regressors of a sample, and how many samples there are.
use Rattle.std.proofs.Common.{◌≡◌, ℕ, zero, suc, ◌-◌, ◌<◌, ◌≤◌, Bool, true, false, cond, ltb, ℤ, pos, negsuc, ◌-ℤ◌, sym, refl, ap, ◌∙◌, subst, le_trans, add-zero, mul-le-mul, arith, w32, SFits, to_z, le-ltb}
use native.Mathlib.Nat.{sub-zero}
use lib.IntN.{sub_ℕ}
use lib.Signed.{mag}
use lib.Ieee.{Float, binary32, mul}
use mir.ValLaws.{to_z_pos}
use Rattle.shapes.specs.Numbers.{one}
use Rattle.refine_operator.specs.Steps.{phi_at}
use Rattle.refine_operator.specs.Basis.{side, samples, offset}

-- ---- the offset
minus_is : (a b : ℕ) → pos a -ℤ pos b ≡ sub_ℕ a b
minus_is a zero = ap pos (add-zero a ∙ sym (sub-zero a)) ∙ ap (λ (t : Bool). cond t (negsuc (0 - suc a)) (pos (a - 0))) (sym (le-ltb a 0 (omega arith)))
minus_is a (suc b) = refl

pub sub_small : (a b n : ℕ) → a < n → b < n → mag (sub_ℕ a b) < n
sub_small a b n p q = by (ltb a b)
  where
    by : (t : Bool) → mag (cond t (negsuc (b - suc a)) (pos (a - b))) < n
    by true = omega arith
    by false = omega arith

pub difference : (a b : ℕ) → a ≤ 14 → b ≤ 7 → to_z w32 a -ℤ to_z w32 b ≡ sub_ℕ a b
difference a b p q =
    ap (λ (z : ℤ). z -ℤ to_z w32 b) (to_z_pos w32 a (omega arith)) ∙ ap (λ (z : ℤ). pos a -ℤ z) (to_z_pos w32 b (omega arith)) ∙ minus_is a b

pub difference-fits : (a b : ℕ) → a ≤ 14 → b ≤ 7 → SFits w32 (to_z w32 a -ℤ to_z w32 b)
difference-fits a b p q = record { sfits = subst (λ (z : ℤ). mag z < 0x8000_0000) (sym (difference a b p q)) (sub_small a b 0x8000_0000 (omega arith) (omega arith)) }

-- ---- the regressors
pub phi-is : (radius x y : ℕ) (u v a b c d e : Float) → u ≡ offset radius x → v ≡ offset radius y → a ≡ mul binary32 u u → b ≡ mul binary32 u v → c ≡ mul binary32 v v → d ≡ u → e ≡ v
    → record { a = a; b = b; c = c; d = d; e = e; f = one } ≡ phi_at radius x y
phi-is radius x y u v a b c d e hu hv ha hb hc hd he =
    ap (λ (z : Float). record { a = z; b = b; c = c; d = d; e = e; f = one }) ha
    ∙ ap (λ (z : Float). record { a = mul binary32 u u; b = z; c = c; d = d; e = e; f = one }) hb
    ∙ ap (λ (z : Float). record { a = mul binary32 u u; b = mul binary32 u v; c = z; d = d; e = e; f = one }) hc
    ∙ ap (λ (z : Float). record { a = mul binary32 u u; b = mul binary32 u v; c = mul binary32 v v; d = z; e = e; f = one }) hd
    ∙ ap (λ (z : Float). record { a = mul binary32 u u; b = mul binary32 u v; c = mul binary32 v v; d = u; e = z; f = one }) he
    ∙ ap (λ (z : Float). record { a = mul binary32 z z; b = mul binary32 z v; c = mul binary32 v v; d = z; e = v; f = one }) hu
    ∙ ap (λ (z : Float). record { a = mul binary32 (offset radius x) (offset radius x); b = mul binary32 (offset radius x) z; c = mul binary32 z z; d = offset radius x; e = z; f = one }) hv

-- ---- the square
pub samples-most : (radius : ℕ) → radius ≤ 7 → samples radius ≤ 225
samples-most radius h = le_trans (mul-le-mul {n₁ = side radius} {m₁ = side radius} {n₂ = 15} {m₂ = 15} (omega arith) (omega arith)) (omega arith)

-- K one shift further; that the shifts taken one by one give the definition's K; and the covariance from its parts.
use mathlib.Core.Path.{◌≡◌, refl, sym, ap, ◌∙◌, subst}
use mathlib.Core.Bool.{Bool, true, false, cond}
use mathlib.Core.List.{List}
use Rattle.std.specs.Prelude.{Option}
use Prim.Native.Nat.{ℕ, ◌+◌, ◌*◌, ◌<◌}
use lib.ListN.{length, set}
use lib.Ieee.{Float, nan, eq, neg}
use Rattle.shapes.proofs.ListLaws.{length-tabulated, get_d-tabulated, tabulated-cong, overwritten-whole, get_d-overwritten, overwritten-more}
use Rattle.shapes.proofs.TurnLaws.{turns_more}
use Rattle.shapes.specs.Lists.{tabulated, overwritten}
use Rattle.shapes.specs.Numbers.{plus_zero, entry}
use Rattle.shapes.specs.Turns.{turns}
use Rattle.refine_formulas.specs.Numbers.{◌⊕◌, ◌⊗◌}
use Rattle.refine_formulas.specs.declared.Jacobian.{Jacobian}
use Rattle.refine_formulas.specs.declared.Matrix.{Matrix}
use Rattle.refine_formulas.specs.declared.Covariance.{Covariance}
use Rattle.refine_formulas.specs.Covariance.{pair_weight, kernel_entry, kernel, inverse_of, gain_first, gain_second, covariance_of}
use Rattle.refine_formulas.specs.Steps.{entry_after, combined, spread_of}

abbrev pub after : List Float → List Float → ℕ → List Float
after overlap weights d = tabulated 25 (entry_after overlap weights d)

-- the entry i of k with a shift of weight w added
abbrev pub plus : List Float → Float → ℕ → List Float → ℕ → Float
plus overlap w d k i = entry k i ⊕ w ⊗ entry overlap (25 * d + i)

pub length-after : (overlap weights : List Float) (d : ℕ) (k : List Float) → k ≡ after overlap weights d → length k ≡ 25
length-after overlap weights d k e = ap length e ∙ length-tabulated 25 (entry_after overlap weights d)

module _ (overlap weights : List Float) (d : ℕ) where
  one_more : (i : ℕ) → entry_after overlap weights (d + 1) i ≡ cond (eq (entry weights d) plus_zero) (entry_after overlap weights d i) (entry_after overlap weights d i ⊕ entry weights d ⊗ entry overlap (25 * d + i))
  unfolding entry_after
  one_more i = turns_more d _ plus_zero

  pub passed_over : eq (entry weights d) plus_zero ≡ true → (k : List Float) → k ≡ after overlap weights d → k ≡ after overlap weights (d + 1)
  passed_over h k e =
      e
      ∙ tabulated-cong 25 (entry_after overlap weights d) (entry_after overlap weights (d + 1))
      (λ i l. sym (one_more i ∙ ap (λ (b : Bool). cond b (entry_after overlap weights d i) (entry_after overlap weights d i ⊕ entry weights d ⊗ entry overlap (25 * d + i))) h))

  module _ (k : List Float) (e : k ≡ after overlap weights d) where
    pub entry_more : (i : ℕ) → i < 25 → (now : List Float) → now ≡ overwritten i (plus overlap (entry weights d) d k) k → set now i (entry now i ⊕ entry weights d ⊗ entry overlap (25 * d + i)) ≡ overwritten (i + 1) (plus overlap (entry weights d) d k) k
    entry_more i l now g =
        let f = plus overlap (entry weights d) d k in
        let m : i < length k = subst (λ (n : ℕ). i < n) (sym (length-after overlap weights d k e)) l in
        ap (λ (x : List Float). set x i (entry x i ⊕ entry weights d ⊗ entry overlap (25 * d + i))) g
        ∙ overwritten-more i f k m _ (ap (λ (x : Float). x ⊕ entry weights d ⊗ entry overlap (25 * d + i)) (get_d-overwritten i f k m nan))

    pub added : eq (entry weights d) plus_zero ≡ false → (now : List Float) → now ≡ overwritten 25 (plus overlap (entry weights d) d k) k → now ≡ after overlap weights (d + 1)
    added h now g =
        let old = entry_after overlap weights d in
        g
        ∙ overwritten-whole 25 (plus overlap (entry weights d) d k) k (length-after overlap weights d k e)
        ∙ tabulated-cong 25 (plus overlap (entry weights d) d k) (entry_after overlap weights (d + 1))
        (λ i l.
        ap (λ (x : Float). x ⊕ entry weights d ⊗ entry overlap (25 * d + i)) (ap (λ (x : List Float). entry x i) e ∙ get_d-tabulated 25 old i nan l)
        ∙ sym (one_more i ∙ ap (λ (b : Bool). cond b (old i) (old i ⊕ entry weights d ⊗ entry overlap (25 * d + i))) h))

-- with the definition's weights
pub whole : (overlap : List Float) (tx ty : Float) → after overlap (tabulated 9 (pair_weight tx ty)) 9 ≡ kernel overlap tx ty
unfolding entry_after turns tabulated kernel kernel_entry
whole overlap tx ty = refl

-- ---- A K Aᵀ from what each part is
module _ (overlap : List Float) (tx ty : Float) (j : Jacobian) (m : Matrix) where
  pub covariance_is : (weights k a b : List Float) {r : Option Covariance} → weights ≡ tabulated 9 (pair_weight tx ty) → k ≡ after overlap weights 9 → a ≡ combined j (m.m11 ⊗ inverse_of m) (neg m.m01 ⊗ inverse_of m) → b ≡ combined j (neg m.m10 ⊗ inverse_of m) (m.m00 ⊗ inverse_of m) → r ≡ spread_of k a b → r ≡ covariance_of overlap tx ty j m
  unfolding covariance_of spread_of gain_first gain_second combined
  covariance_is weights k a b p q e f g =
      let k' = kernel overlap tx ty in
      g
      ∙ ap (λ (z : List Float). spread_of z a b) (q ∙ ap (λ (z : List Float). after overlap z 9) p ∙ whole overlap tx ty)
      ∙ ap (λ (z : List Float). spread_of k' z b) e
      ∙ ap (λ (z : List Float). spread_of k' (gain_first j m) z) f

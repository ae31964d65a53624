-- Laws of the rows: a row's sum is its entry at the sample, the column of a sample, and the shifts.
use Rattle.std.proofs.Common.{◌≡◌, ℕ, ◌+◌, ◌-◌, ◌*◌, ◌/◌, ◌%◌, ◌<◌, ◌≤◌, Bool, true, false, ◌&&◌, ltb, leb, List, [], ◌∷◌, sym, refl, ap, ◌∙◌, subst, le_trans, mul-le-mul, arith, ltb-true, le-leb, leb-true}
use mathlib.Core.Bool.{and-eq-true_iff}
use lib.Ieee.{Float, nan, binary32}
use borrow.Author.Tests.{lt-leb}
use Rattle.floats.specs.Convert.{convert}
use Rattle.shapes.proofs.ListLaws.{get_d-tabulated}
use Rattle.shapes.specs.Lists.{tabulated}
use Rattle.shapes.specs.Numbers.{entry}
use Rattle.shapes.specs.Turns.{turns}
use Rattle.refine_operator.specs.declared.Phi.{Phi}
use Rattle.refine_operator.specs.Basis.{side, phi}
use Rattle.refine_operator.specs.Rows.{row_entry, stays}
use Rattle.refine_operator.specs.Steps.{phi_by, phi_at, row_sum, five_at, column_at}
use Rattle.refine_operator.proofs.NormalLaws.{phi-here}
use Rattle.refine_operator.proofs.WrittenLaws.{more_rows}

-- ---- a row's sum
sum_is : (radius : ℕ) (m : List Float) (c k : ℕ) → row_sum m c (phi_by (λ j. phi radius j k)) ≡ row_entry radius m c k
unfolding row_entry turns
sum_is radius m c k = refl

pub fives : (radius : ℕ) (m : List Float) (x y : ℕ) (p : Phi) (a b c d e : Float) → p ≡ phi_at radius x y → a ≡ row_sum m 0 p → b ≡ row_sum m 1 p → c ≡ row_sum m 2 p → d ≡ row_sum m 3 p → e ≡ row_sum m 4 p
    → a ∷ b ∷ c ∷ d ∷ e ∷ [] ≡ five_at radius m x y
unfolding five_at tabulated
fives radius m x y p a b c d e h ha hb hc hd he =
    ap (λ (z : Float). z ∷ b ∷ c ∷ d ∷ e ∷ []) ha
    ∙ ap (λ (z : Float). row_sum m 0 p ∷ z ∷ c ∷ d ∷ e ∷ []) hb
    ∙ ap (λ (z : Float). row_sum m 0 p ∷ row_sum m 1 p ∷ z ∷ d ∷ e ∷ []) hc
    ∙ ap (λ (z : Float). row_sum m 0 p ∷ row_sum m 1 p ∷ row_sum m 2 p ∷ z ∷ e ∷ []) hd
    ∙ ap (λ (z : Float). row_sum m 0 p ∷ row_sum m 1 p ∷ row_sum m 2 p ∷ row_sum m 3 p ∷ z ∷ []) he
    ∙ ap (λ (q : Phi). row_sum m 0 q ∷ row_sum m 1 q ∷ row_sum m 2 q ∷ row_sum m 3 q ∷ row_sum m 4 q ∷ []) h

pub five-entry : (radius : ℕ) (m : List Float) (x y c : ℕ) → x < side radius → c < 5 → entry (five_at radius m x y) c ≡ row_entry radius m c (y * side radius + x)
unfolding five_at
five-entry radius m x y c h l =
    get_d-tabulated 5 (λ i. row_sum m i (phi_at radius x y)) c nan l ∙ ap (λ (p : Phi). row_sum m c p) (phi-here radius x y h) ∙ sum_is radius m c (y * side radius + x)

pub column-entry : (radius : ℕ) (m : List Float) (x y k c : ℕ) (five : List Float) (v : Float) → x < side radius → k ≡ y * side radius + x → c < 5 → five ≡ five_at radius m x y
    → v ≡ convert binary32 (entry five c) → v ≡ column_at radius m (5 * k + c)
column-entry radius m x y k c five v h d l e p =
    p
    ∙ ap (λ (z : List Float). convert binary32 (entry z c)) e
    ∙ ap (λ (z : Float). convert binary32 z) (five-entry radius m x y c h l)
    ∙ ap (λ (n : ℕ). convert binary32 (row_entry radius m c n)) (sym d)
    ∙ ap (λ (n : ℕ). convert binary32 (row_entry radius m n k)) (let q : c ≡ (5 * k + c) % 5 = omega arith in q)
    ∙ ap (λ (n : ℕ). convert binary32 (row_entry radius m ((5 * k + c) % 5) n)) (let q : k ≡ (5 * k + c) / 5 = omega arith in q)

-- ---- the square
pub line-inside : (radius y : ℕ) → y < side radius → radius ≤ 7 → y * side radius + side radius ≤ 225
line-inside radius y h l = subst (λ (n : ℕ). n ≤ 225) (sym (more_rows y (side radius))) (le_trans (mul-le-mul {n₁ = y + 1} {m₁ = side radius} {n₂ = 15} {m₂ = 15} (omega arith) (omega arith)) (omega arith))

-- ---- shifts
pub stays-low : (radius i s : ℕ) → i + s < 1 → false ≡ stays radius i s
stays-low radius i s h = ap (λ (t : Bool). t && ltb (i + s - 1) (side radius)) (sym (lt-leb 1 (i + s) h))

pub stays-high : (radius i s : ℕ) → 1 ≤ i + s → ltb (i + s - 1) (side radius) ≡ stays radius i s
stays-high radius i s h = ap (λ (t : Bool). t && ltb (i + s - 1) (side radius)) (sym (le-leb 1 (i + s) h))

pub stays-is : (radius i s : ℕ) → stays radius i s ≡ true → (1 ≤ i + s) × (i + s - 1 < side radius)
stays-is radius i s e =
    let p = (and-eq-true_iff (leb 1 (i + s)) (ltb (i + s - 1) (side radius))).0 e in
    (leb-true 1 (i + s) p.0, ltb-true (i + s - 1) (side radius) p.1)

-- Laws of the normal matrix: one more sample of its sums, and that the sums left of the diagonal are those right of it.
use Rattle.std.proofs.Common.{◌≡◌, ℕ, ◌+◌, ◌*◌, ◌/◌, ◌%◌, ◌<◌, Bool, true, false, cond, eqb, ltb, List, [], ◌∷◌, sym, refl, ap, ◌∙◌, mul_comm, zero-mul, add-one}
use lib.Arith.{digits_div, digits_mod}
use lib.Ieee.{Format, Float, nan, inf, fin, binary64, add, mul, round, unlike, up, down}
use Rattle.shapes.proofs.ListLaws.{tabulated-cong}
use Rattle.shapes.proofs.TurnLaws.{turns-cong}
use Rattle.shapes.specs.Lists.{tabulated}
use Rattle.shapes.specs.Numbers.{plus_zero, one}
use Rattle.shapes.specs.Turns.{turns}
use Rattle.refine_operator.specs.declared.Phi.{Phi}
use Rattle.refine_operator.specs.declared.Upper.{Upper}
use Rattle.refine_operator.specs.Basis.{side, samples, offset, quadratic_basis, phi}
use Rattle.refine_operator.specs.Inverse.{normal_entry, normal_matrix}
use Rattle.refine_operator.specs.Steps.{phi_by, phi_at, upper_added, upper_at}
use Rattle.refine_operator.proofs.WrittenLaws.{more-along}

-- ---- one more sample
pub phi-here : (radius x y : ℕ) → x < side radius → phi_at radius x y ≡ phi_by (λ j. phi radius j (y * side radius + x))
unfolding phi
phi-here radius x y h =
    ap (λ (u : ℕ). phi_by (λ j. quadratic_basis j (offset radius u) (offset radius y))) (sym (digits_mod y h))
    ∙ ap (λ (v : ℕ). phi_by (λ j. quadratic_basis j (offset radius ((y * side radius + x) % side radius)) (offset radius v))) (sym (digits_div y h))

upper-more : (radius n : ℕ) → upper_added (upper_at radius n) (phi_by (λ j. phi radius j n)) ≡ upper_at radius (n + 1)
unfolding turns
upper-more radius n = ap (λ (k : ℕ). upper_at radius k) (sym (add-one n))

pub upper-along : (radius x y : ℕ) (s t : Upper) (p : Phi) → x < side radius → s ≡ upper_at radius (y * side radius + x) → p ≡ phi_at radius x y → t ≡ upper_added s p
    → t ≡ upper_at radius (y * side radius + (x + 1))
upper-along radius x y s t p h e q r =
    r
    ∙ ap (λ (z : Upper). upper_added z p) e
    ∙ ap (λ (z : Phi). upper_added (upper_at radius (y * side radius + x)) z) (q ∙ phi-here radius x y h)
    ∙ upper-more radius (y * side radius + x)
    ∙ ap (λ (n : ℕ). upper_at radius n) (more-along y (side radius) x)

pub upper-to : (radius n k : ℕ) (s : Upper) → s ≡ upper_at radius n → n ≡ k → s ≡ upper_at radius k
upper-to radius n k s e d = e ∙ ap (λ (i : ℕ). upper_at radius i) d

pub upper-none : (radius : ℕ) → upper_at radius 0 ≡ upper_at radius (0 * side radius)
upper-none radius = ap (λ (n : ℕ). upper_at radius n) (sym (zero-mul (side radius)))

-- ---- the order of two factors
pub unlike-comm : (s t : Bool) → unlike s t ≡ unlike t s
unlike-comm true true = refl
unlike-comm true false = refl
unlike-comm false true = refl
unlike-comm false false = refl

pub product-comm : (f : Format) (x y : Float) → mul f x y ≡ mul f y x
unfolding mul
product-comm f nan nan = refl
product-comm f nan (inf t) = refl
product-comm f nan (fin t n d) = refl
product-comm f (inf s) nan = refl
product-comm f (inf s) (inf t) = ap inf (unlike-comm s t)
product-comm f (inf s) (fin t n d) = ap (λ (b : Bool). cond (eqb n 0) nan (inf b)) (unlike-comm s t)
product-comm f (fin s m e) nan = refl
product-comm f (fin s m e) (inf t) = ap (λ (b : Bool). cond (eqb m 0) nan (inf b)) (unlike-comm s t)
product-comm f (fin s m e) (fin t n d) =
    ap (λ (b : Bool). round f b (m * up e * (n * up d)) (down e * down d)) (unlike-comm s t)
    ∙ ap (λ (k : ℕ). round f (unlike t s) k (down e * down d)) (mul_comm (m * up e) (n * up d))
    ∙ ap (λ (k : ℕ). round f (unlike t s) (n * up d * (m * up e)) k) (mul_comm (down e) (down d))

normal-comm : (radius row col : ℕ) → normal_entry radius row col ≡ normal_entry radius col row
unfolding normal_entry
normal-comm radius row col =
    turns-cong (samples radius) (λ k a. add binary64 a (mul binary64 (phi radius row k) (phi radius col k))) (λ k a. add binary64 a (mul binary64 (phi radius col k) (phi radius row k))) plus_zero
    (λ k h a. ap (λ (z : Float). add binary64 a z) (product-comm binary64 (phi radius row k) (phi radius col k)))

-- ---- the matrix
-- an entry by the sums on the diagonal and right of it
abbrev upper_entry : ℕ → ℕ → ℕ → Float
upper_entry radius row col = cond (ltb col row) (normal_entry radius col row) (normal_entry radius row col)

upper_is : (radius row col : ℕ) → upper_entry radius row col ≡ normal_entry radius row col
upper_is radius row col = by (ltb col row)
  where
    by : (t : Bool) → cond t (normal_entry radius col row) (normal_entry radius row col) ≡ normal_entry radius row col
    by true = normal-comm radius col row
    by false = refl

abbrev list_of : Upper → List Float
list_of s = s.aa ∷ s.ab ∷ s.ac ∷ s.ad ∷ s.ae ∷ s.af ∷ one ∷ plus_zero ∷ plus_zero ∷ plus_zero ∷ plus_zero ∷ plus_zero ∷ s.ab ∷ s.bb ∷ s.bc ∷ s.bd ∷ s.be ∷ s.bf ∷ plus_zero ∷ one ∷ plus_zero ∷ plus_zero ∷ plus_zero ∷ plus_zero ∷ s.ac ∷ s.bc ∷ s.cc ∷ s.cd ∷ s.ce ∷ s.cf ∷ plus_zero ∷ plus_zero ∷ one ∷ plus_zero ∷ plus_zero ∷ plus_zero ∷ s.ad ∷ s.bd ∷ s.cd ∷ s.dd ∷ s.de ∷ s.df ∷ plus_zero ∷ plus_zero ∷ plus_zero ∷ one ∷ plus_zero ∷ plus_zero ∷ s.ae ∷ s.be ∷ s.ce ∷ s.de ∷ s.ee ∷ s.ef ∷ plus_zero ∷ plus_zero ∷ plus_zero ∷ plus_zero ∷ one ∷ plus_zero ∷ s.af ∷ s.bf ∷ s.cf ∷ s.df ∷ s.ef ∷ s.ff ∷ plus_zero ∷ plus_zero ∷ plus_zero ∷ plus_zero ∷ plus_zero ∷ one ∷ []

pub matrix-is : (radius : ℕ) (s : Upper) → s ≡ upper_at radius (samples radius) → list_of s ≡ normal_matrix radius
unfolding normal_matrix tabulated normal_entry
matrix-is radius s e =
    ap list_of e
    ∙ tabulated-cong 72 (λ i. cond (ltb (i % 12) 6) (upper_entry radius (i / 12) (i % 12)) (cond (eqb (i % 12) (6 + i / 12)) one plus_zero)) _
    (λ i h. ap (λ (x : Float). cond (ltb (i % 12) 6) x (cond (eqb (i % 12) (6 + i / 12)) one plus_zero)) (upper_is radius (i / 12) (i % 12)))

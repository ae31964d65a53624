-- Four lanes of a list: read from a place, and written at one.
use mathlib.Core.Path.{◌≡◌, refl, sym, ap, ◌∙◌, subst}
use mathlib.Core.List.{List, [], ◌∷◌, map}
use Prim.Native.Nat.{ℕ, zero, suc, ◌+◌, ◌≤◌}
use native.Mathlib.Nat.{suc-add}
use native.Mathlib.Omega.{arith}
use borrow.Rule.Slice.PartMut.{mid_of, put_mid}
use lib.Lanes.{zip2, chunk, put_chunk}
use lib.ListN.{length, get_or, take, drop}
use lib.Ieee.{Float, nan}
use Rattle.refine_formulas.specs.Numbers.{◌⊖◌}
use Rattle.refine_patch.specs.declared.Firsts.{Firsts}
use Rattle.refine_patch.specs.declared.Sums.{Sums}
use Rattle.refine_patch.specs.StepsFour.{four_by, four_set, float_of, level_of, row_added, FourLanes}
use Rattle.refine_patch.specs.StepsRows.{sums_after}

pub four-lanes : {A : Type 0} (v : List A) (d : A) → length v ≡ 4 → v ≡ four_by (λ i. get_or v i d)
four-lanes (p ∷ q ∷ r ∷ s ∷ []) d h = refl
four-lanes [] d h = absurd (let z : ⊥ = omega arith in z)
four-lanes (p ∷ []) d h = absurd (let z : ⊥ = omega arith in z)
four-lanes (p ∷ q ∷ []) d h = absurd (let z : ⊥ = omega arith in z)
four-lanes (p ∷ q ∷ r ∷ []) d h = absurd (let z : ⊥ = omega arith in z)
four-lanes (p ∷ q ∷ r ∷ s ∷ t ∷ v) d h = absurd (let z : ⊥ = omega arith in z)

pub take_four : {A : Type 0} (l : List A) (n : ℕ) (d : A) → n + 4 ≤ length l → take 4 (drop n l) ≡ four_by (λ i. get_or l (n + i) d)
take_four (p ∷ q ∷ r ∷ s ∷ l) zero d h = refl
take_four (x ∷ l) (suc n) d h = simp suc-add (take_four l n d (omega arith))
take_four [] n d h = absurd (let z : ⊥ = omega arith in z)
take_four (p ∷ []) zero d h = absurd (let z : ⊥ = omega arith in z)
take_four (p ∷ q ∷ []) zero d h = absurd (let z : ⊥ = omega arith in z)
take_four (p ∷ q ∷ r ∷ []) zero d h = absurd (let z : ⊥ = omega arith in z)

-- the part from n on of four elements, read as lanes
pub lanes-at : {A : Type 0} (l : List A) (n k : ℕ) (d : A) → k ≡ 4 → n + 4 ≤ length l → chunk 0 4 (mid_of n k l) ≡ four_by (λ i. get_or l (n + i) d)
lanes-at {A = A} l n k d e h = ap (λ (j : ℕ). chunk 0 4 (mid_of n j l)) e ∙ ap (λ (z : List A). take 4 z) (take_four l n d h)

pub level-is : (row : List ℕ) (n k : ℕ) (centre : List Float) → k ≡ 4 → n + 4 ≤ length row → length centre ≡ 4
    → zip2 (λ (x y : Float). x ⊖ y) (map float_of (chunk 0 4 (mid_of n k row))) centre ≡ level_of (λ l. get_or row (n + l) 0) centre
level-is row n k centre e h g =
    ap (λ (z : List ℕ). zip2 (λ (x y : Float). x ⊖ y) (map float_of z) centre) (lanes-at row n k 0 e h)
    ∙ ap (λ (z : List Float). zip2 (λ (x y : Float). x ⊖ y) (map float_of (four_by (λ l. get_or row (n + l) 0))) z) (four-lanes centre nan g)

-- four lanes written at a place
written : {A : Type 0} (l : List A) (m : ℕ) (g : ℕ → A) → m + 4 ≤ length l → put_mid m 4 l (put_chunk 0 (mid_of m 4 l) (four_by g)) ≡ four_set l m g
written (p ∷ q ∷ r ∷ s ∷ l) zero g h = refl
written {A = A} (x ∷ l) (suc m) g h = simp suc-add (ap (λ (z : List A). x ∷ z) (written l m g (omega arith)))
written [] m g h = absurd (let z : ⊥ = omega arith in z)
written (p ∷ []) zero g h = absurd (let z : ⊥ = omega arith in z)
written (p ∷ q ∷ []) zero g h = absurd (let z : ⊥ = omega arith in z)
written (p ∷ q ∷ r ∷ []) zero g h = absurd (let z : ⊥ = omega arith in z)

pub lanes-written : {A : Type 0} (l : List A) (m k : ℕ) (v : List A) (d : A) → k ≡ 4 → m + 4 ≤ length l → length v ≡ 4 → put_mid m k l (put_chunk 0 (mid_of m k l) v) ≡ four_set l m (λ i. get_or v i d)
lanes-written {A = A} l m k v d e h g =
    ap (λ (j : ℕ). put_mid m j l (put_chunk 0 (mid_of m j l) v)) e
    ∙ ap (λ (z : List A). put_mid m 4 l (put_chunk 0 (mid_of m 4 l) z)) (four-lanes v d g)
    ∙ written l m (λ i. get_or v i d) h

-- ---- sums of four lanes
pub lanes-after : (list : List ℕ) (pitch : ℕ) (columns : List Float) (radius : ℕ) (at : Firsts) (n : ℕ) (s : Sums) → s ≡ sums_after list pitch columns radius at n → FourLanes s
lanes-after list pitch columns radius at n s e = subst FourLanes (sym e) (record { a = refl; b = refl; c = refl; d = refl; e = refl })

pub row-lanes : (columns : List Float) (row : List ℕ) (centre : List Float) (from n : ℕ) (s t : Sums) → FourLanes s → t ≡ row_added columns row centre from n s → FourLanes t
unfolding row_added
row-lanes columns row centre from zero s t h e = subst FourLanes (sym e) h
row-lanes columns row centre from (suc n) s t h e = subst FourLanes (sym e) (record { a = refl; b = refl; c = refl; d = refl; e = refl })

-- The box as it is stretched corner by corner, and how many cells are too many.
use mathlib.Core.Path.{◌≡◌, sym, ap, ◌∙◌, subst}
use mathlib.Core.Bool.{true}
use mathlib.Core.List.{List}
use Prim.Native.Nat.{ℕ, suc, ◌+◌, ◌*◌, ◌/◌, ◌≤◌, ◌<◌}
use native.Mathlib.Nat.{le-mul_of_pos_right, mul_comm, div-lt_iff_lt-mul}
use native.Mathlib.Numerals.{add-one}
use native.Mathlib.Omega.{arith}
use lib.Dec.{ltb}
use lib.ListN.{length, drop, drop_of_length-le}
use lib.Seq.{drop-cons}
use borrow.Author.Tests.{lt-ltb, ltb-true}
use Rattle.corners.specs.Corners.{nowhere, corner_at}
use Rattle.corners.specs.declared.Corner.{Corner}
use Rattle.merge.specs.Meets.{Box, stretched, box_from}
use Rattle.merge.proofs.LowestLaws.{same_bool}

-- the box b' is b stretched by corner i
pub box_turn :
    (l : List Corner) (i : ℕ) (b b' : Box) → i < length l → b' ≡ stretched (corner_at l i) b → box_from (drop (i + 1) l) b' ≡ box_from (drop i l) b
unfolding box_from
box_turn l i b b' h e =
    ap (λ (n : ℕ). box_from (drop n l) b') (add-one i)
    ∙ ap (box_from (drop (suc i) l)) e
    ∙ ap (λ (m : List Corner). box_from m b) (sym (drop-cons l i nowhere h))

pub box_end : (l : List Corner) (i : ℕ) (b : Box) → length l ≤ i → box_from (drop i l) b ≡ b
unfolding box_from
box_end l i b h = ap (λ (m : List Corner). box_from m b) (drop_of_length-le l {i = i} h)

-- ---- how many cells are too many
above-product : (a b : ℕ) → a + 1 ≤ (a + 1) * (b + 1)
above-product a b = le-mul_of_pos_right (a + 1) (omega arith)

pub many_across : (most a b : ℕ) → most ≤ a → true ≡ ltb most ((a + 1) * (b + 1))
many_across most a b h = sym (lt-ltb most ((a + 1) * (b + 1)) (let z = above-product a b in omega arith))

pub many_down : (most a b : ℕ) → most ≤ b → true ≡ ltb most ((a + 1) * (b + 1))
many_down most a b h =
    sym (lt-ltb most ((a + 1) * (b + 1)) (let z : b + 1 ≤ (a + 1) * (b + 1) = subst (λ (n : ℕ). b + 1 ≤ n) (mul_comm (b + 1) (a + 1)) (above-product b a) in omega arith))

pub many_product : (most a b : ℕ) → ltb (most / (a + 1)) (b + 1) ≡ ltb most ((a + 1) * (b + 1))
many_product most a b =
    same_bool (ltb (most / (a + 1)) (b + 1)) (ltb most ((a + 1) * (b + 1)))
    (λ t. lt-ltb most ((a + 1) * (b + 1)) (subst (λ (n : ℕ). most < n) (mul_comm (b + 1) (a + 1)) ((div-lt_iff_lt-mul {k = a + 1} (omega arith)).0 (ltb-true (most / (a + 1)) (b + 1) t))))
    (λ t. lt-ltb (most / (a + 1)) (b + 1) ((div-lt_iff_lt-mul {k = a + 1} (omega arith)).1 (subst (λ (n : ℕ). most < n) (mul_comm (a + 1) (b + 1)) (ltb-true most ((a + 1) * (b + 1)) t))))

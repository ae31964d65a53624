-- The test of a row of samples: of bytes, and as a fold over the row.
use Rattle.std.proofs.Common.{◌≡◌, ℕ, zero, suc, ◌+◌, ◌≤◌, ◌<◌, Bool, true, false, ◌&&◌, leb, List, [], ◌∷◌, length, get_or, fold, refl, sym, ap, ◌∙◌}
use Rattle.std.proofs.Math.Numerals.{one-add}
use mathlib.Core.Bool.{and_assoc}
use borrow.Author.Tests.{le-leb}
use Rattle.shapes.specs.Tests.{every}
use Rattle.shapes.proofs.TestLaws.{every-cut, every-same}
use Rattle.imageview.specs.Levels.{row_low}

every-true : (n : ℕ) → every n (λ _. true) ≡ true
unfolding every
every-true zero = refl
every-true (suc n) = ap (λ (b : Bool). b && true) (every-true n)

-- a row whose samples are low passes
pub row_low-of : (l : List ℕ) (n : ℕ) → ((i : ℕ) → i < n → get_or l i 0 ≤ 4095) → row_low l n ≡ true
row_low-of l n low = every-same n (λ x. leb (get_or l x 0) 4095) (λ _. true) (λ i h. le-leb _ 4095 (low i h)) ∙ every-true n

-- sample by sample
fold-low : (l : List ℕ) (b : Bool) → fold (λ (low : Bool) (v : ℕ). low && leb v 4095) b l ≡ (b && row_low l (length l))
unfolding every
fold-low [] true = refl
fold-low [] false = refl
fold-low (v ∷ l) b =
    let p : ℕ → Bool = λ x. leb (get_or (v ∷ l) x 0) 4095 in
    let rest : row_low l (length l) ≡ every (length l) (λ j. p (1 + j)) = every-same (length l) (λ x. leb (get_or l x 0) 4095) (λ j. p (1 + j)) (λ j h. ap (λ (k : ℕ). leb (get_or (v ∷ l) k 0) 4095) (sym (one-add j))) in
    fold-low l (b && leb v 4095)
    ∙ and_assoc b (leb v 4095) (row_low l (length l))
    ∙ ap (λ (z : Bool). b && z) (ap (λ (z : Bool). leb v 4095 && z) rest ∙ sym (every-cut p 1 (length l)) ∙ ap (λ (n : ℕ). every n p) (one-add (length l)))

pub fold_is_row_low : (l : List ℕ) → fold (λ (low : Bool) (v : ℕ). low && leb v 4095) true l ≡ row_low l (length l)
fold_is_row_low l = fold-low l true

-- Laws of lists that are written front to back, and of two numbers as one: the sample at x in the row y.
use Rattle.std.proofs.Common.{◌≡◌, ℕ, ◌+◌, ◌*◌, ◌<◌, ◌≤◌, List, length, drop, set, sym, ap, ◌∙◌, subst, le_trans, add-zero, add_assoc, add-mul, one-mul, zero-mul, mul-one, mul-add, arith}
use lib.ListN.{get_or-append}
use lib.Ieee.{Float, nan}
use Rattle.shapes.proofs.ListLaws.{length-tabulated, get_d-tabulated, overwritten-none, overwritten-more, overwritten-whole}
use Rattle.shapes.specs.Lists.{tabulated, overwritten}
use Rattle.shapes.specs.Numbers.{entry}
use Rattle.refine_operator.specs.Steps.{Continued}

-- ---- one more sample, one more row
pub more-along : (y side x : ℕ) → y * side + x + 1 ≡ y * side + (x + 1)
more-along y side x = add_assoc (y * side) x 1

pub more_rows : (y side : ℕ) → y * side + side ≡ (y + 1) * side
more_rows y side = sym (add-mul y 1 side ∙ ap (λ (n : ℕ). y * side + n) (one-mul side))

-- ---- written on
pub continued-none : (from : ℕ) (g : ℕ → Float) (l : List Float) → Continued from from g l l
continued-none from g l = record { on = λ old h e. e }

pub continued-more : (from to : ℕ) (g : ℕ → Float) (l l' : List Float) (v : Float) → Continued from to g l l' → v ≡ g to → Continued from (to + 1) g l (set l' to v)
continued-more from to g l l' v c p = record {
  on = λ old h e. ap (λ (x : List Float). set x to v) (c.on old (omega arith) e) ∙ overwritten-more to g old (omega arith) v p;
}

pub continued-on : (from to end : ℕ) (g : ℕ → Float) (l l' l'' : List Float) → to ≤ end → Continued from to g l l' → Continued to end g l' l'' → Continued from end g l l''
continued-on from to end g l l' l'' h c d = record { on = λ old k e. d.on old k (c.on old (le_trans h k) e) }

pub continued-to : (from to end : ℕ) (g : ℕ → Float) (l l' : List Float) → to ≡ end → Continued from to g l l' → Continued from end g l l'
continued-to from to end g l l' e c = subst (λ (n : ℕ). Continued from n g l l') e c

pub continued-begin : (from : ℕ) (g : ℕ → Float) (l : List Float) → Continued from (from + 0) g l l
continued-begin from g l = continued-to from from (from + 0) g l l (sym (add-zero from)) (continued-none from g l)

pub continued-next : (from n : ℕ) (g : ℕ → Float) (l l' : List Float) (v : Float) → Continued from (from + n) g l l' → v ≡ g (from + n) → Continued from (from + (n + 1)) g l (set l' (from + n) v)
continued-next from n g l l' v c p = continued-to from (from + n + 1) (from + (n + 1)) g l (set l' (from + n) v) (add_assoc from n 1) (continued-more from (from + n) g l l' v c p)

-- five a sample
pub continued-times : (from : ℕ) (g : ℕ → Float) (l : List Float) → Continued (5 * from) (5 * (from + 0)) g l l
continued-times from g l = continued-to (5 * from) (5 * from) (5 * (from + 0)) g l l (omega arith) (continued-none (5 * from) g l)

pub continued-five : (start from x : ℕ) (g : ℕ → Float) (l l' l'' : List Float) → Continued start (5 * (from + x)) g l l' → Continued (5 * (from + x)) (5 * (from + x) + 5) g l' l'' → Continued start (5 * (from + (x + 1))) g l l''
continued-five start from x g l l' l'' c d =
    continued-to start (5 * (from + x) + 5) (5 * (from + (x + 1))) g l l'' (omega arith) (continued-on start (5 * (from + x)) (5 * (from + x) + 5) g l l' l'' (omega arith) c d)

pub continued-zero : (side : ℕ) (g : ℕ → Float) (l : List Float) → Continued 0 (5 * (0 * side)) g l l
continued-zero side g l = continued-to 0 0 (5 * (0 * side)) g l l (ap (λ (n : ℕ). 5 * n) (sym (zero-mul side))) (continued-none 0 g l)

pub continued-row : (y side : ℕ) (g : ℕ → Float) (l l' l'' : List Float) → Continued 0 (5 * (y * side)) g l l' → Continued (5 * (y * side)) (5 * (y * side + side)) g l' l'' → Continued 0 (5 * ((y + 1) * side)) g l l''
continued-row y side g l l' l'' c d =
    continued-to 0 (5 * (y * side + side)) (5 * ((y + 1) * side)) g l l'' (ap (λ (n : ℕ). 5 * n) (more_rows y side)) (continued-on 0 (5 * (y * side)) (5 * (y * side + side)) g l l' l'' (longer (y * side) side) c d)
  where
    longer : (a b : ℕ) → 5 * a ≤ 5 * (a + b)
    longer a b = omega arith

-- so many at once
pub continued-block : (size n : ℕ) (g : ℕ → Float) (l l' l'' : List Float) → Continued 0 (size * n) g l l' → Continued (size * n) (size * n + size) g l' l'' → Continued 0 (size * (n + 1)) g l l''
continued-block size n g l l' l'' c d =
    continued-to 0 (size * n + size) (size * (n + 1)) g l l'' (sym (mul-add size n 1 ∙ ap (λ (k : ℕ). size * n + k) (mul-one size)))
    (continued-on 0 (size * n) (size * n + size) g l l' l'' (longer (size * n) size) c d)
  where
    longer : (a b : ℕ) → a ≤ a + b
    longer a b = omega arith

-- from the front
pub continued-all : (end : ℕ) (g : ℕ → Float) (l l' : List Float) → end ≤ length l → Continued 0 end g l l' → l' ≡ overwritten end g l
continued-all end g l l' h c = c.on l h (overwritten-none g l)

pub continued-whole : (end : ℕ) (g : ℕ → Float) (l l' : List Float) → length l ≡ end → Continued 0 end g l l' → l' ≡ tabulated end g
continued-whole end g l l' h c = continued-all end g l l' (omega arith) c ∙ overwritten-whole end g l h

-- an entry that was written
pub written_entry : (n i : ℕ) (g : ℕ → Float) (old : List Float) → i < n → entry (overwritten n g old) i ≡ g i
unfolding overwritten
written_entry n i g old h =
    get_or-append (tabulated n g) (drop n old) nan i (subst (λ (k : ℕ). i < k) (sym (length-tabulated n g)) h) ∙ get_d-tabulated n g i nan h

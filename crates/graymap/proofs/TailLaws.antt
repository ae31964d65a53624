-- A list that another ends with: where it begins. What is left behind a gap, a number and a header is such a list.
use mathlib.Core.Path.{◌≡◌, refl, sym, ap, ◌∙◌}
use mathlib.Core.Bool.{Bool, true, false, ◌&&◌, cond}
use mathlib.Core.List.{List, [], ◌∷◌, ◌++◌, append_assoc}
use Prim.Native.Nat.{ℕ, ◌+◌, ◌-◌, ◌*◌, ◌≤◌}
use native.Mathlib.Omega.{arith}
use lib.Dec.{eqb}
use lib.ListN.{length, drop, length-append}
use lib.Seq.{drop_at}
use Rattle.graymap.specs.Grammar.{is_space, ends_line, is_digit, gap, digits, Number, missing, number, number_in, Header, no_header, header, with_maximum, with_height, with_width, header_in}

abbrev pub EndsIn : List ℕ → List ℕ → Type 0
EndsIn end l = (front : List ℕ) × (l ≡ front ++ end)

pub ends-self : (l : List ℕ) → EndsIn l l
ends-self l = ([], refl)

pub ends_more : (b : ℕ) {end l : List ℕ} → EndsIn end l → EndsIn end (b ∷ l)
ends_more b e = (b ∷ e.0, ap (λ (k : List ℕ). b ∷ k) e.1)

pub ends_on : {a b c : List ℕ} → EndsIn c b → EndsIn b a → EndsIn c a
ends_on {a} {b} {c} e f = (f.0 ++ e.0, f.1 ∙ ap (λ (k : List ℕ). f.0 ++ k) e.1 ∙ sym (append_assoc f.0 e.0 c))

-- it begins where the count of what is before it says
pub ends_at : {end l : List ℕ} → EndsIn end l → (length end ≤ length l) × (drop (length l - length end) l ≡ end)
ends_at {end} {l} e =
    let n : length l ≡ length e.0 + length end = ap length e.1 ∙ length-append e.0 end in
    (omega arith, ap (drop (length l - length end)) e.1 ∙ drop_at e.0 end (length l - length end) (omega arith))

-- ---- what is left, of each part of the grammar
pub gap_ends : (hidden : Bool) (l : List ℕ) → EndsIn (gap hidden l) l
unfolding gap
gap_ends hidden [] = ends-self []
gap_ends true (b ∷ l) = ends_more b (gap_ends (cond (ends_line b) false true) l)
gap_ends false (b ∷ l) = by (is_space b) (eqb b 35) (gap_ends false l) (gap_ends true l)
  where
    by : (s h : Bool) → EndsIn (gap false l) l → EndsIn (gap true l) l → EndsIn (cond s (gap false l) (cond h (gap true l) (b ∷ l))) (b ∷ l)
    by true h e f = ends_more b e
    by false true e f = ends_more b f
    by false false e f = ends-self (b ∷ l)

abbrev pub NumberEnds : Number → List ℕ → Type 0
NumberEnds missing l = Unit {0}
NumberEnds (number v end) l = EndsIn end l

number-on : (n : Number) {a b : List ℕ} → NumberEnds n b → EndsIn b a → NumberEnds n a
number-on missing e f = tt
number-on (number v end) e f = ends_on e f

digits-end : (v : ℕ) (some : Bool) (l : List ℕ) → NumberEnds (digits v some l) l
unfolding digits
digits-end v some [] = tt
digits-end v some (b ∷ l) = by (is_digit b) (some && is_space b) (digits (10 * v + (b - 48)) true l) (digits-end (10 * v + (b - 48)) true l)
  where
    by : (d s : Bool) (n : Number) → NumberEnds n l → NumberEnds (cond d n (cond s (number v l) missing)) (b ∷ l)
    by true s n e = number-on n e (ends_more b (ends-self l))
    by false true n e = ends_more b (ends-self l)
    by false false n e = tt

pub number-ends : (l : List ℕ) → NumberEnds (number_in l) l
unfolding number_in
number-ends l = number-on (digits 0 false (gap false l)) (digits-end 0 false (gap false l)) (gap_ends false l)

abbrev pub HeaderEnds : Header → List ℕ → Type 0
HeaderEnds no_header l = Unit {0}
HeaderEnds (header w h m end) l = EndsIn end l

header-on : (x : Header) {a b : List ℕ} → HeaderEnds x b → EndsIn b a → HeaderEnds x a
header-on no_header e f = tt
header-on (header w h m end) e f = ends_on e f

maximum-ends : (w h : ℕ) (n : Number) (l : List ℕ) → NumberEnds n l → HeaderEnds (with_maximum w h n) l
maximum-ends w h missing l e = tt
maximum-ends w h (number m end) l e = e

height-ends : (w : ℕ) (n : Number) (l : List ℕ) → NumberEnds n l → HeaderEnds (with_height w n) l
height-ends w missing l e = tt
height-ends w (number h end) l e = header-on (with_maximum w h (number_in end)) (maximum-ends w h (number_in end) end (number-ends end)) e

width-ends : (n : Number) (l : List ℕ) → NumberEnds n l → HeaderEnds (with_width n) l
width-ends missing l e = tt
width-ends (number w end) l e = header-on (with_height w (number_in end)) (height-ends w (number_in end) end (number-ends end)) e

pub header-ends : (l : List ℕ) → HeaderEnds (header_in l) l
unfolding header_in
header-ends l = width-ends (number_in l) l (number-ends l)

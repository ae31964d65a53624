-- Laws of the overlaps: the products of a row, one more sample of the 25 sums, and the narrowed sums of a shift.
use Rattle.std.proofs.Common.{◌≡◌, ℕ, ◌+◌, ◌-◌, ◌*◌, ◌/◌, ◌%◌, ◌<◌, ◌≤◌, Bool, true, false, cond, ◌&&◌, List, length, set, sym, refl, ap, ◌∙◌, subst, add-zero, add_assoc, zero-mul, arith}
use lib.Arith.{digits_div, digits_mod}
use lib.Ieee.{Float, nan, binary32, binary64, add, mul}
use Rattle.floats.specs.Convert.{convert}
use Rattle.shapes.proofs.ListLaws.{length-tabulated, get_d-tabulated, tabulated-cong, overwritten-more, get_d-overwritten, overwritten-whole}
use Rattle.shapes.proofs.TurnLaws.{turns_more}
use Rattle.shapes.specs.Lists.{tabulated, overwritten}
use Rattle.shapes.specs.Numbers.{entry, plus_zero}
use Rattle.shapes.specs.Turns.{turns}
use Rattle.refine_operator.specs.Basis.{side, samples}
use Rattle.refine_operator.specs.Rows.{row_entry, stays, overlap_entry, overlap_of}
use Rattle.refine_operator.specs.Steps.{Continued, five_at, product_added, block_added, FiveAdded, sample_added, overlap_term, sums_at, overlap_at, BlockPut, Mirrored}
use Rattle.refine_operator.proofs.InverseLaws.{first_of, second-of}
use Rattle.refine_operator.proofs.RowLaws.{five-entry, stays-is}
use Rattle.refine_operator.proofs.MirrorLaws.{opposite-is}
use Rattle.refine_operator.proofs.WrittenLaws.{more-along, continued-begin, continued-next, continued-on, continued-to, continued-whole}

-- ---- the products of a row
pub five-none : (r : ℕ) (here there l : List Float) → FiveAdded r 0 here there l l
five-none r here there l = record { on = λ old h e. e ∙ ap (λ (n : ℕ). overwritten n (product_added old here there) old) (sym (add-zero (5 * r))) }

pub five-more : (r s : ℕ) (here there l l' : List Float) (v : Float) → r < 5 → s < 5 → FiveAdded r s here there l l' → v ≡ add binary64 (entry l' (5 * r + s)) (mul binary64 (entry here r) (entry there s))
    → FiveAdded r (s + 1) here there l (set l' (5 * r + s) v)
five-more r s here there l l' v hr hs c p = record {
  on = λ old h e.
      let k : 5 * r + s < length old = omega arith in
      let g = product_added old here there in
      ap (λ (x : List Float). set x (5 * r + s) v) (c.on old h e)
      ∙ overwritten-more (5 * r + s) g old k v (
      p
      ∙ ap (λ (x : List Float). add binary64 (entry x (5 * r + s)) (mul binary64 (entry here r) (entry there s))) (c.on old h e)
      ∙ ap (λ (z : Float). add binary64 z (mul binary64 (entry here r) (entry there s))) (get_d-overwritten (5 * r + s) g old k nan)
      ∙ ap (λ (n : ℕ). add binary64 (entry old (5 * r + s)) (mul binary64 (entry here n) (entry there s))) (let q : r ≡ (5 * r + s) / 5 = omega arith in q)
      ∙ ap (λ (n : ℕ). add binary64 (entry old (5 * r + s)) (mul binary64 (entry here ((5 * r + s) / 5)) (entry there n))) (let q : s ≡ (5 * r + s) % 5 = omega arith in q)
      )
      ∙ ap (λ (n : ℕ). overwritten n g old) (add_assoc (5 * r) s 1);
}

pub five-all : (r s : ℕ) (here there l l' : List Float) → s ≡ 5 → FiveAdded r s here there l l' → FiveAdded r 5 here there l l'
five-all r s here there l l' e c = record { on = λ old h k. c.on old h k ∙ ap (λ (n : ℕ). overwritten (5 * r + n) (product_added old here there) old) e }

pub block_more : (r : ℕ) (here there l l' l'' : List Float) → length l ≡ 25 → l' ≡ overwritten (5 * r) (product_added l here there) l → FiveAdded r 5 here there l' l''
    → l'' ≡ overwritten (5 * (r + 1)) (product_added l here there) l
block_more r here there l l' l'' h e c = c.on l h e ∙ ap (λ (n : ℕ). overwritten n (product_added l here there) l) (let q : 5 * r + 5 ≡ 5 * (r + 1) = omega arith in q)

pub block-all : (r : ℕ) (here there l l' : List Float) → length l ≡ 25 → r ≡ 5 → l' ≡ overwritten (5 * r) (product_added l here there) l → l' ≡ block_added l here there
unfolding block_added
block-all r here there l l' h e p = p ∙ ap (λ (n : ℕ). overwritten (5 * n) (product_added l here there) l) e ∙ overwritten-whole 25 (product_added l here there) l h

-- ---- a sample
module _ (radius : ℕ) (m : List Float) (d x y : ℕ) (l : List Float) where
  pub sample-left : stays radius x (d % 3) ≡ false → l ≡ sample_added radius m d x y l
  sample-left e = sym (second-of _ _ l (ap (λ (t : Bool). t && stays radius y (d / 3)) e))

  pub sample-right : stays radius x (d % 3) ≡ true → stays radius y (d / 3) ≡ false → l ≡ sample_added radius m d x y l
  sample-right e f = sym (second-of _ _ l (ap (λ (t : Bool). t && stays radius y (d / 3)) e ∙ f))

  pub sample_in : (here there l' : List Float) → stays radius x (d % 3) ≡ true → stays radius y (d / 3) ≡ true → here ≡ five_at radius m x y
      → there ≡ five_at radius m (x + d % 3 - 1) (y + d / 3 - 1) → l' ≡ block_added l here there → l' ≡ sample_added radius m d x y l
  sample_in here there l' e f p q r =
      r
      ∙ ap (λ (z : List Float). block_added l z there) p
      ∙ ap (λ (z : List Float). block_added l (five_at radius m x y) z) q
      ∙ sym (first_of _ _ l (ap (λ (t : Bool). t && stays radius y (d / 3)) e ∙ f))

-- ---- the sums
-- the sum number i after n samples
abbrev sum_at : ℕ → List Float → ℕ → ℕ → ℕ → Float
sum_at radius m d n i = turns n (overlap_term radius m d (i / 5) (i % 5)) plus_zero

pub sums-length : (radius : ℕ) (m : List Float) (d n : ℕ) → length (sums_at radius m d n) ≡ 25
unfolding sums_at
sums-length radius m d n = length-tabulated 25 (sum_at radius m d n)

pub sums_none : (radius : ℕ) (m : List Float) (d : ℕ) → sums_at radius m d 0 ≡ sums_at radius m d (0 * side radius)
sums_none radius m d = ap (λ (n : ℕ). sums_at radius m d n) (sym (zero-mul (side radius)))

module _ (radius : ℕ) (m : List Float) (d x y : ℕ) (h : x < side radius) where
  -- the term at the sample, by its column and row
  abbrev term_at : ℕ → Float → ℕ → ℕ → Float
  term_at i a u v =
      cond (stays radius u (d % 3) && stays radius v (d / 3))
      (add binary64 a (mul binary64 (row_entry radius m (i / 5) (y * side radius + x)) (row_entry radius m (i % 5) ((v + d / 3 - 1) * side radius + (u + d % 3 - 1))))) a

  term-here : (i : ℕ) (a : Float) → overlap_term radius m d (i / 5) (i % 5) (y * side radius + x) a ≡ term_at i a x y
  term-here i a =
      ap (λ (u : ℕ). term_at i a u ((y * side radius + x) / side radius)) (digits_mod y h) ∙ ap (λ (v : ℕ). term_at i a x v) (digits_div y h)

  added : (t u : Bool) → stays radius x (d % 3) ≡ t → stays radius y (d / 3) ≡ u
      → cond (t && u) (block_added (sums_at radius m d (y * side radius + x)) (five_at radius m x y) (five_at radius m (x + d % 3 - 1) (y + d / 3 - 1))) (sums_at radius m d (y * side radius + x))
      ≡ tabulated 25 (λ i. cond (t && u) (add binary64 (sum_at radius m d (y * side radius + x) i) (mul binary64 (row_entry radius m (i / 5) (y * side radius + x)) (row_entry radius m (i % 5) ((y + d / 3 - 1) * side radius + (x + d % 3 - 1))))) (sum_at radius m d (y * side radius + x) i))
  unfolding sums_at block_added
  added true true e f =
      tabulated-cong 25 (product_added (tabulated 25 (sum_at radius m d (y * side radius + x))) (five_at radius m x y) (five_at radius m (x + d % 3 - 1) (y + d / 3 - 1))) _
      (λ i l.
      ap (λ (z : Float). add binary64 z (mul binary64 (entry (five_at radius m x y) (i / 5)) (entry (five_at radius m (x + d % 3 - 1) (y + d / 3 - 1)) (i % 5)))) (get_d-tabulated 25 (sum_at radius m d (y * side radius + x)) i nan l)
      ∙ ap (λ (z : Float). add binary64 (sum_at radius m d (y * side radius + x) i) (mul binary64 z (entry (five_at radius m (x + d % 3 - 1) (y + d / 3 - 1)) (i % 5)))) (five-entry radius m x y (i / 5) h (omega arith))
      ∙ ap (λ (z : Float). add binary64 (sum_at radius m d (y * side radius + x) i) (mul binary64 (row_entry radius m (i / 5) (y * side radius + x)) z)) (five-entry radius m (x + d % 3 - 1) (y + d / 3 - 1) (i % 5) (stays-is radius x (d % 3) e).1 (omega arith)))
  added true false e f = refl
  added false u e f = refl

  pub sums-more : (l l' : List Float) → l ≡ sums_at radius m d (y * side radius + x) → l' ≡ sample_added radius m d x y l → l' ≡ sums_at radius m d (y * side radius + (x + 1))
  unfolding sums_at
  sums-more l l' e p =
      p
      ∙ ap (λ (z : List Float). sample_added radius m d x y z) e
      ∙ added (stays radius x (d % 3)) (stays radius y (d / 3)) refl refl
      ∙ tabulated-cong 25 (λ i. term_at i (sum_at radius m d (y * side radius + x) i) x y) (sum_at radius m d (y * side radius + x + 1))
      (λ i l. sym (turns_more (y * side radius + x) (overlap_term radius m d (i / 5) (i % 5)) plus_zero ∙ term-here i (sum_at radius m d (y * side radius + x) i)))
      ∙ ap (λ (n : ℕ). tabulated 25 (sum_at radius m d n)) (more-along y (side radius) x)

pub sums-to : (radius : ℕ) (m : List Float) (d n k : ℕ) (l : List Float) → l ≡ sums_at radius m d n → n ≡ k → l ≡ sums_at radius m d k
sums-to radius m d n k l e q = e ∙ ap (λ (i : ℕ). sums_at radius m d i) q

-- ---- the narrowed sums
pub put-none : (d : ℕ) (sums l : List Float) → BlockPut d 0 sums l l
put-none d sums l = record { on = λ g h. continued-begin (25 * d) g l }

pub put-more : (d n : ℕ) (sums l l' : List Float) (v : Float) → n < 25 → BlockPut d n sums l l' → v ≡ convert binary32 (entry sums n) → BlockPut d (n + 1) sums l (set l' (25 * d + n) v)
put-more d n sums l l' v h c p = record { on = λ g k. continued-next (25 * d) n g l l' v (c.on g k) (p ∙ k n h) }

pub put_all : (d n : ℕ) (sums l l' : List Float) → n ≡ 25 → BlockPut d n sums l l' → BlockPut d 25 sums l l'
put_all d n sums l l' e c = subst (λ (k : ℕ). BlockPut d k sums l l') e c

pub shift-put : (radius : ℕ) (m : List Float) (d y : ℕ) (sums l l' : List Float) → y ≡ side radius → sums ≡ sums_at radius m d (y * side radius) → BlockPut d 25 sums l l'
    → Continued (25 * d) (25 * d + 25) (overlap_at radius m) l l'
unfolding sums_at overlap_entry
shift-put radius m d y sums l l' q e c =
    c.on (overlap_at radius m)
    (λ i h.
    ap (λ (z : List Float). convert binary32 (entry z i)) (e ∙ ap (λ (k : ℕ). sums_at radius m d (k * side radius)) q)
    ∙ ap (λ (z : Float). convert binary32 z) (get_d-tabulated 25 (sum_at radius m d (samples radius)) i nan h)
    ∙ ap (λ (k : ℕ). convert binary32 (overlap_entry radius m k (i / 5) (i % 5))) (let p : d ≡ (25 * d + i) / 25 = omega arith in p)
    ∙ ap (λ (k : ℕ). convert binary32 (overlap_entry radius m ((25 * d + i) / 25) k (i % 5))) (let p : i / 5 ≡ (25 * d + i) % 25 / 5 = omega arith in p)
    ∙ ap (λ (k : ℕ). convert binary32 (overlap_entry radius m ((25 * d + i) / 25) ((25 * d + i) % 25 / 5) k)) (let p : i % 5 ≡ (25 * d + i) % 5 = omega arith in p))

pub overlaps-all : (radius : ℕ) (m l l' l'' : List Float) (d : ℕ) → radius ≤ 7 → length l ≡ 225 → d ≡ 5 → Continued 0 (25 * d) (overlap_at radius m) l l' → Mirrored 225 l' l''
    → l'' ≡ overlap_of radius m
unfolding overlap_of
overlaps-all radius m l l' l'' d k h e c n =
    continued-whole 225 (overlap_at radius m) l l'' h
    (continued-on 0 125 225 (overlap_at radius m) l l' l'' (omega arith) (continued-to 0 (25 * d) 125 (overlap_at radius m) l l' (ap (λ (i : ℕ). 25 * i) e) c) (n.on (overlap_at radius m) (opposite-is radius m k)))

-- Laws of the list: one record more, the loop over all seeds, and a list of which no seed is accepted.
use mathlib.Core.Path.{◌≡◌, refl, sym, ap, ◌∙◌, subst}
use mathlib.Core.Bool.{false}
use mathlib.Core.List.{List, [], ◌∷◌, ◌++◌, append_assoc, append-nil}
use Prim.Native.Nat.{ℕ, zero, suc, ◌+◌, ◌-◌, ◌*◌, ◌/◌, ◌≤◌, ◌<◌}
use native.Mathlib.Nat.{le_trans, le_of_eq, add-zero}
use native.Mathlib.Numerals.{add-one}
use native.Mathlib.Omega.{arith}
use lib.ListN.{length, take, drop, length-append, length-drop, take-append-drop, drop_of_length-le}
use lib.Seq.{take_all, take_at, drop-append-add, drop-drop}
use lib.Ieee.{Float}
use Rattle.shapes.specs.Numbers.{entry}
use borrow.Rule.Slice.PartMut.{mid_of, put_mid}
use Rattle.corners.specs.declared.Corner.{Corner}
use Rattle.corners.specs.Corners.{corner, flat, recorded}
use Rattle.corners.proofs.CornerLaws.{recorded-parts}
use Rattle.imageview.specs.Image.{Image}
use Rattle.refine_formulas.specs.declared.SaddlePointConfig.{SaddlePointConfig}
use Rattle.refine_seed.specs.declared.Spot.{Spot}
use Rattle.std.specs.Prelude.{Option, Some, None}
use Rattle.refine_seed.specs.Refine.{refine_lent, refine_of}
use Rattle.refine_seed.specs.Spot.{spot_of}
use Rattle.refine_seed.specs.StepsSpot.{Lands}
use Rattle.refine_list.specs.Refining.{record_of, spot_for, lent_for, records_by}
use Rattle.refine_list.specs.Steps.{Front, Usable, Going}

-- ---- one record
-- a corner written to the front of what stands behind the first w numbers
written_at : (l : List Float) (w : ℕ) (c : Corner) → w + 3 ≤ length l → put_mid w (length l - w) l (recorded (mid_of w (length l - w) l) 0 c) ≡ take w l ++ (flat (c ∷ []) ++ drop (w + 3) l)
written_at l w c h =
    ap (λ (t : List Float). take w l ++ (recorded t 0 c ++ drop (length l - w) (drop w l))) (take_all (length l - w) (drop w l) (le_of_eq (length-drop w l)))
    ∙ ap (λ (t : List Float). take w l ++ (recorded (drop w l) 0 c ++ t)) (drop_of_length-le (drop w l) (le_of_eq (length-drop w l)))
    ∙ ap (λ (t : List Float). take w l ++ t) (append-nil (recorded (drop w l) 0 c) ∙ recorded-parts (drop w l) 0 c (omega (arith, length-drop w l)))
    ∙ ap (λ (t : List Float). take w l ++ (flat (c ∷ []) ++ t)) (drop-drop 3 w l)

-- what a spot writes
abbrev Puts : List Float → ℕ → Option Spot → Float → ℕ → List Float → Type 0
Puts l w p s n l' = (n ≡ w + length (record_of p s)) × (l' ≡ take w l ++ (record_of p s ++ drop (w + length (record_of p s)) l))

pub puts : (l : List Float) (w : ℕ) (p : Option Spot) (v : Spot) (s : Float) (part : List Float) → p ≡ Some v → w + 3 ≤ length l → part ≡ recorded (mid_of w (length l - w) l) 0 (corner v.x v.y s) → Puts l w p s (w + 3) (put_mid w (length l - w) l part)
puts l w p v s part e h f =
    subst (λ (q : Option Spot). Puts l w q s (w + 3) (put_mid w (length l - w) l part)) (sym e) (refl, ap (put_mid w (length l - w) l) f ∙ written_at l w (corner v.x v.y s) h)

pub puts_none : (l : List Float) (w : ℕ) (p : Option Spot) (s : Float) → p ≡ None → Puts l w p s w l
puts_none l w p s e = subst (λ (q : Option Spot). Puts l w q s w l) (sym e) (sym (add-zero w), sym (ap (λ (k : ℕ). take w l ++ drop k l) (add-zero w) ∙ take-append-drop w l))

record-most : (p : Option Spot) (s : Float) → length (record_of p s) ≤ 3
record-most (Some v) s = omega arith
record-most None s = omega arith

-- ---- a list of anything that stands in the front of another
-- so many more behind it
pub front-more : {A : Type 0} (l r out now after : List A) (w : ℕ) → w ≡ length l → now ≡ l ++ drop (length l) out → after ≡ take w now ++ (r ++ drop (w + length r) now) → after ≡ (l ++ r) ++ drop (length (l ++ r)) out
front-more {A} l r out now after w c e f =
    f
    ∙ ap (λ (n : List A). take w n ++ (r ++ drop (w + length r) n)) e
    ∙ ap (λ (k : ℕ). take k (l ++ drop (length l) out) ++ (r ++ drop (k + length r) (l ++ drop (length l) out))) c
    ∙ ap (λ (n : List A). n ++ (r ++ drop (length l + length r) (l ++ drop (length l) out))) (take_at l (drop (length l) out) (length l) refl)
    ∙ ap (λ (n : List A). l ++ (r ++ n)) (drop-append-add l (drop (length l) out) (length r) ∙ drop-drop (length r) (length l) out)
    ∙ sym (append_assoc l r (drop (length l + length r) out))
    ∙ ap (λ (k : ℕ). (l ++ r) ++ drop k out) (sym (length-append l r))

pub front_long : {A : Type 0} (l out now : List A) → now ≡ l ++ drop (length l) out → length l ≤ length out → length now ≡ length out
front_long l out now e h =
    ap length e ∙ length-append l (drop (length l) out) ∙ ap (λ (k : ℕ). length l + k) (length-drop (length l) out) ∙ whole (length l) (length out) h
  where
    whole : (a b : ℕ) → a ≤ b → a + (b - a) ≡ b
    whole a b h = omega arith

-- ---- the loop
module _ (spots : ℕ → Option Spot) (corners out : List Float) where
  pub begins : Going spots corners out 0 0 out
  unfolding records_by
  begins = record { count = refl; leaves = refl; most = omega arith }

  longer : (i : ℕ) (p : Option Spot) → p ≡ spots i → records_by spots corners i ++ record_of p (entry corners (3 * i + 2)) ≡ records_by spots corners (i + 1)
  unfolding records_by
  longer i p e = ap (λ (q : Option Spot). records_by spots corners i ++ record_of q (entry corners (3 * i + 2))) e ∙ ap (records_by spots corners) (sym (add-one i))

  module _ (i w : ℕ) (now : List Float) (g : Going spots corners out i w now) (p : Option Spot) (e : p ≡ spots i) where
    abbrev recs : List Float
    recs = records_by spots corners i

    abbrev rec : List Float
    rec = record_of p (entry corners (3 * i + 2))

    length-longer : length (records_by spots corners (i + 1)) ≡ length recs + length rec
    length-longer = ap length (sym (longer i p e)) ∙ length-append recs rec

    pub goes_on : (w' : ℕ) (after : List Float) → w' ≡ w + length rec → after ≡ take w now ++ (rec ++ drop (w + length rec) now) → Going spots corners out (i + 1) w' after
    goes_on w' after q r =
        record {
          count = q ∙ ap (λ (k : ℕ). k + length rec) g.count ∙ sym length-longer;
          leaves = front-more recs rec out now after w g.count g.leaves r ∙ ap (λ (l : List Float). l ++ drop (length l) out) (longer i p e);
          most = subst (λ (k : ℕ). k ≤ 3 * (i + 1)) (sym length-longer) (let m : length rec ≤ 3 = record-most p (entry corners (3 * i + 2)) in more (length recs) (length rec) i g.most m);
        }
      where
        more : (a b i : ℕ) → a ≤ 3 * i → b ≤ 3 → a + b ≤ 3 * (i + 1)
        more a b i h k = omega arith

  -- the output is as long as before, and has room for a record
  pub as_long : (i w : ℕ) (now : List Float) → Going spots corners out i w now → 3 * i ≤ length out → length now ≡ length out
  as_long i w now g h = front_long (records_by spots corners i) out now g.leaves (le_trans g.most h)

  pub room : (i w : ℕ) (now : List Float) → Going spots corners out i w now → i < length corners / 3 → length corners ≤ length out → w + 3 ≤ length now
  room i w now g h l = fits w (length (records_by spots corners i)) i (length corners) (length out) (length now) g.count g.most h l (as_long i w now g (below i (length corners) (length out) h l))
    where
      below : (i a b : ℕ) → i < a / 3 → a ≤ b → 3 * i ≤ b
      below i a b h l = omega arith

      fits : (w r i a b n : ℕ) → w ≡ r → r ≤ 3 * i → i < a / 3 → a ≤ b → n ≡ b → w + 3 ≤ n
      fits w r i a b n e m h l q = omega arith

  pub ends : (i w : ℕ) (now : List Float) → Going spots corners out i w now → i ≡ length corners / 3 → Front (records_by spots corners (length corners / 3)) out w now
  ends i w now g e = subst (λ (k : ℕ). Front (records_by spots corners k) out w now) e (record { count = g.count; leaves = g.leaves })

  -- ---- none accepted
  none : ((i : ℕ) → spots i ≡ None) → (n : ℕ) → records_by spots corners n ≡ []
  unfolding records_by
  none h zero = refl
  none h (suc n) = ap (λ (p : Option Spot). records_by spots corners n ++ record_of p (entry corners (3 * n + 2))) (h n) ∙ append-nil (records_by spots corners n) ∙ none h n

  pub empty : ((i : ℕ) → spots i ≡ None) → Front (records_by spots corners (length corners / 3)) out 0 out
  empty h = subst (λ (l : List Float). Front l out 0 out) (sym (none h (length corners / 3))) (record { count = refl; leaves = refl })

-- ---- a seed with columns that are lent
pub spot-lent : (img : Image) (cfg : SaddlePointConfig) (columns corners : List Float) (i : ℕ) (p : Option Spot) → Lands (λ overlap wanted. refine_lent img cfg (entry corners (3 * i)) (entry corners (3 * i + 1)) wanted columns overlap) p → p ≡ lent_for img cfg columns corners i
unfolding lent_for
spot-lent img cfg columns corners i p l = l.is [] false

-- as good as with the operator, where they serve
pub lent-is : (img : Image) (cfg : SaddlePointConfig) (columns corners : List Float) (i : ℕ) → Usable cfg columns → lent_for img cfg columns corners i ≡ spot_for img cfg corners i
unfolding lent_for spot_for
lent-is img cfg columns corners i u = ap spot_of (u.same img (entry corners (3 * i)) (entry corners (3 * i + 1)) false)

-- ---- without an operator
pub nowhere : (img : Image) (cfg : SaddlePointConfig) (corners : List Float) → ((x y : Float) → spot_of (refine_of img cfg x y false) ≡ None) → (i : ℕ) → spot_for img cfg corners i ≡ None
unfolding spot_for
nowhere img cfg corners h i = h (entry corners (3 * i)) (entry corners (3 * i + 1))

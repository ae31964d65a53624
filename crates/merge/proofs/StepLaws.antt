-- One corner, all corners and the packed list, over the corners in the flat list.
use mathlib.Core.Path.{◌≡◌, refl, sym, ap, ◌∙◌}
use mathlib.Core.Bool.{Bool, true, false, cond}
use mathlib.Core.List.{List, ◌++◌}
use Prim.Native.Nat.{ℕ, ◌+◌, ◌-◌, ◌*◌, ◌≤◌, ◌<◌}
use native.Mathlib.Numerals.{add-one}
use native.Mathlib.Omega.{arith}
use lib.ListN.{length, get_or, set, take, drop, replicate, drop_of_length-le}
use lib.Seq.{length-take-le, get_or-take, take-set-lt, drop-set-lt, take-suc-set, set-get_or, drop-cons}
use lib.Ieee.{Float, lt}
use Rattle.shapes.specs.Numbers.{plus_zero}
use Rattle.corners.proofs.CornerLaws.{length-corners, corner-at, take-flat}
use Rattle.corners.specs.Corners.{corners_of, flat, nowhere, corner_at}
use Rattle.corners.specs.declared.Corner.{Corner}
use Rattle.merge.specs.Fold.{stronger, after_corner, place_of, merge_from, merged}
use Rattle.merge.specs.Steps.{lowest_below, Stepped, Passed, Packed}
use Rattle.merge.proofs.LowestLaws.{lowest-same}
use Rattle.merge.proofs.FoldLaws.{after-hit, after_none, place-lowest}

module _ (meets : Corner → Corner → Bool) (l : List Corner) (i count met : ℕ) (new : Corner)
    (here : corner_at l i ≡ new) (order : count ≤ i) (within : i < length l) (found : met ≡ lowest_below (λ j. meets new (corner_at l j)) count count) where
  counted : length (take count l) ≡ count
  counted = length-take-le count l (omega arith)

  kept_at : (j : ℕ) → j < count → corner_at (take count l) j ≡ corner_at l j
  kept_at j h = get_or-take count l j nowhere h

  -- where the corner goes
  goes : place_of meets new (take count l) ≡ met
  goes =
      place-lowest meets new (take count l)
      ∙ ap (λ (n : ℕ). lowest_below (λ j. meets new (corner_at (take count l) j)) n n) counted
      ∙ lowest-same (λ j. meets new (corner_at (take count l) j)) (λ j. meets new (corner_at l j)) count count (λ j h. ap (meets new) (kept_at j h))
      ∙ sym found

  rest_of : (j : ℕ) → j ≤ i → drop (i + 1) (set l j new) ≡ drop (i + 1) l
  rest_of j h = drop-set-lt (i + 1) l j new (omega arith)

  met-place : met < count → after_corner meets (corner_at l i) (take count l) ≡ set (take count l) met (stronger new (corner_at l met))
  met-place h =
      ap (λ (c : Corner). after_corner meets c (take count l)) here
      ∙ after-hit meets new (take count l) (omega (arith, goes, counted))
      ∙ ap (λ (p : ℕ). set (take count l) p (stronger new (corner_at (take count l) p))) goes
      ∙ ap (λ (k : Corner). set (take count l) met (stronger new k)) (kept_at met h)

  pub step_replaces : met < count → lt (corner_at l met).strength new.strength ≡ true → (after : List Corner) → after ≡ set l met new → Stepped meets i count l after count
  step_replaces h weak after e =
      record {
        kept = ap (take count) e ∙ take-set-lt count l met new h ∙ ap (λ (b : Bool). set (take count l) met (cond b new (corner_at l met))) (sym weak) ∙ sym (met-place h);
        rest = ap (drop (i + 1)) e ∙ rest_of met (omega arith);
        no_more_than_read = omega arith;
      }

  pub step_stays : met < count → lt (corner_at l met).strength new.strength ≡ false → Stepped meets i count l l count
  step_stays h strong =
      record {
        kept =
            sym (set-get_or (take count l) met nowhere)
            ∙ ap (λ (k : Corner). set (take count l) met k) (kept_at met h)
            ∙ ap (λ (b : Bool). set (take count l) met (cond b new (corner_at l met))) (sym strong)
            ∙ sym (met-place h);
        rest = refl;
        no_more_than_read = omega arith;
      }

  pub step_adds : count ≤ met → (after : List Corner) → after ≡ set l count new → Stepped meets i count l after (count + 1)
  step_adds h after e =
      record {
        kept =
            ap (take (count + 1)) e
            ∙ ap (λ (n : ℕ). take n (set l count new)) (add-one count)
            ∙ take-suc-set l count new (omega arith)
            ∙ sym (ap (λ (c : Corner). after_corner meets c (take count l)) here ∙ after_none meets new (take count l) (omega (arith, goes, counted)));
        rest = ap (drop (i + 1)) e ∙ rest_of count order;
        no_more_than_read = omega arith;
      }

-- the corners that are left, merged into the kept ones, are what they were
pub pass_turn :
    {meets : Corner → Corner → Bool} {i count : ℕ} {before after : List Corner} {count' : ℕ} → i < length before
    → Stepped meets i count before after count'
    → merge_from meets (take count' after) (drop (i + 1) after) ≡ merge_from meets (take count before) (drop i before)
unfolding merge_from
pass_turn {meets} {i} {count} {before} {after} {count'} h s =
    ap (λ (k : List Corner). merge_from meets k (drop (i + 1) after)) s.kept
    ∙ ap (merge_from meets (after_corner meets (corner_at before i) (take count before))) (s.rest ∙ ap (λ (n : ℕ). drop n before) (add-one i))
    ∙ ap (merge_from meets (take count before)) (sym (drop-cons before i nowhere h))

pub pass_start : (meets : Corner → Corner → Bool) (l : List Corner) → merge_from meets (take 0 l) (drop 0 l) ≡ merged meets l
unfolding merged
pass_start meets l = refl

pub pass_end : (meets : Corner → Corner → Bool) (i count : ℕ) (l : List Corner) → length l ≤ i → take count l ≡ merge_from meets (take count l) (drop i l)
unfolding merge_from
pass_end meets i count l h = ap (merge_from meets (take count l)) (sym (drop_of_length-le l {i = i} h))

-- the kept corners, then zeros
pub fill_kept :
    {meets : Corner → Corner → Bool} {list list' list'' : List Float} {count : ℕ} → Passed meets list count list'
    → length list' ≡ length list → list'' ≡ take (3 * count) list' ++ replicate (length list' - 3 * count) plus_zero
    → Packed list (merged meets (corners_of list)) count list''
fill_kept {meets} {list} {list'} {list''} {count} p same e =
    let t = p.there in
    let n : count ≡ length (merged meets (corners_of list)) = sym (length-take-le count (corners_of list') (omega (arith, length-corners list'))) ∙ ap length p.kept in
    record {
      counts = n;
      holds =
          e
          ∙ ap (λ (l : List Float). l ++ replicate (length list' - 3 * count) plus_zero) (take-flat list' count (omega arith) ∙ ap flat p.kept)
          ∙ ap (λ (k : ℕ). flat (merged meets (corners_of list)) ++ replicate (k - 3 * count) plus_zero) same
          ∙ ap (λ (k : ℕ). flat (merged meets (corners_of list)) ++ replicate (length list - 3 * k) plus_zero) n;
    }

-- ---- the same, over the flat list
module _ (meets : Corner → Corner → Bool) (list : List Float) (i count met : ℕ) (d : Float) (new : Corner) (here : new ≡ corner_at (corners_of list) i) (order : count ≤ i) (room : 3 * i + 2 < length list)
    (found : met ≡ lowest_below (λ j. meets new (corner_at (corners_of list) j)) count count) where
  inside : i < length (corners_of list)
  inside = omega (arith, length-corners list)

  weaker : (b : Bool) → met < count → lt (get_or list (3 * met + 2) d) new.strength ≡ b → lt (corner_at (corners_of list) met).strength new.strength ≡ b
  weaker b h e = ap (λ (k : Corner). lt k.strength new.strength) (corner-at list met d (omega arith)) ∙ e

  pub replaces :
      met < count → lt (get_or list (3 * met + 2) d) new.strength ≡ true → (after : List Corner)
      → after ≡ set (corners_of list) met new → Stepped meets i count (corners_of list) after count
  replaces h weak = step_replaces meets (corners_of list) i count met new (sym here) order inside found h (weaker true h weak)

  pub stays : met < count → lt (get_or list (3 * met + 2) d) new.strength ≡ false → Stepped meets i count (corners_of list) (corners_of list) count
  stays h strong = step_stays meets (corners_of list) i count met new (sym here) order inside found h (weaker false h strong)

  pub adds : count ≤ met → (after : List Corner) → after ≡ set (corners_of list) count new → Stepped meets i count (corners_of list) after (count + 1)
  adds h = step_adds meets (corners_of list) i count met new (sym here) order inside found h

-- The public call's tests one after the other, and what each way leaves behind.
use mathlib.Core.Path.{◌≡◌, refl, sym, ap, ◌∙◌, subst}
use mathlib.Core.Bool.{true, false, not, cond}
use mathlib.Core.List.{List, ◌++◌}
use Prim.Native.Nat.{ℕ, ◌*◌, ◌≤◌, ◌<◌}
use lib.Dec.{ltb}
use lib.ListN.{length, get_or, take, drop, replicate, get_or-replicate, length-replicate, get_or-append}
use lib.Seq.{length-take-le, length_front}
use lib.Ieee.{Float, binary32, mul}
use borrow.Author.Tests.{lt-ltb, le-ltb}
use Rattle.corners.specs.declared.Corner.{Corner}
use Rattle.std.specs.Prelude.{Result, Ok, Err}
use Rattle.refusals.specs.declared.Refusal.{Refusal}
use Rattle.refusals.specs.declared.Refusal.TheVariants.{GridTooBig}
use Rattle.merge.specs.declared.Cells.{Cells}
use Rattle.merge.specs.declared.Extent.{Extent}
use Rattle.merge.specs.Meets.{Box, box_of, finite_box, inverse, along, cell_along, grid_of, cells_across, cells_down, neighbours, plain_meets, grid_meets}
use Rattle.merge.specs.Fold.{merged}
use Rattle.merge.specs.Call.{Way, refused, scanned, gridded, merging_way, grid_heads, most_heads}
use Rattle.merge.specs.Steps.{as_box, cells_over, column_in, row_in, total, meets_in, Roomy, Packed, Left}

-- ---- the merge and its heads, by the box and the cells that the code works with
module _ (radius : Float) (l : List Corner) (e : Extent) (same : as_box e ≡ box_of l) where
  cells_count : cells_across (grid_of radius l) * cells_down (grid_of radius l) ≡ total (cells_over e radius)
  cells_count = ap (λ (b : Box). along (inverse radius) b.min_x b.max_x * along (inverse radius) b.min_y b.max_y) (sym same)

  grid_rule : (r2 : Float) → merged (grid_meets (grid_of radius l) r2) l ≡ merged (meets_in (cells_over e radius) r2) l
  unfolding column_in row_in cell_along neighbours
  grid_rule r2 = ap (λ (b : Box). merged (grid_meets (record { box = b; inv = inverse radius }) r2) l) (sym same)

  module _ {A : Type 0} (most : ℕ) (plain big grid : A) where
    abbrev boxed : A
    boxed = cond (not (finite_box (box_of l))) plain (cond (ltb most (cells_across (grid_of radius l) * cells_down (grid_of radius l))) big grid)

    box_plain : finite_box (as_box e) ≡ false → boxed ≡ plain
    box_plain f = rw (← same, f)

    box_big : finite_box (as_box e) ≡ true → most < total (cells_over e radius) → boxed ≡ big
    box_big f m = rw (cells_count, ← same, f, lt-ltb most (total (cells_over e radius)) m)

    box_grid : finite_box (as_box e) ≡ true → total (cells_over e radius) ≤ most → boxed ≡ grid
    box_grid f m = rw (cells_count, ← same, f, le-ltb most (total (cells_over e radius)) m)

  module _ (heads : ℕ) where
    abbrev r2 : Float
    r2 = mul binary32 radius radius

    abbrev gridded_way : Way
    gridded_way = gridded (merged (grid_meets (grid_of radius l) r2) l)

    pub way_plain : finite_box (as_box e) ≡ false → merging_way l radius heads ≡ scanned (merged (plain_meets r2) l)
    unfolding merging_way
    way_plain = box_plain heads (scanned (merged (plain_meets r2) l)) (refused GridTooBig) gridded_way

    pub way_big : finite_box (as_box e) ≡ true → heads < total (cells_over e radius) → merging_way l radius heads ≡ refused GridTooBig
    unfolding merging_way
    way_big = box_big heads (scanned (merged (plain_meets r2) l)) (refused GridTooBig) gridded_way

    pub way_grid : finite_box (as_box e) ≡ true → total (cells_over e radius) ≤ heads → merging_way l radius heads ≡ gridded (merged (meets_in (cells_over e radius) r2) l)
    unfolding merging_way
    way_grid f m = box_grid heads (scanned (merged (plain_meets r2) l)) (refused GridTooBig) gridded_way f m ∙ ap gridded (grid_rule r2)

  pub heads_plain : finite_box (as_box e) ≡ false → grid_heads l radius ≡ Ok 0
  unfolding grid_heads
  heads_plain = box_plain most_heads (Ok 0) (Err GridTooBig) (Ok (cells_across (grid_of radius l) * cells_down (grid_of radius l)))

  pub heads_big : finite_box (as_box e) ≡ true → most_heads < total (cells_over e radius) → grid_heads l radius ≡ Err GridTooBig
  unfolding grid_heads
  heads_big = box_big most_heads (Ok 0) (Err GridTooBig) (Ok (cells_across (grid_of radius l) * cells_down (grid_of radius l)))

  pub heads_grid : finite_box (as_box e) ≡ true → total (cells_over e radius) ≤ most_heads → grid_heads l radius ≡ Ok (total (cells_over e radius))
  unfolding grid_heads
  heads_grid f m = box_grid most_heads (Ok 0) (Err GridTooBig) (Ok (cells_across (grid_of radius l) * cells_down (grid_of radius l))) f m ∙ ap Ok cells_count

-- ---- what is left behind
pub left_by :
    {way way' : Way} {list : List Float} {heads links : List ℕ} {r : Result ℕ Refusal} {list' : List Float} {heads' links' : List ℕ} → way ≡ way'
    → Left way' list heads links r list' heads' links' → Left way list heads links r list' heads' links'
left_by {list} {heads} {links} {r} {list'} {heads'} {links'} e = subst (λ (w : Way). Left w list heads links r list' heads' links') (sym e)

pub left_plain :
    {kept : List Corner} {list : List Float} {heads links : List ℕ} {count : ℕ} {list' : List Float} → Packed list kept count list'
    → Left (scanned kept) list heads links (Ok count) list' heads links
left_plain f = record { answers = ap Ok f.counts; leaves-list = f.holds; leaves-heads = refl; leaves-links = refl }

pub left_grid :
    {kept : List Corner} {list : List Float} {heads links : List ℕ} {count : ℕ} {list' : List Float} {heads' links' : List ℕ}
    → Packed list kept count list' → heads' ≡ replicate (length heads) 0 → links' ≡ replicate (length links) 0
    → Left (gridded kept) list heads links (Ok count) list' heads' links'
left_grid f h l = record { answers = ap Ok f.counts; leaves-list = f.holds; leaves-heads = h; leaves-links = l }

-- the heads of the grid, cleared
module _ {g : Cells} {heads front : List ℕ} (r : Roomy g heads) (clear : front ≡ replicate (length (take (total g) heads)) 0) where
  front_length : length front ≡ total g
  front_length = ap length clear ∙ length-replicate (length (take (total g) heads)) 0 ∙ length-take-le (total g) heads r.room

  pub cleared_length : length (front ++ drop (total g) heads) ≡ length heads
  cleared_length = length_front heads front (total g) (front_length ∙ sym (length-take-le (total g) heads r.room))

  pub cleared_roomy : Roomy g (front ++ drop (total g) heads)
  cleared_roomy = record { wide = r.wide; high = r.high; room = subst (λ (n : ℕ). total g ≤ n) (sym cleared_length) r.room }

  pub cleared_zero : (c : ℕ) → c < total g → get_or (front ++ drop (total g) heads) c 0 ≡ 0
  cleared_zero c h =
      get_or-append front (drop (total g) heads) 0 c (subst (λ (n : ℕ). c < n) (sym front_length) h)
      ∙ ap (λ (l : List ℕ). get_or l c 0) clear
      ∙ get_or-replicate (length (take (total g) heads)) c 0 0 (subst (λ (n : ℕ). c < n) (sym (length-take-le (total g) heads r.room)) h)

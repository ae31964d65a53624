-- What the steps below the public call promise each other. Kept corners are named by their numbers, from 0.
-- Each cell's kept corners form a chain from the highest number down: heads holds one more than the cell's highest number, links one more than
-- the next lower number of the same cell, and 0 ends a chain. So both follow from the cells of the kept corners alone.
use Rattle.std.specs.Prelude.{◌≡◌, Bool, ◌&&◌, cond, List, map, ℕ, zero, suc, ◌+◌, ◌-◌, ◌*◌, ◌/◌, ◌≤◌, ◌<◌, min, eqb, ltb, length, get_or, set, take, drop, Float, Result}
use Rattle.std.specs.Float.{binary32}
use Rattle.std.specs.Float.Ieee.{sub, mul, to_unsigned}
use Rattle.shapes.specs.Numbers.{plus_zero}
use Rattle.corners.specs.Corners.{corners_of, corner_at, corner}
use Rattle.corners.specs.declared.Corner.{Corner}
use Rattle.refusals.specs.declared.Refusal.{Refusal}
use Rattle.merge.specs.declared.Disc.{Disc}
use Rattle.merge.specs.declared.Cells.{Cells}
use Rattle.merge.specs.declared.Chains as Lent
use Rattle.merge.specs.declared.Extent.{Extent}
use Rattle.merge.specs.Meets.{near, touch, Box, inverse, along}
use Rattle.merge.specs.Fold.{after_corner, merged}
use Rattle.merge.specs.Call.{Way, answer_of, list_after, scratch_after, packed}

-- ---- whom a place meets; the strength does not matter there
abbrev pub point : Float → Float → Corner
point a b = corner a b plus_zero

-- whether corner j of a flat list lies in a disc
unfoldable pub within : Disc → List Float → ℕ → Bool
unfolding near
within d list j = near d.r2 (point d.x d.y) (corner_at (corners_of list) j)

abbrev pub pick : Disc → List Float → ℕ → ℕ → ℕ
pick d list j best = cond (within d list j && ltb j best) j best

-- ---- the lesser of `best` and the lowest number below n that passes a test
unfoldable pub lowest_below : (ℕ → Bool) → ℕ → ℕ → ℕ
lowest_below test zero best = best
lowest_below test (suc n) best = lowest_below test n (cond (test n && ltb n best) n best)

-- ---- chains
-- one more than the highest number below n that lies in cell c; 0 where none does
unfoldable pub top : List ℕ → ℕ → ℕ → ℕ
top cs c zero = zero
top cs c (suc n) = cond (eqb (get_or cs n 0) c) (suc n) (top cs c n)

abbrev pub Nexts : ℕ → List ℕ → List ℕ → Type 0
Nexts most cs links = (j : ℕ) → j < length cs → get_or cs j 0 < most → get_or links j 0 ≡ top cs (get_or cs j 0) j

-- of the cells `cs` of the kept corners; a corner whose cell is none, `most`, is in no chain
pub record Chains (most : ℕ) (cs heads links : List ℕ) : Type 0 where
  pub tops : (c : ℕ) → c < most → get_or heads c 0 ≡ top cs c (length cs)
  pub nexts : Nexts most cs links

-- chains stand in the same heads and links, whatever was written in them
pub record StillLent (old new : Lent.Chains) : Type 0 where
  pub same_heads : new.heads.ghost_name ≡ old.heads.ghost_name
  pub same_links : new.links.ghost_name ≡ old.links.ghost_name
  pub as_many_heads : length new.heads.now ≡ length old.heads.now
  pub as_many_links : length new.links.now ≡ length old.links.now

-- a chain from `start` on ends: from `low` on each link is lower than its number
pub record Falling (links : List ℕ) (low start : ℕ) : Type 0 where
  pub room : start ≤ length links
  pub falls : (j : ℕ) → low ≤ j → j < start → get_or links j 0 ≤ j

-- corners that lie in cell c and pass a test
abbrev pub in_cell : List ℕ → ℕ → (ℕ → Bool) → ℕ → Bool
in_cell cs c test j = eqb (get_or cs j 0) c && test j

-- what a walk finds, whatever cell the chain is of
abbrev pub Walked : List Float → List ℕ → ℕ → Disc → ℕ → ℕ → Type 0
Walked list links start d best r =
    (most c : ℕ) (cs : List ℕ) → Nexts most cs links → c < most → start ≡ top cs c (length cs) → r ≡ lowest_below (in_cell cs c (within d list)) (length cs) best

-- r is the lowest number of a chain above j
pub record Above (links : List ℕ) (start j r : ℕ) : Type 0 where
  pub above : j < r
  pub below : r < start
  pub low : get_or links r 0 ≤ j + 1
  pub on : (most c : ℕ) (cs : List ℕ) → Nexts most cs links → c < most → start ≡ top cs c (length cs) → get_or cs r 0 ≡ c

-- corner j stands in the chain of cell c
pub record Member (heads links : List ℕ) (c j : ℕ) : Type 0 where
  pub cell : c < length heads
  pub own : j < length links
  pub high : j < get_or heads c 0
  pub falling : Falling links (j + 1) (get_or heads c 0)

abbrev pub Unlinked : List ℕ → List ℕ → ℕ → ℕ → List ℕ → List ℕ → Type 0
Unlinked heads links c j heads' links' =
    (most : ℕ) (cs : List ℕ) → Chains most cs heads links → c < most → j < length cs → get_or cs j 0 ≡ c → Chains most (set cs j most) heads' links'

-- corner j does not stand in the chain of cell c, and its number can be written
pub record Joinable (heads links : List ℕ) (c j : ℕ) : Type 0 where
  pub cell : c < length heads
  pub own : j < length links
  pub small : j < 4096
  pub absent : get_or heads c 0 ≡ j + 1 → ⊥
  pub falling : Falling links (j + 1) (get_or heads c 0)

abbrev pub Linked : List ℕ → List ℕ → ℕ → ℕ → List ℕ → List ℕ → Type 0
Linked heads links c j heads' links' =
    (most : ℕ) (cs : List ℕ) → Chains most cs heads links → c < most → j < length cs → get_or cs j 0 ≡ most → Chains most (set cs j c) heads' links'

-- ---- the box, and the cells of the grid over it
abbrev pub as_box : Extent → Box
as_box e = record { min_x = e.left; min_y = e.top; max_x = e.right; max_y = e.bottom }

abbrev pub cells_over : Extent → Float → Cells
cells_over e radius = record { left = e.left; top = e.top; inv = inverse radius; across = along (inverse radius) e.left e.right; down = along (inverse radius) e.top e.bottom }

unfoldable pub column_in : Cells → Float → ℕ
column_in g v = min (to_unsigned 64 (mul binary32 (sub binary32 v g.left) g.inv)) (g.across - 1)

unfoldable pub row_in : Cells → Float → ℕ
row_in g v = min (to_unsigned 64 (mul binary32 (sub binary32 v g.top) g.inv)) (g.down - 1)

-- cells are numbered by rows
abbrev pub cell_in : Cells → Corner → ℕ
cell_in g k = row_in g k.y * g.across + column_in g k.x

abbrev pub total : Cells → ℕ
total g = g.across * g.down

-- the cells of the first n corners
abbrev pub cells_of : Cells → List Float → ℕ → List ℕ
cells_of g list n = map (cell_in g) (take n (corners_of list))

-- the grid's rule of meeting, by these cells
abbrev pub meets_in : Cells → Float → Corner → Corner → Bool
meets_in g r2 c k = touch (column_in g c.x) (column_in g k.x) && touch (row_in g c.y) (row_in g k.y) && near r2 c k

pub record Roomy (g : Cells) (heads : List ℕ) : Type 0 where
  pub wide : 0 < g.across
  pub high : 0 < g.down
  pub room : total g ≤ length heads

-- the first n corners are kept, and stand in the chains of their cells
pub record Chained (g : Cells) (list : List Float) (n : ℕ) (heads links : List ℕ) : Type 0 where
  pub roomy : Roomy g heads
  pub linked : n ≤ length links
  pub there : 3 * n ≤ length list
  pub chains : Chains (total g) (cells_of g list n) heads links

-- corner j is one of some first corners that are kept
abbrev pub Among : Cells → List Float → ℕ → List ℕ → List ℕ → Type 0
Among g list j heads links = (n : ℕ) × Chained g list n heads links × (j < n)

-- ---- what is looked for in one cell, in the three of a row, and in all nine; a column or a row is one more than the cell's where it is one of several
abbrev pub column_at : Cells → List Float → ℕ → ℕ
column_at g list j = column_in g (corner_at (corners_of list) j).x

abbrev pub row_at : Cells → List Float → ℕ → ℕ
row_at g list j = row_in g (corner_at (corners_of list) j).y

abbrev pub in_one_cell : Cells → List Float → Disc → ℕ → ℕ → ℕ → Bool
in_one_cell g list d column row j = eqb (column_at g list j + 1) column && eqb (row_at g list j) row && within d list j

abbrev pub in_three_cells : Cells → List Float → Disc → ℕ → ℕ → ℕ → Bool
in_three_cells g list d column row j = touch column (column_at g list j) && eqb (row_at g list j + 1) row && within d list j

abbrev pub in_nine_cells : Cells → List Float → Disc → ℕ → ℕ → ℕ → Bool
in_nine_cells g list d column row j = touch column (column_at g list j) && touch row (row_at g list j) && within d list j

-- ---- cells that are noted, to be walked in their order
-- the lowest number that the first k noted cells have in the disc, of the first n corners, or `best` where that is lower
unfoldable pub lowest_noted : Cells → List Float → ℕ → Disc → List ℕ → ℕ → ℕ → ℕ
lowest_noted g list n d notes zero best = best
lowest_noted g list n d notes (suc k) best = lowest_below (in_cell (cells_of g list n) (get_or notes k 0) (within d list)) n (lowest_noted g list n d notes k best)

-- the first k notes are cells of the grid
pub record Noted (g : Cells) (notes : List ℕ) (k : ℕ) : Type 0 where
  pub room : k ≤ length notes
  pub inside : (i : ℕ) → i < k → get_or notes i 0 < total g

-- at most `most` cells more are noted, and what they have in the disc is what passes a test
pub record NotedMore (most : ℕ) (g : Cells) (heads : List ℕ) (test : List Float → Disc → ℕ → Bool) (notes : List ℕ) (k : ℕ) (notes' : List ℕ) (k' : ℕ) : Type 0 where
  pub few : k' ≤ k + most
  pub noted : Noted g notes' k'
  pub finds : (list : List Float) (n : ℕ) (links : List ℕ) → Chained g list n heads links → (d : Disc) (best : ℕ) → lowest_noted g list n d notes' k' best ≡ lowest_below (test list d) n (lowest_noted g list n d notes k best)

-- some grid's first corners are kept, and k of its cells are noted
abbrev pub SomeNoted : List Float → List ℕ → List ℕ → List ℕ → ℕ → Type 0
SomeNoted list heads links notes k = (g : Cells) × (n : ℕ) × Chained g list n heads links × Noted g notes k

-- what the walks find, whatever grid it is
abbrev pub Sought : List Float → List ℕ → List ℕ → List ℕ → ℕ → Disc → ℕ → ℕ → Type 0
Sought list heads links notes k d best r =
    (g : Cells) (n : ℕ) → Chained g list n heads links → Noted g notes k → r ≡ lowest_noted g list n d notes k best

-- ---- one corner, all corners, and the whole merge
-- corner i found its place among the first `count`
pub record Stepped (meets : Corner → Corner → Bool) (i count : ℕ) (before after : List Corner) (count' : ℕ) : Type 0 where
  pub kept : take count' after ≡ after_corner meets (corner_at before i) (take count before)
  pub rest : drop (i + 1) after ≡ drop (i + 1) before
  pub no_more_than_read : count' ≤ i + 1

pub record Passed (meets : Corner → Corner → Bool) (list : List Float) (count : ℕ) (list' : List Float) : Type 0 where
  pub kept : take count (corners_of list') ≡ merged meets (corners_of list)
  pub there : 3 * count ≤ length list

pub record Packed (list : List Float) (kept : List Corner) (count : ℕ) (list' : List Float) : Type 0 where
  pub counts : count ≡ length kept
  pub holds : list' ≡ packed list kept

-- few enough corners, and a link for each
pub record Few (list : List Float) (links : List ℕ) : Type 0 where
  pub few : length list / 3 ≤ 4096
  pub linked : length list / 3 ≤ length links

-- what a way answers and leaves behind
pub record Left (way : Way) (list : List Float) (heads links : List ℕ) (answer : Result ℕ Refusal) (list' : List Float) (heads' links' : List ℕ) : Type 0 where
  pub answers : answer ≡ answer_of list way
  pub leaves-list : list' ≡ list_after list way
  pub leaves-heads : heads' ≡ scratch_after heads way
  pub leaves-links : links' ≡ scratch_after links way

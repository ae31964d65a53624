-- The public call: the tests of docs/RULES.md in their order (`way_of`), what each way answers, and what it leaves in the three lent buffers.
-- No refusal writes. Last how many heads a merge wants (`heads_of`). The plain scan and a list or radius that needs no merging leave heads and links as they were; a grid merge leaves both all zero.
use Rattle.std.specs.Prelude.{◌≡◌, Bool, not, ◌||◌, cond, List, ◌++◌, ℕ, ◌-◌, ◌*◌, ◌/◌, eqb, ltb, length, replicate, Float, Result, Ok, Err}
use Rattle.std.specs.Float.{binary32}
use Rattle.std.specs.Float.Ieee.{mul, le}
use Rattle.std.specs.Float.Ieee.Scale.{finite}
use Rattle.shapes.specs.Numbers.{plus_zero}
use Rattle.corners.specs.Corners.{whole, too_many, corners_of, flat}
use Rattle.corners.specs.declared.Corner.{Corner}
use Rattle.refusals.specs.declared.Refusal.{Refusal}
use Rattle.refusals.specs.declared.Refusal.TheVariants.{BadLength, TooMany, BadScratch, GridTooBig}
use Rattle.refusals.specs.Numbers as Refusals
use Rattle.merge.specs.Meets.{box_of, finite_box, grid_of, cells_across, cells_down, plain_meets, grid_meets}
use Rattle.merge.specs.Fold.{merged}

-- the number of each answer, of either call; 0 is done
abbrev pub number_of : Result ℕ Refusal → ℕ
number_of (Ok n) = 0
number_of (Err r) = Refusals.number_of r

pub data Way : Type 0 where
  refused : Refusal → Way
  unmerged : Way
  scanned : List Corner → Way
  gridded : List Corner → Way

-- a radius that merges nothing: NaN, infinite or at most zero
abbrev pub idle : Float → Bool
idle radius = not (finite radius) || le radius plus_zero

unfoldable pub merging_way : List Corner → Float → ℕ → Way
merging_way l radius heads =
    let g = grid_of radius l in
    let r2 = mul binary32 radius radius in
    cond (not (finite_box (box_of l))) (scanned (merged (plain_meets r2) l))
    (cond (ltb heads (cells_across g * cells_down g)) (refused GridTooBig)
    (gridded (merged (grid_meets g r2) l)))

unfoldable pub way_of : List Float → Float → ℕ → ℕ → Way
unfolding merging_way
way_of list radius heads links =
    cond (not (whole (length list))) (refused BadLength)
    (cond (too_many (length list)) (refused TooMany)
    (cond (ltb links (length list / 3)) (refused BadScratch)
    (cond (eqb (length list) 0 || idle radius) unmerged
    (merging_way (corners_of list) radius heads))))

abbrev pub answer_of : List Float → Way → Result ℕ Refusal
answer_of list (refused r) = Err r
answer_of list unmerged = Ok (length list / 3)
answer_of list (scanned kept) = Ok (length kept)
answer_of list (gridded kept) = Ok (length kept)

-- the kept corners, and +0.0 in the freed tail
abbrev pub packed : List Float → List Corner → List Float
packed list kept = flat kept ++ replicate (length list - 3 * length kept) plus_zero

abbrev pub list_after : List Float → Way → List Float
list_after list (refused r) = list
list_after list unmerged = list
list_after list (scanned kept) = packed list kept
list_after list (gridded kept) = packed list kept

-- of heads and of links
abbrev pub scratch_after : List ℕ → Way → List ℕ
scratch_after s (refused r) = s
scratch_after s unmerged = s
scratch_after s (scanned kept) = s
scratch_after s (gridded kept) = replicate (length s) 0

pub record Done (list : List Float) (radius : Float) (heads links : List ℕ) (answer : Result ℕ Refusal) (list' : List Float) (heads' links' : List ℕ) : Type 0 where
  pub answers : answer ≡ answer_of list (way_of list radius (length heads) (length links))
  pub leaves-list : list' ≡ list_after list (way_of list radius (length heads) (length links))
  pub leaves-heads : heads' ≡ scratch_after heads (way_of list radius (length heads) (length links))
  pub leaves-links : links' ≡ scratch_after links (way_of list radius (length heads) (length links))

-- ---- how many heads a merge wants: one a cell of its grid, none where it has no grid
-- the greatest count of 64 bits
abbrev pub most_heads : ℕ
most_heads = 18446744073709551615

unfoldable pub grid_heads : List Corner → Float → Result ℕ Refusal
grid_heads l radius =
    let g = grid_of radius l in
    cond (not (finite_box (box_of l))) (Ok 0)
    (cond (ltb most_heads (cells_across g * cells_down g)) (Err GridTooBig)
    (Ok (cells_across g * cells_down g)))

unfoldable pub heads_of : List Float → Float → Result ℕ Refusal
unfolding grid_heads
heads_of list radius =
    cond (not (whole (length list))) (Err BadLength)
    (cond (too_many (length list)) (Err TooMany)
    (cond (eqb (length list) 0 || idle radius) (Ok 0)
    (grid_heads (corners_of list) radius)))

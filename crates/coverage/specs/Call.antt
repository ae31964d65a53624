-- The calls that keep a summary beside a list of corners: afresh, adding, replacing, dropping. The tests in their order, the answer and what is left in the lent list and counts.
-- The counts may hold anything: each call decides them all the same. No refusal writes.
use Rattle.std.specs.Prelude.{◌≡◌, not, cond, Result, Ok, Err, List, ℕ, ◌+◌, ◌-◌, ◌*◌, ltb, length, get_or, set, Float}
use Rattle.shapes.specs.Lists.{tabulated}
use Rattle.shapes.specs.Numbers.{plus_zero, entry}
use Rattle.corners.specs.Corners.{most_corners, corner, recorded}
use Rattle.imageview.specs.Image.{is_size}
use Rattle.refusals.specs.declared.Refusal.{Refusal}
use Rattle.refusals.specs.declared.Refusal.TheVariants.{BadImage, TooMany, NoSuchCorner}
use Rattle.refusals.specs.Numbers as Refusals
use Rattle.coverage.specs.Tiles.{tile_of, tile_at}
use Rattle.coverage.specs.Summary.{summary}

abbrev pub number_of : Result ℕ Refusal → ℕ
number_of (Ok n) = 0
number_of (Err r) = Refusals.number_of r

-- ---- one more in a tile, 65,535 stays; one less, 0 stays
abbrev pub more : List ℕ → ℕ → List ℕ
more counts t = set counts t (cond (ltb (get_or counts t 0) 65535) (get_or counts t 0 + 1) 65535)

abbrev pub less : List ℕ → ℕ → List ℕ
less counts t = set counts t (get_or counts t 0 - 1)

-- ---- corner k of n dropped: the later ones move down by one, and the record that is freed is +0.0
unfoldable pub dropped : ℕ → ℕ → List Float → List Float
unfolding tabulated
dropped n k list =
    tabulated (length list)
    (λ i. cond (ltb i (3 * k)) (entry list i)
    (cond (ltb i (3 * (n - 1))) (entry list (i + 3))
    (cond (ltb i (3 * n)) plus_zero (entry list i))))

-- ---- how a call goes: refused, or with the list, its count and the counts that it leaves
pub data Way : Type 0 where
  refused : Refusal → Way
  kept : List Float → ℕ → List ℕ → Way

-- the tests of every call: the size, and a count that the list cannot have
abbrev pub tested : ℕ → ℕ → ℕ → Way → Way
tested width height n rest = cond (not (is_size width height)) (refused BadImage) (cond (ltb most_corners n) (refused TooMany) rest)

abbrev pub in_list : ℕ → ℕ → Way → Way
in_list k n rest = cond (ltb k n) rest (refused NoSuchCorner)

abbrev pub fresh_way : ℕ → ℕ → List Float → ℕ → Way
fresh_way width height list n = tested width height n (kept list n (summary width height list n))

abbrev pub add_way : ℕ → ℕ → List Float → ℕ → List ℕ → Float → Float → Float → Way
add_way width height list n counts x y s =
    tested width height (n + 1) (kept (recorded list n (corner x y s)) (n + 1) (more counts (tile_of width height x y)))

abbrev pub replace_way : ℕ → ℕ → List Float → ℕ → List ℕ → ℕ → Float → Float → Float → Way
replace_way width height list n counts k x y s =
    tested width height n
    (in_list k n (kept (recorded list k (corner x y s)) n (more (less counts (tile_at width height list k)) (tile_of width height x y))))

abbrev pub drop_way : ℕ → ℕ → List Float → ℕ → List ℕ → ℕ → Way
drop_way width height list n counts k =
    tested width height n (in_list k n (kept (dropped n k list) (n - 1) (less counts (tile_at width height list k))))

abbrev pub answer_of : Way → Result ℕ Refusal
answer_of (refused r) = Err r
answer_of (kept list n counts) = Ok n

abbrev pub list_after : List Float → Way → List Float
list_after old (refused r) = old
list_after old (kept list n counts) = list

abbrev pub counts_after : List ℕ → Way → List ℕ
counts_after old (refused r) = old
counts_after old (kept list n counts) = counts

pub record Done (way : Way) (list : List Float) (counts : List ℕ) (answer : Result ℕ Refusal) (list' : List Float) (counts' : List ℕ) : Type 0 where
  pub answers : answer ≡ answer_of way
  pub leaves-list : list' ≡ list_after list way
  pub leaves-counts : counts' ≡ counts_after counts way

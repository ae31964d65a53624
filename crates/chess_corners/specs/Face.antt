-- The exported face: each function returns the number of the wrapped call's answer, 0 where it is done, and writes its further answers
-- through references only then; tying writes the place at fault with 33 and 34, reading a graymap the pixel with 24. The lent buffers are as the wrapped call leaves them.
use Rattle.std.specs.Prelude.{◌≡◌, true, List, ℕ, ℤ, length, Float, Result, Ok, Err}
use Rattle.refusals.specs.declared.Refusal.{Refusal}
use Rattle.imageview.specs.Image.{Image}
use Rattle.response.specs.declared.Extent.{Extent}
use Rattle.response.specs.Region.{Region}
use Rattle.response.specs.Call as R
use Rattle.merge.specs.Call as M
use Rattle.refine_formulas.specs.declared.SaddlePointConfig.{SaddlePointConfig}
use Rattle.refine_list.specs.Refining as L
use Rattle.peaks.specs.Peak.{Scan}
use Rattle.peaks.specs.Call as P
use Rattle.board.specs.declared.Untied.{Untied}
use Rattle.board.specs.declared.Untied.TheVariants.{NoCorner, UsedTwice}
use Rattle.board.specs.Call as B
use Rattle.graymap.specs.declared.Unread.TheVariants.{Above, Refused}
use Rattle.graymap.specs.Call as G
use Rattle.salvage.specs.declared.Saved.{Saved}
use Rattle.salvage.specs.Call as S
use Rattle.coverage.specs.Call as C
use Rattle.gradient.specs.Call as D
use Rattle.chess_corners.specs.Told.{number_of, count_after}

-- ---- the response: the clamped width and height
abbrev pub width_after : ℕ → Result Extent Refusal → ℕ
width_after old (Ok e) = e.width
width_after old (Err r) = old

abbrev pub height_after : ℕ → Result Extent Refusal → ℕ
height_after old (Ok e) = e.height
height_after old (Err r) = old

pub record Responded (img : Image) (ring : List ℤ) (radius : ℕ) (r : Region) (out : List Float) (w h : ℕ) (number : ℕ) (out' : List Float) (w' h' : ℕ) : Type 0 where
  pub says : number ≡ number_of (R.answer_of (R.way_of img ring radius r (length out)))
  pub leaves : out' ≡ R.out_after img ring radius out (R.way_of img ring radius r (length out))
  pub width : w' ≡ width_after w (R.answer_of (R.way_of img ring radius r (length out)))
  pub height : h' ≡ height_after h (R.answer_of (R.way_of img ring radius r (length out)))

-- ---- the merge: the count of kept corners
pub record Merging (list : List Float) (radius : Float) (heads links : List ℕ) (count : ℕ) (number : ℕ) (list' : List Float) (heads' links' : List ℕ) (count' : ℕ) : Type 0 where
  pub says : number ≡ number_of (M.answer_of list (M.way_of list radius (length heads) (length links)))
  pub leaves-list : list' ≡ M.list_after list (M.way_of list radius (length heads) (length links))
  pub leaves-heads : heads' ≡ M.scratch_after heads (M.way_of list radius (length heads) (length links))
  pub leaves-links : links' ≡ M.scratch_after links (M.way_of list radius (length heads) (length links))
  pub counts : count' ≡ count_after count (M.answer_of list (M.way_of list radius (length heads) (length links)))

-- ---- the heads that a merge wants
pub record Wanting (list : List Float) (radius : Float) (heads : ℕ) (number : ℕ) (heads' : ℕ) : Type 0 where
  pub says : number ≡ number_of (M.heads_of list radius)
  pub tells : heads' ≡ count_after heads (M.heads_of list radius)

-- ---- refining a list: the count of records written
pub record Refining (img : Image) (cfg : SaddlePointConfig) (corners out : List Float) (count : ℕ) (number : ℕ) (out' : List Float) (count' : ℕ) : Type 0 where
  pub says : number ≡ number_of (L.answer_of (L.way_of img cfg corners (length out)))
  pub leaves : out' ≡ L.out_after out (L.way_of img cfg corners (length out))
  pub counts : count' ≡ count_after count (L.answer_of (L.way_of img cfg corners (length out)))

-- ---- peaks: their count
pub record Scanning (s : Scan) (out : List Float) (count : ℕ) (number : ℕ) (out' : List Float) (count' : ℕ) : Type 0 where
  pub says : number ≡ number_of (P.answer_of (P.way_of s (length out)))
  pub leaves : out' ≡ P.out_after s out (P.way_of s (length out))
  pub counts : count' ≡ count_after count (P.answer_of (P.way_of s (length out)))

-- ---- tying corners to places: the place at fault
abbrev pub place_after : ℕ → Result Unit Untied → ℕ
place_after old (Ok done) = old
place_after old (Err (NoCorner k)) = k
place_after old (Err (UsedTwice k)) = k
place_after old (Err (Untied.Refused r)) = old

pub record Tying (rows columns : ℕ) (places : List Float) (limit : Float) (list : List Float) (answers : List ℕ) (place : ℕ) (number : ℕ) (answers' : List ℕ) (place' : ℕ) : Type 0 where
  pub says : number ≡ B.number_of (B.answer_of (B.way_of rows columns places limit list (length answers)))
  pub leaves : answers' ≡ B.answers_after answers (B.way_of rows columns places limit list (length answers))
  pub names : place' ≡ place_after place (B.answer_of (B.way_of rows columns places limit list (length answers)))

-- ---- reading a graymap: its sizes, its maximum and where its pixels begin; the pixel above the maximum
pub record Facts : Type 0 where
  pub width : ℕ
  pub height : ℕ
  pub maximum : ℕ
  pub start : ℕ
  pub pixel : ℕ

abbrev pub facts_after : Facts → G.Reading → Facts
facts_after old (Ok g) = record { width = g.width; height = g.height; maximum = g.maximum; start = g.start; pixel = old.pixel }
facts_after old (Err (Above k)) = record { width = old.width; height = old.height; maximum = old.maximum; start = old.start; pixel = k }
facts_after old (Err (Refused r)) = old

pub record Reading (answer : G.Reading) (old : Facts) (number : ℕ) (new : Facts) : Type 0 where
  pub says : number ≡ G.number_of answer
  pub facts : new ≡ facts_after old answer

-- a deep one: its samples too
pub record ReadingDeep (file out : List ℕ) (old : Facts) (number : ℕ) (out' : List ℕ) (new : Facts) : Type 0 where
  pub tells : Reading (G.room_for (length out) (G.read_of true file)) old number new
  pub leaves : out' ≡ G.out_after file out (G.room_for (length out) (G.read_of true file))

-- ---- salvaging a corner file: how many records were kept and how many dropped
abbrev pub kept_after : ℕ → Result Saved Refusal → ℕ
kept_after old (Ok s) = s.kept
kept_after old (Err r) = old

abbrev pub dropped_after : ℕ → Result Saved Refusal → ℕ
dropped_after old (Ok s) = s.dropped
dropped_after old (Err r) = old

pub record Salvaging (width height : ℕ) (file out faults : List ℕ) (kept dropped : ℕ) (number : ℕ) (out' faults' : List ℕ) (kept' dropped' : ℕ) : Type 0 where
  pub says : number ≡ number_of (S.answer_of (S.way_of width height file (length out) (length faults)))
  pub leaves-out : out' ≡ S.out_after out (S.way_of width height file (length out) (length faults))
  pub leaves-faults : faults' ≡ S.faults_after faults (S.way_of width height file (length out) (length faults))
  pub keeps : kept' ≡ kept_after kept (S.answer_of (S.way_of width height file (length out) (length faults)))
  pub drops : dropped' ≡ dropped_after dropped (S.answer_of (S.way_of width height file (length out) (length faults)))

-- ---- coverage: the count of the list, which adding and dropping change
pub record Covering (way : C.Way) (list : List Float) (counts : List ℕ) (count : ℕ) (number : ℕ) (list' : List Float) (counts' : List ℕ) (count' : ℕ) : Type 0 where
  pub says : number ≡ number_of (C.answer_of way)
  pub leaves-list : list' ≡ C.list_after list way
  pub leaves-counts : counts' ≡ C.counts_after counts way
  pub holds : count' ≡ count_after count (C.answer_of way)

-- ---- the gradient at a cell
pub record Grading (a : D.Asked) (grid : List Float) (number : ℕ) (grid' : List Float) : Type 0 where
  pub says : number ≡ number_of (D.way_of a (length grid))
  pub leaves : grid' ≡ D.grid_left a grid (D.way_of a (length grid))

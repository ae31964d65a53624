-- The whole road, from an image to a corner for each place of the board: five calls in their order, each lent what the one before left, and what may be claimed
-- of the answers where the last of them is accepted. The proof is in proofs/WholeRoad.antt.
-- Which fault is shut out where: response and peaks, that a corner starts from a pixel without a cross-like mark (N of its pixel is above zero); refining, that it comes
-- from anywhere but such a pixel; merging, that it is averaged or made up (it is one of the refined list, bit for bit); tying, that one is missing or serves two places.
use Rattle.std.specs.Prelude.{◌≡◌, true, List, ℕ, ◌*◌, ◌<◌, ℤ, pos, get_or, take, Float, Ok, Some}
use Rattle.std.specs.Float.{binary32}
use Rattle.std.specs.Float.Ieee.{of_int}
use Rattle.imageview.specs.Image.{Image}
use Rattle.corners.specs.declared.Corner.{Corner}
use Rattle.corners.specs.Corners.{corners_of, corner_at}
use Rattle.corners.specs.Corners as C
use Rattle.response.specs.Call as R
use Rattle.response.specs.Demand.{PixelsBelow}
use Rattle.peaks.specs.Peak.{Scan, value_at, is_peak}
use Rattle.peaks.specs.Call as P
use Rattle.refine_formulas.specs.declared.SaddlePointConfig.{SaddlePointConfig}
use Rattle.refine_list.specs.Refining.{spot_for}
use Rattle.refine_list.specs.Refining as L
use Rattle.merge.specs.Call as M
use Rattle.board.specs.Call as B
use Rattle.board_theorems.specs.Claims.{Serves}
use Rattle.theorems.specs.Claims.{whole, Positive}

-- what the caller chooses
pub record Settings : Type 0 where
  pub ring : List ℤ
  pub radius : ℕ
  pub window : ℕ
  pub refine : ℕ
  pub threshold : Float
  pub cluster : ℕ
  pub fit : SaddlePointConfig
  pub within : Float
  pub rows : ℕ
  pub columns : ℕ
  pub places : List Float
  pub limit : Float

-- the response of the whole image, scanned for peaks
abbrev pub scan_of : Settings → Image → List Float → Scan
scan_of s img values = record { values = values; width = img.width; height = img.height; ring = s.radius; window = s.window; refine = s.refine; threshold = s.threshold; cluster = s.cluster }

-- the first n records of a buffer
abbrev pub records : ℕ → List Float → List Float
records n list = take (3 * n) list

-- what the calls leave: the response, and buffers with so many peaks, refined and merged corners in front; last the answers
pub record Left : Type 0 where
  pub values : List Float
  pub peaks : ℕ
  pub scanned : List Float
  pub refined : ℕ
  pub moved : List Float
  pub merged : ℕ
  pub kept : List Float
  pub answers : List ℕ

-- Each call did its work, whatever its buffers held before.
pub record Road (s : Settings) (img : Image) (left : Left) : Type 0 where
  pub bytes : PixelsBelow 256 img
  pub out : List Float
  pub width : ℕ
  pub height : ℕ
  pub responded : R.Done img s.ring s.radius (whole img) out (Ok (record { width = width; height = height })) left.values
  pub peaks_out : List Float
  pub peaked : P.Done (scan_of s img left.values) peaks_out (Ok left.peaks) left.scanned
  pub refine_out : List Float
  pub refining : L.Done img s.fit (records left.peaks left.scanned) refine_out (Ok left.refined) left.moved
  pub heads : List ℕ
  pub heads' : List ℕ
  pub links : List ℕ
  pub links' : List ℕ
  pub merging : M.Done (records left.refined left.moved) s.within heads links (Ok left.merged) left.kept heads' links'
  pub answers_before : List ℕ
  pub tying : B.Done s.rows s.columns s.places s.limit (records left.merged left.kept) answers_before (Ok tt) left.answers

-- the corner that place k was given
abbrev pub given : Left → ℕ → Corner
given left k = corner_at (corners_of (records left.merged left.kept)) (get_or left.answers k 0)

-- and where it comes from
pub record Traced (s : Settings) (img : Image) (left : Left) (k : ℕ) : Type 0 where
  -- it is a corner of the merged list: the nearest to its place, and within the limit
  pub serves : Serves s.places s.limit (records left.merged left.kept) k (get_or left.answers k 0)
  pub listed : get_or left.answers k 0 < left.merged
  -- it is a corner of the refined list, bit for bit
  pub corner : ℕ
  pub refined : corner < left.refined
  pub same : given left k ≡ corner_at (corners_of (records left.refined left.moved)) corner
  -- it was refined from a peak, which stands on its pixel
  pub seed : ℕ
  pub seeded : seed < left.peaks
  pub moved : spot_for img s.fit (records left.peaks left.scanned) seed ≡ Some (record { x = (given left k).x; y = (given left k).y })
  pub x : ℕ
  pub y : ℕ
  pub peak : is_peak (scan_of s img left.values) x y ≡ true
  pub stands : corner_at (corners_of (records left.peaks left.scanned)) seed ≡ C.corner (of_int binary32 (pos x)) (of_int binary32 (pos y)) (value_at (scan_of s img left.values) x y)
  -- its strength is the written value of that pixel, whose N is above zero
  pub strength : (given left k).strength ≡ value_at (scan_of s img left.values) x y
  pub positive : Positive img s.ring x y

abbrev pub WholeRoad : Type 0
WholeRoad =
    (s : Settings) (img : Image) (left : Left) → Road s img left
    → ((k : ℕ) → k < B.inner_corners s.rows s.columns → Traced s img left k)
    × ((k m : ℕ) → k < B.inner_corners s.rows s.columns → m < B.inner_corners s.rows s.columns → get_or left.answers k 0 ≡ get_or left.answers m 0 → k ≡ m)

-- What each call of the whole road leaves, where it did its work: the response demand 3, peaks and refining their records, merging corners of the list that it
-- was lent, tying the corners of its way.
use mathlib.Core.Path.{◌≡◌, refl, sym, ap, ◌∙◌, subst}
use mathlib.Core.Bool.{Bool, true, false, not, ◌&&◌, cond}
use mathlib.Core.List.{List}
use Prim.Native.Nat.{ℕ, ◌-◌, ◌*◌, ◌/◌, ◌<◌, min}
use native.Mathlib.Nat.{zero-min, min-eq_left, le_refl}
use native.Mathlib.Omega.{arith}
use lib.Dec.{leb, ltb, eqb}
use lib.IntN.{ℤ}
use lib.ListN.{length, drop, replicate}
use lib.Seq.{take_at, take_all}
use lib.Ieee.{Float}
use lib.Ieee.Scale.{finite}
use Rattle.std.specs.Prelude.{Result, Ok}
use Rattle.shapes.proofs.ListLaws.{length-tabulated}
use Rattle.shapes.specs.Numbers.{plus_zero}
use Rattle.refusals.specs.declared.Refusal.{Refusal}
use Rattle.refusals.specs.declared.Refusal.TheVariants.{BadImage, BadSample, BadRadius, BadRing, EmptyRoi, BadLimit, BadLength, TooMany, BadOut}
use Rattle.corners.proofs.CornerLaws.{length-flat, corners-flat}
use Rattle.imageview.specs.Image.{Image, is_image, in_range, sizes_fit}
use Rattle.corners.specs.declared.Corner.{Corner}
use Rattle.corners.specs.Corners.{too_many, corners_of, flat, corner_at}
use Rattle.corners.specs.Corners as C
use Rattle.response.specs.Region.{Region, clamped, is_empty, width_of, height_of, ring_within, written}
use Rattle.response.specs.Demand.{PixelsBelow, DemandThree}
use Rattle.response.specs.Call as R
use Rattle.response.proofs.DemandThree.{bytes-keep}
use Rattle.peaks.specs.Peak.{Scan}
use Rattle.peaks.specs.Call as P
use Rattle.peaks.proofs.ChosenLaws.{records-length}
use Rattle.refine_formulas.specs.declared.SaddlePointConfig.{SaddlePointConfig}
use Rattle.refine_seed.specs.Refine.{good_limits}
use Rattle.refine_list.specs.Refining as L
use Rattle.merge.specs.Call as M
use Rattle.merge.specs.Claims.{Source}
use Rattle.merge_theorems.proofs.Clinics.{gridded-promised, scanned-promised}
use Rattle.board.specs.Call as B
use Rattle.theorems.specs.Claims.{whole}
use Rattle.theorems.specs.WholeRoad.{records}
use Rattle.theorems.proofs.PixelLaws.{Clear, area-is}
use Rattle.theorems.proofs.RecordLaws.{Each, whole-records, Peaked, peak-records, Moved, refined-records}

-- ---- a way through tests that refuse
data Goes {A : Type 0} (refused : Refusal → A) (past w : A) : Type 0 where
  through : w ≡ past → Goes refused past w
  stopped : (r : Refusal) → w ≡ refused r → Goes refused past w

test : {A : Type 0} {refused : Refusal → A} {past w : A} (b : Bool) (r : Refusal) → Goes refused past w → Goes refused past (cond b (refused r) w)
test true r g = stopped r refl
test false r g = g

-- what is answered is no refusal
passed : {A D : Type 0} {refused : Refusal → A} {past w : A} (answer_of : A → D) {answer : D} → Goes refused past w → answer ≡ answer_of w → ((r : Refusal) → answer ≡ answer_of (refused r) → ⊥) → w ≡ past
passed answer_of (through p) e never = p
passed answer_of (stopped r p) e never = absurd (never r (e ∙ ap answer_of p))

-- ---- the response, of the whole image
abbrev region : ℕ → ℕ → ℕ → ℕ → Region
region a b c d = record { x0 = a; y0 = b; x1 = c; y1 = d }

whole-clamped : (img : Image) → clamped img (whole img) ≡ whole img
whole-clamped img =
    ap (λ (a : ℕ). region a (min 0 img.height) (min img.width img.width) (min img.height img.height)) (zero-min img.width)
    ∙ ap (λ (b : ℕ). region 0 b (min img.width img.width) (min img.height img.height)) (zero-min img.height)
    ∙ ap (λ (c : ℕ). region 0 0 c (min img.height img.height)) (min-eq_left (le_refl img.width))
    ∙ ap (λ (d : ℕ). region 0 0 img.width d) (min-eq_left (le_refl img.height))

module _ {img : Image} {ring : List ℤ} {radius : ℕ} {out : List Float} {width height : ℕ} {values : List Float} (d : R.Done img ring radius (whole img) out (Ok (record { width = width; height = height })) values) where
  response-tests : Goes R.refused (R.wrote (clamped img (whole img))) (R.way_of img ring radius (whole img) (length out))
  unfolding R.way_of
  response-tests =
      test (not (is_image img)) BadImage
      (test (not (in_range img)) BadSample
      (test (not (leb 1 radius && leb radius 10)) BadRadius
      (test (not (ring_within radius ring)) BadRing
      (test (is_empty (whole img)) EmptyRoi
      (test (not (eqb (length out) (width_of (clamped img (whole img)) * height_of (clamped img (whole img))))) BadOut
      (through refl))))))

  responds : R.way_of img ring radius (whole img) (length out) ≡ R.wrote (whole img)
  responds = passed R.answer_of response-tests d.answers (λ r e. let z : ◌≡◌ {A = ℕ} 0 1 = cc in omega arith) ∙ ap R.wrote (whole-clamped img)

  pub sized : {x y : ℕ} → Clear img radius x y → length values ≡ img.height * img.width
  unfolding written
  sized c = ap length (d.leaves ∙ ap (R.out_after img ring radius out) responds) ∙ length-tabulated (width_of (whole img) * height_of (whole img)) _ ∙ area-is c

  pub keeps : PixelsBelow 256 img → DemandThree 256 img ring radius (whole img) values
  keeps b = bytes-keep img ring radius (whole img) (whole img) out (Ok (record { width = width; height = height })) values b d responds

-- ---- the peaks: each record is that of a pixel
module _ {s : Scan} {out : List Float} {n : ℕ} {out' : List Float} (d : P.Done s out (Ok n) out') where
  peak-tests : Goes P.refused (P.found (P.peaks_of s)) (P.way_of s (length out))
  unfolding P.way_of
  peak-tests =
      test (not (sizes_fit (length s.values) s.width s.height)) BadImage
      (test (not (P.radii_fit s)) BadRadius
      (test (not (finite s.threshold)) BadLimit
      (test (not (C.whole (length out))) BadLength
      (test (ltb (length out / 3) (length (P.peaks_of s))) TooMany
      (through refl)))))

  scans : P.way_of s (length out) ≡ P.found (P.peaks_of s)
  scans = passed P.answer_of peak-tests d.answers (λ r e. let z : ◌≡◌ {A = ℕ} 0 1 = cc in omega arith)

  pub scanned-records : Each (Peaked s) (records n out')
  unfolding P.peaks_of
  scanned-records = subst (Each (Peaked s)) (sym front) (peak-records s (s.width * s.height))
    where
      l : List ℕ
      l = P.peaks_of s

      count : n ≡ length l
      count = let e : ◌≡◌ {A = Result ℕ Refusal} (Ok n) (Ok (length l)) = d.answers ∙ ap P.answer_of scans in cc

      front : records n out' ≡ P.records_of s l
      front =
          ap (λ (t : List Float). records n t) (d.leaves ∙ ap (P.out_after s out) scans)
          ∙ take_at (P.records_of s l) (drop (3 * length l) out) (3 * n) (records-length s l ∙ ap (λ (k : ℕ). 3 * k) (sym count))

-- ---- refining: each record is that of a seed
module _ {img : Image} {cfg : SaddlePointConfig} {corners out : List Float} {m : ℕ} {out' : List Float} (d : L.Done img cfg corners out (Ok m) out') where
  abbrev recs : List Float
  recs = L.records_of img cfg corners (length corners / 3)

  refine-tests : Goes L.refused (L.wrote recs) (L.way_of img cfg corners (length out))
  unfolding L.way_of
  refine-tests =
      test (not (is_image img)) BadImage
      (test (not (in_range img)) BadSample
      (test (not (leb cfg.radius 7)) BadRadius
      (test (not (good_limits cfg)) BadLimit
      (test (not (C.whole (length corners))) BadLength
      (test (too_many (length corners)) TooMany
      (test (ltb (length out) (length corners)) BadOut
      (through refl)))))))

  refines : L.way_of img cfg corners (length out) ≡ L.wrote recs
  refines = passed L.answer_of refine-tests d.answers (λ r e. let z : ◌≡◌ {A = ℕ} 0 1 = cc in omega arith)

  pub moved-records : Each (Moved img cfg corners) (records m out')
  moved-records = subst (Each (Moved img cfg corners)) (sym front) kept
    where
      kept : Each (Moved img cfg corners) recs
      kept = refined-records img cfg corners (length corners / 3) (omega arith)

      count : m ≡ length recs / 3
      count = let e : ◌≡◌ {A = Result ℕ Refusal} (Ok m) (Ok (length recs / 3)) = d.answers ∙ ap L.answer_of refines in cc

      front : records m out' ≡ recs
      front =
          ap (λ (t : List Float). records m t) (d.leaves ∙ ap (L.out_after out) refines)
          ∙ take_at recs (drop (length recs) out) (3 * m) (whole-records kept ∙ ap (λ (k : ℕ). 3 * k) (sym count))

-- ---- merging: each corner is one of the lent ones
-- the corner number j of a list, found again in another
pub record Again (before after : List Corner) (j : ℕ) : Type 0 where
  pub from : ℕ
  pub within : from < length before
  pub same : corner_at after j ≡ corner_at before from

module _ {list : List Float} {radius : Float} {heads links : List ℕ} {c : ℕ} {list' : List Float} {heads' links' : List ℕ} (d : M.Done list radius heads links (Ok c) list' heads' links') (full : length list ≡ 3 * (length list / 3)) where
  abbrev way : M.Way
  way = M.way_of list radius (length heads) (length links)

  -- the front of a packed list
  packed-front : (kept : List Corner) → c ≡ length kept → list' ≡ M.packed list kept → corners_of (records c list') ≡ kept
  packed-front kept n e =
      ap (λ (t : List Float). corners_of (records c t)) e
      ∙ ap corners_of (take_at (flat kept) (replicate (length list - 3 * length kept) plus_zero) (3 * c) (length-flat kept ∙ ap (λ (k : ℕ). 3 * k) (sym n)))
      ∙ corners-flat kept

  from-source : (meets : Corner → Corner → Bool) (kept : List Corner) → c ≡ length kept → list' ≡ M.packed list kept
      → ((p : ℕ) → p < length kept → Source meets (corners_of list) kept p) → (j : ℕ) → j < length (corners_of (records c list')) → Again (corners_of list) (corners_of (records c list')) j
  from-source meets kept n e sources =
      subst (λ (l : List Corner). (j : ℕ) → j < length l → Again (corners_of list) l j) (sym (packed-front kept n e))
      (λ j h. let t = sources j h in record { from = t.from; within = t.within; same = t.same })

  pub merges : (j : ℕ) → j < length (corners_of (records c list')) → Again (corners_of list) (corners_of (records c list')) j
  merges = by way refl
    where
      by : (w : M.Way) → way ≡ w → (j : ℕ) → j < length (corners_of (records c list')) → Again (corners_of list) (corners_of (records c list')) j
      by (M.refused r) e = absurd (let q = d.answers ∙ ap (M.answer_of list) e in let z : ◌≡◌ {A = ℕ} 0 1 = cc in omega arith)
      by M.unmerged e =
          let n : c ≡ length list / 3 = let q = d.answers ∙ ap (M.answer_of list) e in cc in
          let q : records c list' ≡ list = ap (records c) (d.leaves-list ∙ ap (M.list_after list) e) ∙ take_all (3 * c) list (omega (arith, full)) in
          subst (λ (l : List Float). (j : ℕ) → j < length (corners_of l) → Again (corners_of list) (corners_of l) j) (sym q) (λ j h. record { from = j; within = h; same = refl })
      by (M.scanned kept) e =
          let p = scanned-promised list radius (length heads) (length links) kept e in
          from-source _ kept (let q = d.answers ∙ p.answers in cc) (d.leaves-list ∙ p.leaves) p.uninvented
      by (M.gridded kept) e =
          let p = gridded-promised list radius (length heads) (length links) kept e in
          from-source _ kept (let q = d.answers ∙ p.answers in cc) (d.leaves-list ∙ p.leaves) p.uninvented

-- ---- tying: the answers are the corners of the way
module _ {rows columns : ℕ} {places : List Float} {limit : Float} {list : List Float} {answers answers' : List ℕ} (d : B.Done rows columns places limit list answers (Ok tt) answers') where
  pub ties : B.way_of rows columns places limit list (length answers) ≡ B.tied answers'
  ties = by (B.way_of rows columns places limit list (length answers)) refl
    where
      by : (w : B.Way) → B.way_of rows columns places limit list (length answers) ≡ w → w ≡ B.tied answers'
      by (B.refused r) e = let q = d.says ∙ ap B.answer_of e in cc
      by (B.unmet k) e = let q = d.says ∙ ap B.answer_of e in cc
      by (B.shared k) e = let q = d.says ∙ ap B.answer_of e in cc
      by (B.tied l) e = ap B.tied (sym (d.leaves ∙ ap (B.answers_after answers) e))

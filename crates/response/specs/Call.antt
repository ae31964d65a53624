-- The public call: the tests of docs/RULES.md in their order, the answer, and what it leaves in the lent buffer. No refusal writes.
use Rattle.std.specs.Prelude.{◌≡◌, not, ◌&&◌, cond, List, ℕ, ◌*◌, leb, eqb, ℤ, length, Float, Result, Ok, Err}
use Rattle.imageview.specs.Image.{Image, is_image, in_range}
use Rattle.refusals.specs.declared.Refusal.{Refusal}
use Rattle.refusals.specs.declared.Refusal.TheVariants.{BadImage, BadSample, BadRadius, BadRing, EmptyRoi, BadOut}
use Rattle.refusals.specs.Numbers as Refusals
use Rattle.response.specs.declared.Roi.{Roi}
use Rattle.response.specs.declared.Extent.{Extent}
use Rattle.response.specs.Region.{Region, clamped, is_empty, width_of, height_of, written, ring_within}

-- the number of each case; 0 is done
abbrev pub number_of : Result Extent Refusal → ℕ
number_of (Ok e) = 0
number_of (Err r) = Refusals.number_of r

pub data Way : Type 0 where
  refused : Refusal → Way
  wrote : Region → Way

abbrev pub region_of : Roi → Region
region_of r = record { x0 = r.x0; y0 = r.y0; x1 = r.x1; y1 = r.y1 }

unfoldable pub way_of : Image → List ℤ → ℕ → Region → ℕ → Way
way_of img ring radius r room =
    let c = clamped img r in
    cond (not (is_image img)) (refused BadImage)
    (cond (not (in_range img)) (refused BadSample)
    (cond (not (leb 1 radius && leb radius 10)) (refused BadRadius)
    (cond (not (ring_within radius ring)) (refused BadRing)
    (cond (is_empty r) (refused EmptyRoi)
    (cond (not (eqb room (width_of c * height_of c))) (refused BadOut)
    (wrote c))))))

abbrev pub extent_of : Region → Extent
extent_of c = record { width = width_of c; height = height_of c }

abbrev pub answer_of : Way → Result Extent Refusal
answer_of (refused r) = Err r
answer_of (wrote c) = Ok (extent_of c)

abbrev pub out_after : Image → List ℤ → ℕ → List Float → Way → List Float
out_after img ring radius out (refused r) = out
out_after img ring radius out (wrote c) = written img ring radius c

pub record Done (img : Image) (ring : List ℤ) (radius : ℕ) (r : Region) (out : List Float) (answer : Result Extent Refusal) (out' : List Float) : Type 0 where
  pub answers : answer ≡ answer_of (way_of img ring radius r (length out))
  pub leaves : out' ≡ out_after img ring radius out (way_of img ring radius r (length out))

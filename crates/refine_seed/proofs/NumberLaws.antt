-- The numbers of answers: a refusal's is 10 or more, so it is none of those with which a seed stays where it is; and the old number of each.
use mathlib.Core.Path.{◌≡◌, sym, ap, ◌∙◌}
use mathlib.Core.Bool.{Bool, true, false, ◌&&◌, cond, and-false}
use Prim.Native.Nat.{ℕ, ◌≤◌}
use native.Mathlib.Omega.{arith}
use lib.Dec.{leb}
use borrow.Author.Tests.{lt-leb}
use Rattle.refusals.specs.declared.Refusal.{Refusal}
use Rattle.refusals.specs.declared.Refusal.TheVariants.{BadImage, BadRadius, BadLimit, BadRing, EmptyRoi, BadOut, TooMany, GridTooBig, BadScratch, BadLength, NoMagic, BadHeader, BadGraymapSize, TooShort, LeftOver, BadBoard, BadPlaces, BadList, NoSuchCorner, BadSample, BadBuffer}
use Rattle.refusals.specs.Numbers as Refusals
use Rattle.refine_seed.specs.Refine.{old_number}

pub from-ten : (r : Refusal) → 10 ≤ Refusals.number_of r
from-ten BadImage = omega arith
from-ten BadRadius = omega arith
from-ten BadLimit = omega arith
from-ten BadRing = omega arith
from-ten EmptyRoi = omega arith
from-ten BadOut = omega arith
from-ten TooMany = omega arith
from-ten GridTooBig = omega arith
from-ten BadScratch = omega arith
from-ten BadLength = omega arith
from-ten NoMagic = omega arith
from-ten BadHeader = omega arith
from-ten BadGraymapSize = omega arith
from-ten TooShort = omega arith
from-ten LeftOver = omega arith
from-ten BadBoard = omega arith
from-ten BadPlaces = omega arith
from-ten BadList = omega arith
from-ten NoSuchCorner = omega arith
from-ten BadSample = omega arith
from-ten BadBuffer = omega arith

-- ---- the old number
pub old-flawed : (n : ℕ) → (leb 5 n && leb n 7) ≡ true → 3 ≡ old_number n
old-flawed n h = ap (λ (b : Bool). cond b 3 n) (sym h)

pub old-other : (n : ℕ) → (leb 5 n && leb n 7) ≡ false → n ≡ old_number n
old-other n h = ap (λ (b : Bool). cond b 3 n) (sym h)

pub old-refusal : (r : Refusal) → Refusals.number_of r ≡ old_number (Refusals.number_of r)
old-refusal r =
    let n = Refusals.number_of r in
    old-other n (ap (λ (b : Bool). leb 5 n && b) (lt-leb n 7 (omega (arith, from-ten r))) ∙ and-false (leb 5 n))

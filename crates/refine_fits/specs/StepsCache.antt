-- The nine kept fits: what a slot holds, and that each is the fresh fit at its centre.
use Rattle.std.specs.Prelude.{◌≡◌, ◌⊎◌, List, [], ◌∷◌, ℕ, ◌+◌, ◌*◌, ◌%◌, ◌<◌, length, get_or, set, Float}
use Rattle.shapes.specs.Numbers.{entry}
use Rattle.imageview.specs.Image.{Image}
use Rattle.refine_fits.specs.declared.IntegerFits.{IntegerFits}
use Rattle.refine_fits.specs.declared.Looked.{Looked}
use Rattle.refine_fits.specs.Fit.{coefficients}

-- the fit in a slot, and its centre
abbrev pub fit_in : List Float → ℕ → List Float
fit_in coefs slot = entry coefs (5 * slot) ∷ entry coefs (5 * slot + 1) ∷ entry coefs (5 * slot + 2) ∷ entry coefs (5 * slot + 3) ∷ entry coefs (5 * slot + 4) ∷ []

abbrev pub centre_x : List ℕ → ℕ → ℕ
centre_x centres slot = get_or centres (2 * slot) 0

abbrev pub centre_y : List ℕ → ℕ → ℕ
centre_y centres slot = get_or centres (2 * slot + 1) 0

-- the arrays' lengths, and the count's bound
pub record Shaped (fits : IntegerFits) : Type 0 where
  pub centres : length fits.centres ≡ 18
  pub coefs : length fits.coefs ≡ 45
  pub count : fits.len < 18

pub record Kept (img : Image) (columns : List Float) (radius : ℕ) (fits : IntegerFits) : Type 0 where
  pub sized : Shaped fits
  pub fresh : (slot : ℕ) → slot < 9 → slot < fits.len → fit_in fits.coefs slot ≡ coefficients img columns radius (centre_x fits.centres slot) (centre_y fits.centres slot)

-- a cache that holds no fit is kept for every image and operator
pub record Fresh (fits : IntegerFits) : Type 0 where
  pub kept : (img : Image) (columns : List Float) (radius : ℕ) → Kept img columns radius fits

-- a slot in use whose centre is (x, y)
pub record Slot (centres : List ℕ) (len x y slot : ℕ) : Type 0 where
  pub small : slot < 9
  pub used : slot < len
  pub at_x : centre_x centres slot ≡ x
  pub at_y : centre_y centres slot ≡ y

-- ---- storing
abbrev pub named : List ℕ → ℕ → ℕ → ℕ → List ℕ
named centres slot x y = set (set centres (2 * slot) x) (2 * slot + 1) y

abbrev pub slotted : List Float → ℕ → List Float → List Float
slotted coefs slot fit = set (set (set (set (set coefs (5 * slot) (entry fit 0)) (5 * slot + 1) (entry fit 1)) (5 * slot + 2) (entry fit 2)) (5 * slot + 3) (entry fit 3)) (5 * slot + 4) (entry fit 4)

-- one fit more: each slot in use then was in use before, or is the one that is written
pub record Counted (len r : ℕ) : Type 0 where
  pub small : r < 18
  pub used : (slot : ℕ) → slot < 9 → slot < r → (slot < len) ⊎ (slot ≡ len % 9)

-- ---- a look-up
pub record Found (img : Image) (columns : List Float) (radius x y : ℕ) (r : Looked) : Type 0 where
  pub coefs : r.coefs ≡ coefficients img columns radius x y
  pub kept : Kept img columns radius r.fits

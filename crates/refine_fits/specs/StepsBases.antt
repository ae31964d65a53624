-- The fits about two bases in one flat list: where each stands, what holds of the bases, and what making one ready promises.
use Rattle.std.specs.Prelude.{◌≡◌, Option, Some, None, IfSome, List, [], ◌∷◌, ℕ, ◌+◌, ◌*◌, ◌-◌, ◌≤◌, pos, length, Float}
use Rattle.shapes.specs.Numbers.{entry}
use Rattle.imageview.specs.Image.{Image}
use Rattle.refine_formulas.specs.declared.Corners.{Corners}
use Rattle.refine_patch.specs.declared.Firsts.{Firsts}
use Rattle.refine_fits.specs.declared.Bases.{Bases}
use Rattle.refine_fits.specs.declared.Base.{Base}
use Rattle.refine_fits.specs.Windows.{Fits, lacking, four, corners_at}

-- the five coefficients of the patch whose first stands at i
abbrev pub coefs_in : List Float → ℕ → List Float
coefs_in flat i = entry flat i ∷ entry flat (i + 4) ∷ entry flat (i + 8) ∷ entry flat (i + 12) ∷ entry flat (i + 16) ∷ []

-- the four fits that stand at `to`
abbrev pub corners_in : List Float → ℕ → Corners
corners_in flat to = record { c00 = coefs_in flat to; c10 = coefs_in flat (to + 1); c01 = coefs_in flat (to + 2); c11 = coefs_in flat (to + 3) }

-- where the patch about (x, y) begins
abbrev pub first_place : ℕ → ℕ → ℕ → ℕ → ℕ
first_place pitch radius x y = (y - radius) * pitch + (x - radius)

-- the first places of the four patches about a base
abbrev pub firsts_about : ℕ → ℕ → ℕ → ℕ → Firsts
firsts_about pitch radius x y =
    let at = first_place pitch radius x y in
    record { a = at; b = at + 1; c = at + pitch; d = at + pitch + 1 }

-- four fits were put at `to`: those about (x, y); what stands before them stays
pub record Laid (img : Image) (columns : List Float) (radius x y to : ℕ) (before after : List Float) : Type 0 where
  pub is : corners_at img columns radius (pos x) (pos y) ≡ four (corners_in after to)
  pub first : 20 ≤ to → corners_in after 0 ≡ corners_in before 0
  pub long : length after ≡ 40

-- each base that is one has its four fits: the first at 0, the last at 20
pub record Held (img : Image) (columns : List Float) (radius : ℕ) (bases : Bases) (flat : List Float) : Type 0 where
  pub first : IfSome bases.first (λ b. corners_at img columns radius (pos b.x) (pos b.y) ≡ four (corners_in flat 0))
  pub last : IfSome bases.last (λ b. corners_at img columns radius (pos b.x) (pos b.y) ≡ four (corners_in flat 20))
  pub long : length flat ≡ 40

-- bases that are none are held for every image, operator and list
pub record NoBases (bases : Bases) : Type 0 where
  pub held : (img : Image) (columns : List Float) (radius : ℕ) (flat : List Float) → length flat ≡ 40 → Held img columns radius bases flat

-- the four fits about a base; about none there are none
abbrev pub corners_about : Image → List Float → ℕ → Option Base → Fits
corners_about img columns radius None = lacking
corners_about img columns radius (Some b) = corners_at img columns radius (pos b.x) (pos b.y)

-- those that stand at a place, and at none
abbrev pub fits_in : List Float → Option ℕ → Fits
fits_in flat None = lacking
fits_in flat (Some to) = four (corners_in flat to)

-- the four fits about a base stand at `to`, where there is room for them
pub record Stands (img : Image) (columns : List Float) (radius : ℕ) (base : Option Base) (to : Option ℕ) (bases : Bases) (flat : List Float) : Type 0 where
  pub is : corners_about img columns radius base ≡ fits_in flat to
  pub held : Held img columns radius bases flat
  pub low : IfSome to (λ n. n ≤ 20)

-- A corner is x, y and strength; a flat list holds them as triples, one after the other. How many numbers a call takes, a corner by its number,
-- the list with a corner written, and the squared distance of two places.
use Rattle.std.specs.Prelude.{Bool, List, [], ◌∷◌, ℕ, ◌+◌, ◌*◌, ◌/◌, ◌%◌, eqb, ltb, get_or, set, Float}
use Rattle.std.specs.Float.{binary32}
use Rattle.std.specs.Float.Ieee.{add, sub, mul}
use Rattle.shapes.specs.Numbers.{plus_zero}
use Rattle.corners.specs.declared.Corner.{Corner}

-- ---- so many numbers are whole records; they are over 4,096 corners
abbrev pub whole : ℕ → Bool
whole n = eqb (n % 3) 0

abbrev pub most_corners : ℕ
most_corners = 4096

abbrev pub too_many : ℕ → Bool
too_many n = ltb most_corners (n / 3)

-- ---- the corners of a flat list; numbers after the last whole triple are none
abbrev pub corner : Float → Float → Float → Corner
corner a b s = record { x = a; y = b; strength = s }

abbrev pub corners_of : List Float → List Corner
corners_of [] = []
corners_of (a ∷ []) = []
corners_of (a ∷ b ∷ []) = []
corners_of (a ∷ b ∷ s ∷ l) = corner a b s ∷ corners_of l

abbrev pub flat : List Corner → List Float
flat [] = []
flat (c ∷ l) = c.x ∷ c.y ∷ c.strength ∷ flat l

-- what stands past the end of a list; no claim is about it
abbrev pub nowhere : Corner
nowhere = corner plus_zero plus_zero plus_zero

abbrev pub corner_at : List Corner → ℕ → Corner
corner_at l i = get_or l i nowhere

-- a flat list with corner j written
abbrev pub recorded : List Float → ℕ → Corner → List Float
recorded l j c = set (set (set l (3 * j) c.x) (3 * j + 1) c.y) (3 * j + 2) c.strength

-- ---- dx² + dy² in binary32, one rounding an operation
unfoldable pub squared_distance : Float → Float → Float → Float → Float
squared_distance ax ay bx by =
    let dx = sub binary32 ax bx in
    let dy = sub binary32 ay by in
    add binary32 (mul binary32 dx dx) (mul binary32 dy dy)

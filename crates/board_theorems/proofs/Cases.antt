-- Closed cases: a board of 2 by 3 squares, so two places, at (0, 0) and (10, 0).
use mathlib.Core.Path.{◌≡◌, refl}
use mathlib.Core.List.{List, [], ◌∷◌}
use Prim.Native.Nat.{ℕ}
use lib.IntN.{pos}
use lib.Ieee.{Float, nan, binary32, of_int, add, sub, mul, lt, le}
use Rattle.board.specs.Call.{Way, unmet, shared, tied, way_of}

-- whole numbers, and a corner of strength 1 before the others
abbrev whole : ℕ → Float
whole n = of_int binary32 (pos n)

abbrev corner : Float → Float → List Float → List Float
corner x y l = x ∷ y ∷ whole 1 ∷ l

-- the way with such a limit, which is a squared distance
abbrev way : ℕ → List Float → Way
way limit list = way_of 2 3 (whole 0 ∷ whole 0 ∷ whole 10 ∷ whole 0 ∷ []) (whole limit) list 2

-- each place has a corner at the distance 1
crossed : way 1 (corner (whole 10) (whole 1) (corner (whole 1) (whole 0) [])) ≡ tied (1 ∷ 0 ∷ [])
unfolding way_of of_int add sub mul lt le
crossed = refl

-- both are nearest to the corner between them
halfway : way 25 (corner (whole 5) (whole 0) (corner (whole 20) (whole 0) [])) ≡ shared 1
unfolding way_of of_int add sub mul lt le
halfway = refl

-- the second place's corner is 3 away, and the limit is 2
distant : way 4 (corner (whole 0) (whole 0) (corner (whole 13) (whole 0) [])) ≡ unmet 1
unfolding way_of of_int add sub mul lt le
distant = refl

-- a NaN is passed over, and of two corners at one place the first is taken
passed_over : way 0 (corner nan (whole 0) (corner (whole 0) (whole 0) (corner (whole 0) (whole 0) (corner (whole 10) (whole 0) [])))) ≡ tied (1 ∷ 3 ∷ [])
unfolding way_of of_int add sub mul lt le
passed_over = refl

-- with no corner at all the first place lacks one
nothing : way 25 [] ≡ unmet 0
unfolding way_of of_int add sub mul lt le
nothing = refl

-- Closed cases: two lists on which the grid and the plain scan part, and one on which a second merge does more.
use mathlib.Core.Path.{◌≡◌, refl}
use mathlib.Core.List.{List, [], ◌∷◌, ◌++◌, map}
use Prim.Native.Nat.{ℕ}
use lib.Ieee.{Float, binary32, of_bits, to_bits, mul, add, sub, div, le, lt, to_unsigned}
use Rattle.floats.specs.Whole.{floor}
use Rattle.corners.specs.Corners.{corners_of, flat}
use Rattle.merge.specs.Meets.{near, neighbours, box_of, plain_meets, grid_meets, grid_of}
use Rattle.merge.specs.Fold.{merged}
use Rattle.merge.specs.Call.{way_of}
use Rattle.merge_theorems.specs.Bridged.{floats, bits, after, bridged, bridged_once, bridged_twice, MergedOnce, MergedAgain}

abbrev by-grid : List ℕ → ℕ → List ℕ
by-grid l radius = bits (flat (merged (grid_meets (grid_of (of_bits binary32 radius) (corners_of (floats l))) (mul binary32 (of_bits binary32 radius) (of_bits binary32 radius))) (corners_of (floats l))))

abbrev by-scan : List ℕ → ℕ → List ℕ
by-scan l radius = bits (flat (merged (plain_meets (mul binary32 (of_bits binary32 radius) (of_bits binary32 radius))) (corners_of (floats l))))

-- radius 1e-30, x 0 and 5e-30: the squares underflow
tiny-grid : by-grid (0 ∷ 0 ∷ 0x3F800000 ∷ 0x0ECAD2F8 ∷ 0 ∷ 0x3F800000 ∷ []) 0x0DA24260 ≡ 0 ∷ 0 ∷ 0x3F800000 ∷ 0x0ECAD2F8 ∷ 0 ∷ 0x3F800000 ∷ []
unfolding of_bits to_bits merged near neighbours box_of mul add sub div le lt to_unsigned floor
tiny-grid = refl

tiny-scan : by-scan (0 ∷ 0 ∷ 0x3F800000 ∷ 0x0ECAD2F8 ∷ 0 ∷ 0x3F800000 ∷ []) 0x0DA24260 ≡ 0 ∷ 0 ∷ 0x3F800000 ∷ []
unfolding of_bits to_bits merged near neighbours box_of mul add sub div le lt to_unsigned floor
tiny-scan = refl

-- radius 2, (0, 50), (1.9999999, 0) and (4, 0), all of strength 1: 4 - 1.9999999 rounds to 2, which is near, but from the column of 1.9999999 to that of 4 it is two
parted : List ℕ
parted = 0 ∷ 0x42480000 ∷ 0x3F800000 ∷ 0x3FFFFFFF ∷ 0 ∷ 0x3F800000 ∷ 0x40800000 ∷ 0 ∷ 0x3F800000 ∷ []

parted-grid : by-grid parted 0x40000000 ≡ parted
unfolding parted of_bits to_bits merged near neighbours box_of mul add sub div le lt to_unsigned floor
parted-grid = refl

parted-scan : by-scan parted 0x40000000 ≡ 0 ∷ 0x42480000 ∷ 0x3F800000 ∷ 0x3FFFFFFF ∷ 0 ∷ 0x3F800000 ∷ []
unfolding parted of_bits to_bits merged near neighbours box_of mul add sub div le lt to_unsigned floor
parted-scan = refl

-- by either rule, a second merge of the bridged corners keeps one less
once-grid : by-grid bridged 0x40000000 ≡ bridged_once
unfolding bridged bridged_once of_bits to_bits merged near neighbours box_of mul add sub div le lt to_unsigned floor
once-grid = refl

twice-grid : by-grid bridged_once 0x40000000 ≡ bridged_twice
unfolding bridged_once bridged_twice of_bits to_bits merged near neighbours box_of mul add sub div le lt to_unsigned floor
twice-grid = refl

once-scan : by-scan bridged 0x40000000 ≡ bridged_once
unfolding bridged bridged_once of_bits to_bits merged near neighbours box_of mul add sub div le lt to_unsigned floor
once-scan = refl

twice-scan : by-scan bridged_once 0x40000000 ≡ bridged_twice
unfolding bridged_once bridged_twice of_bits to_bits merged near neighbours box_of mul add sub div le lt to_unsigned floor
twice-scan = refl

-- the same by the public call, the second time on the two corners that are left
pub called-once : MergedOnce
unfolding bridged bridged_once way_of of_bits to_bits merged near neighbours box_of mul add sub div le lt to_unsigned floor
called-once = refl

pub called-twice : MergedAgain
unfolding bridged_once bridged_twice way_of of_bits to_bits merged near neighbours box_of mul add sub div le lt to_unsigned floor
called-twice = refl

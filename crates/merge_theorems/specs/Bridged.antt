-- A list on which merging twice is not merging once: what the public call leaves of three corners, and of what it left.
use Rattle.std.specs.Prelude.{◌≡◌, List, [], ◌∷◌, ◌++◌, map, ℕ, Float}
use Rattle.std.specs.Float.{binary32}
use Rattle.std.specs.Float.Ieee.{of_bits, to_bits}
use Rattle.merge.specs.Call.{way_of, list_after}

-- a list by its bit patterns, and back
abbrev pub floats : List ℕ → List Float
floats l = map (λ (b : ℕ). of_bits binary32 b) l

abbrev pub bits : List Float → List ℕ
bits l = map (λ (x : Float). to_bits binary32 x) l

abbrev pub after : List ℕ → ℕ → List ℕ
after l radius = bits (list_after (floats l) (way_of (floats l) (of_bits binary32 radius) 16384 4096))

-- Radius 2, (0, 0), (3, 0) of strength 1 and (1.5, 0) of strength 5, which takes the first one's place: near the second now, but already placed.
-- So once keeps two, and twice keeps one. Two corners are never enough for this: `twice-as-once` of proofs/Theorems.antt.
unfoldable pub bridged : List ℕ
bridged = 0 ∷ 0 ∷ 0x3F800000 ∷ 0x40400000 ∷ 0 ∷ 0x3F800000 ∷ 0x3FC00000 ∷ 0 ∷ 0x40A00000 ∷ []

unfoldable pub bridged_once : List ℕ
bridged_once = 0x3FC00000 ∷ 0 ∷ 0x40A00000 ∷ 0x40400000 ∷ 0 ∷ 0x3F800000 ∷ []

unfoldable pub bridged_twice : List ℕ
bridged_twice = 0x3FC00000 ∷ 0 ∷ 0x40A00000 ∷ []

-- the zeros are the freed tail
abbrev pub MergedOnce : Type 0
MergedOnce = after bridged 0x40000000 ≡ bridged_once ++ (0 ∷ 0 ∷ 0 ∷ [])

abbrev pub MergedAgain : Type 0
MergedAgain = after bridged_once 0x40000000 ≡ bridged_twice ++ (0 ∷ 0 ∷ 0 ∷ [])

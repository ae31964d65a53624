-- Closed cases of the tile of a corner in an image of 640 by 480, by bit patterns: where the image and its tiles begin and end, and what is not finite.
use mathlib.Core.Path.{◌≡◌, refl}
use mathlib.Core.List.{[], ◌∷◌, map}
use Prim.Native.Nat.{ℕ}
use lib.Ieee.{binary32, round, of_bits, of_int, to_unsigned, lt, le}
use Rattle.shapes.specs.Numbers.{one}
use Rattle.floats.specs.Whole.{floor}
use Rattle.coverage.specs.Tiles.{tile_of}

-- in the first row, at x of -0.5, -0.0, 79.5, 80, 639.5, 640, NaN, infinity and its negative
across : map (λ (b : ℕ). tile_of 640 480 (of_bits binary32 b) one) (0xBF000000 ∷ 0x80000000 ∷ 0x429F0000 ∷ 0x42A00000 ∷ 0x441FE000 ∷ 0x44200000 ∷ 0x7FC00000 ∷ 0x7F800000 ∷ 0xFF800000 ∷ [])
    ≡ 64 ∷ 0 ∷ 0 ∷ 1 ∷ 7 ∷ 64 ∷ 64 ∷ 64 ∷ 64 ∷ []
unfolding tile_of floor round of_bits of_int to_unsigned lt le
across = refl

-- in the first column, at y of -0.5, -0.0, 59.5, 60, 479.5, 480, NaN, infinity and its negative
down : map (λ (b : ℕ). tile_of 640 480 one (of_bits binary32 b)) (0xBF000000 ∷ 0x80000000 ∷ 0x426E0000 ∷ 0x42700000 ∷ 0x43EFC000 ∷ 0x43F00000 ∷ 0x7FC00000 ∷ 0x7F800000 ∷ 0xFF800000 ∷ [])
    ≡ 64 ∷ 0 ∷ 0 ∷ 8 ∷ 56 ∷ 64 ∷ 64 ∷ 64 ∷ 64 ∷ []
unfolding tile_of floor round of_bits of_int to_unsigned lt le
down = refl

-- Closed cases of the definitions, by bit patterns: one case of each class.
use Rattle.std.proofs.Common.{◌≡◌, ℕ, true, false, List, [], ◌∷◌, map, ℤ, pos, negsuc, refl}
use lib.Ieee.{Float, binary32, binary64, of_bits, to_bits, to_signed, to_unsigned, of_int}
use lib.Ieee.Scale.{finite}
use Rattle.std.specs.declared.cmp.Ordering.TheVariants.{Less, Equal, Greater}
use Rattle.floats.specs.Magnitude.{magnitude}
use Rattle.floats.specs.Whole.{floor, round_away}
use Rattle.floats.specs.Convert.{convert}
use Rattle.floats.specs.Root.{sqrt}
use Rattle.floats.specs.TotalOrder.{total_cmp}

-- a function on binary32 values, at each pattern of a list
abbrev at32 : (Float → Float) → List ℕ → List ℕ
at32 g l = map (λ (b : ℕ). to_bits binary32 (g (of_bits binary32 b))) l

-- rounding: 2.5 to 3, -2.5 to -3, 0.49999997 to 0, -0.3 to -0.0, -0.0, 0.5 to 1, 8388607.5 to 8388608, 2^23 + 1, infinity, NaN, the least subnormal
rounds : at32 (round_away binary32) (0x40200000 ∷ 0xC0200000 ∷ 0x3EFFFFFF ∷ 0xBE99999A ∷ 0x80000000 ∷ 0x3F000000 ∷ 0x4AFFFFFF ∷ 0x4B000001 ∷ 0x7F800000 ∷ 0x7FC00000 ∷ 1 ∷ [])
    ≡ 0x40400000 ∷ 0xC0400000 ∷ 0 ∷ 0x80000000 ∷ 0x80000000 ∷ 0x3F800000 ∷ 0x4B000000 ∷ 0x4B000001 ∷ 0x7F800000 ∷ 0x7FC00000 ∷ 0 ∷ []
unfolding of_bits to_bits round_away
rounds = refl

-- floor of 2.5, -2.5, -0.0, -0.3, 0.99999994, -8388607.5, -2^23 - 1, -infinity, NaN, the least subnormal and its negative
floors : at32 (floor binary32) (0x40200000 ∷ 0xC0200000 ∷ 0x80000000 ∷ 0xBE99999A ∷ 0x3F7FFFFF ∷ 0xCAFFFFFF ∷ 0xCB000001 ∷ 0xFF800000 ∷ 0x7FC00000 ∷ 1 ∷ 0x80000001 ∷ [])
    ≡ 0x40000000 ∷ 0xC0400000 ∷ 0x80000000 ∷ 0xBF800000 ∷ 0 ∷ 0xCB000000 ∷ 0xCB000001 ∷ 0xFF800000 ∷ 0x7FC00000 ∷ 0 ∷ 0xBF800000 ∷ []
unfolding of_bits to_bits floor
floors = refl

magnitudes : at32 magnitude (0x80000000 ∷ 0xC0200000 ∷ 0xFF800000 ∷ 0x7FC00000 ∷ 0x80000001 ∷ []) ≡ 0 ∷ 0x40200000 ∷ 0x7F800000 ∷ 0x7FC00000 ∷ 1 ∷ []
unfolding of_bits to_bits magnitude
magnitudes = refl

-- as i32: NaN to 0, +inf to 2147483647, -inf, -2147483648, 2147483520, -2.9
signed : map (λ (b : ℕ). to_signed 31 (of_bits binary32 b)) (0x7FC00000 ∷ 0x7F800000 ∷ 0xFF800000 ∷ 0xCF000000 ∷ 0x4EFFFFFF ∷ 0xC039999A ∷ [])
    ≡ pos 0 ∷ pos 2147483647 ∷ negsuc 2147483647 ∷ negsuc 2147483647 ∷ pos 2147483520 ∷ negsuc 1 ∷ []
unfolding of_bits to_signed
signed = refl

-- as usize: NaN, -1, +inf, 2^64, 2.9
sizes : map (λ (b : ℕ). to_unsigned 64 (of_bits binary32 b)) (0x7FC00000 ∷ 0xBF800000 ∷ 0x7F800000 ∷ 0x5F800000 ∷ 0x4039999A ∷ []) ≡ 0 ∷ 0 ∷ 18446744073709551615 ∷ 18446744073709551615 ∷ 2 ∷ []
unfolding of_bits to_unsigned
sizes = refl

-- i32 as f32: a tie to the even one below and above 2^24, and the ends
integers : map (λ (z : ℤ). to_bits binary32 (of_int binary32 z)) (pos 16777217 ∷ pos 16777219 ∷ pos 2147483647 ∷ negsuc 2147483647 ∷ []) ≡ 0x4B800000 ∷ 0x4B800002 ∷ 0x4F000000 ∷ 0xCF000000 ∷ []
unfolding to_bits of_int
integers = refl

-- f64 as f32: 0.1, a tie down and up, a carry into the next exponent, overflow, the last value below it, a subnormal, a tie at half the
-- least subnormal and the value above it, -0.0, -inf, NaN
narrowed : map (λ (b : ℕ). to_bits binary32 (convert binary32 (of_bits binary64 b)))
    (0x3FB999999999999A ∷ 0x3FF0000010000000 ∷ 0x3FF0000030000000 ∷ 0x3FFFFFFFF0000000 ∷ 0x47EFFFFFF0000000 ∷ 0x47EFFFFFEFFFFFFF ∷ 0x380FFFFFC0000000 ∷ 0x3690000000000000 ∷ 0x3690000000000001 ∷ 0x8000000000000000 ∷ 0xFFF0000000000000 ∷ 0x7FF8000000000000 ∷ [])
    ≡ 0x3DCCCCCD ∷ 0x3F800000 ∷ 0x3F800002 ∷ 0x40000000 ∷ 0x7F800000 ∷ 0x7F7FFFFF ∷ 0x007FFFFF ∷ 0 ∷ 1 ∷ 0x80000000 ∷ 0xFF800000 ∷ 0x7FC00000 ∷ []
unfolding of_bits to_bits convert
narrowed = refl

-- the root of 2, 4, the least subnormal, the greatest subnormal, the greatest value, 0, -0.0, +inf, -1, -inf, NaN
roots : at32 (sqrt binary32) (0x40000000 ∷ 0x40800000 ∷ 1 ∷ 0x007FFFFF ∷ 0x7F7FFFFF ∷ 0 ∷ 0x80000000 ∷ 0x7F800000 ∷ 0xBF800000 ∷ 0xFF800000 ∷ 0x7FC00000 ∷ [])
    ≡ 0x3FB504F3 ∷ 0x40000000 ∷ 0x1A3504F3 ∷ 0x1FFFFFFF ∷ 0x5F7FFFFF ∷ 0 ∷ 0x80000000 ∷ 0x7F800000 ∷ 0x7FC00000 ∷ 0x7FC00000 ∷ 0x7FC00000 ∷ []
unfolding of_bits to_bits sqrt
roots = refl

finites : map (λ (b : ℕ). finite (of_bits binary64 b)) (0 ∷ 1 ∷ 0x7FEFFFFFFFFFFFFF ∷ 0x7FF0000000000000 ∷ 0xFFF0000000000000 ∷ 0x7FF8000000000000 ∷ []) ≡ true ∷ true ∷ true ∷ false ∷ false ∷ false ∷ []
unfolding of_bits
finites = refl

-- the total order of magnitudes: -2 and 1, -0.0 and +0.0, the greatest value and infinity, a NaN and infinity, two NaNs
orders : total_cmp (of_bits binary64 0xC000000000000000) (of_bits binary64 0x3FF0000000000000) ∷ total_cmp (of_bits binary64 0x8000000000000000) (of_bits binary64 0) ∷ total_cmp (of_bits binary64 0x7FEFFFFFFFFFFFFF) (of_bits binary64 0xFFF0000000000000) ∷ total_cmp (of_bits binary64 0x7FF8000000000000) (of_bits binary64 0x7FF0000000000000) ∷ total_cmp (of_bits binary64 0x7FF8000000000000) (of_bits binary64 0x7FF8000000000000) ∷ []
    ≡ Greater ∷ Equal ∷ Less ∷ Greater ∷ Equal ∷ []
unfolding of_bits total_cmp
orders = refl

-- Closed cases: there is no operator of radius 0, and the one of radius 1, where two pivots are equal, by the patterns of the oracle's.
use Rattle.std.proofs.Common.{◌≡◌, ℕ, List, [], ◌∷◌, map, refl}
use lib.Ieee.{Float, binary32, of_bits, to_bits, of_int, add, sub, mul, div, lt}
use Rattle.floats.specs.Magnitude.{magnitude}
use Rattle.floats.specs.Convert.{convert}
use Rattle.floats.specs.TotalOrder.{total_cmp}
use Rattle.refine_operator.specs.Inverse.{inverse_normal_matrix, pivot_of, swapped, scaled, cleared}
use Rattle.refine_operator.specs.Rows.{columns_of, overlap_of}
use Rattle.refine_operator.specs.Call.{Way, refused, none, built, way_of}

pub radius-0 : way_of 0 ≡ none
unfolding way_of inverse_normal_matrix pivot_of of_bits of_int add sub mul div lt magnitude total_cmp
radius-0 = refl

abbrev shown : Way → List ℕ
shown (refused r) = []
shown none = []
shown (built columns overlap) = map (λ (x : Float). to_bits binary32 x) columns

radius-1 : shown (way_of 1) ≡ 0x3E2AAAAB ∷ 0x3E800000 ∷ 0x3E2AAAAB ∷ 0xBE2AAAAB ∷ 0xBE2AAAAB ∷ 0xBEAAAAAB ∷ 0x0 ∷ 0x3E2AAAAB ∷ 0x0 ∷ 0xBE2AAAAB ∷ 0x3E2AAAAB ∷ 0xBE800000 ∷ 0x3E2AAAAB ∷ 0x3E2AAAAB ∷ 0xBE2AAAAB ∷ 0x3E2AAAAB ∷ 0x0 ∷ 0xBEAAAAAB ∷ 0xBE2AAAAB ∷ 0x0 ∷ 0xBEAAAAAB ∷ 0x0 ∷ 0xBEAAAAAB ∷ 0x0 ∷ 0x0 ∷ 0x3E2AAAAB ∷ 0x0 ∷ 0xBEAAAAAB ∷ 0x3E2AAAAB ∷ 0x0 ∷ 0x3E2AAAAB ∷ 0xBE800000 ∷ 0x3E2AAAAB ∷ 0xBE2AAAAB ∷ 0x3E2AAAAB ∷ 0xBEAAAAAB ∷ 0x0 ∷ 0x3E2AAAAB ∷ 0x0 ∷ 0x3E2AAAAB ∷ 0x3E2AAAAB ∷ 0x3E800000 ∷ 0x3E2AAAAB ∷ 0x3E2AAAAB ∷ 0x3E2AAAAB ∷ []
unfolding way_of inverse_normal_matrix pivot_of swapped scaled cleared columns_of overlap_of of_bits to_bits of_int add sub mul div lt magnitude convert total_cmp
radius-1 = refl

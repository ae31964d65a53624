-- Closed cases, on an image of 640 by 480 with room for two records and three faults: a cut record alone; a NaN; -0.0; the last column and the float above it.
use mathlib.Core.Path.{◌≡◌, refl}
use mathlib.Core.List.{List, [], ◌∷◌, ◌++◌}
use Prim.Native.Nat.{ℕ}
use lib.Ieee.{of_bits, of_int, le}
use Rattle.words.specs.Words.{word_at}
use Rattle.refusals.specs.declared.Refusal.TheVariants.{BadOut}
use Rattle.salvage.specs.Records.{fault_of, kept_of, faults_of}
use Rattle.salvage.specs.Call.{Way, refused, saved, way_of}

abbrev way : List ℕ → Way
way file = way_of 640 480 file 24 6

-- the strength 1.0, behind x and y
abbrev with-strength : List ℕ → List ℕ
with-strength place = place ++ (0 ∷ 0 ∷ 128 ∷ 63 ∷ [])

cut-alone : way (1 ∷ 2 ∷ 3 ∷ []) ≡ saved [] (0 ∷ 1 ∷ [])
unfolding way_of kept_of faults_of
cut-alone = refl

-- x is a NaN, and behind it the record is whole and the file cut: two faults
abbrev nan-x : List ℕ
nan-x = with-strength (0 ∷ 0 ∷ 192 ∷ 127 ∷ 0 ∷ 0 ∷ 0 ∷ 0 ∷ [])

not-a-number : way (nan-x ++ (7 ∷ [])) ≡ saved [] (0 ∷ 2 ∷ 1 ∷ 1 ∷ [])
unfolding way_of kept_of faults_of fault_of word_at of_bits
not-a-number = refl

-- x and y are -0.0
abbrev minus-zeros : List ℕ
minus-zeros = with-strength (0 ∷ 0 ∷ 0 ∷ 128 ∷ 0 ∷ 0 ∷ 0 ∷ 128 ∷ [])

minus-zero-kept : way minus-zeros ≡ saved minus-zeros []
unfolding way_of kept_of faults_of fault_of word_at of_bits of_int le
minus-zero-kept = refl

-- x is 639.0, and the float above it; y is 479.0
abbrev last-column : List ℕ
last-column = with-strength (0 ∷ 192 ∷ 31 ∷ 68 ∷ 0 ∷ 128 ∷ 239 ∷ 67 ∷ [])

abbrev beyond : List ℕ
beyond = with-strength (1 ∷ 192 ∷ 31 ∷ 68 ∷ 0 ∷ 128 ∷ 239 ∷ 67 ∷ [])

last-column-kept : way (beyond ++ last-column) ≡ saved last-column (0 ∷ 3 ∷ [])
unfolding way_of kept_of faults_of fault_of word_at of_bits of_int le
last-column-kept = refl

-- 15 by what goes in: two records go into room for two, three do not
three-records : way (last-column ++ minus-zeros ++ last-column) ≡ refused BadOut
unfolding way_of kept_of faults_of fault_of word_at of_bits of_int le
three-records = refl

-- The records of a corner file, twelve bytes each, and what is wrong with one: 1 it is cut, 2 a number of it is not finite, 3 its place lies outside the image; 0 is nothing.
use Rattle.std.specs.Prelude.{Bool, not, ◌&&◌, cond, List, [], ◌∷◌, ◌++◌, ℕ, zero, suc, ◌+◌, ◌-◌, ◌*◌, ◌/◌, ◌%◌, ltb, eqb, pos, length, take, drop, Float}
use Rattle.std.specs.Float.{binary32}
use Rattle.std.specs.Float.Ieee.{of_bits, of_int, le}
use Rattle.std.specs.Float.Ieee.Scale.{finite}
use Rattle.shapes.specs.Numbers.{plus_zero}
use Rattle.words.specs.Words.{word_at}

-- number j of record i
abbrev pub number_at : List ℕ → ℕ → ℕ → Float
number_at file i j = of_bits binary32 (word_at file (12 * i + 4 * j))

-- the whole records, and what is left of one that is cut
abbrev pub whole_of : List ℕ → ℕ
whole_of file = length file / 12

abbrev pub is_cut : List ℕ → Bool
is_cut file = ltb 0 (length file % 12)

-- from 0 to n - 1, both inclusive; -0.0 is within
abbrev pub within_axis : ℕ → Float → Bool
within_axis n v = le plus_zero v && le v (of_int binary32 (pos (n - 1)))

unfoldable pub fault_of : ℕ → ℕ → List ℕ → ℕ → ℕ
unfolding word_at of_bits
fault_of width height file i =
    let x = number_at file i 0 in
    let y = number_at file i 1 in
    cond (not (finite x && finite y && finite (number_at file i 2))) 2
    (cond (not (within_axis width x && within_axis height y)) 3 0)

-- ---- of the first n records: the bytes of those that have nothing wrong, and number and fault of the others, in order
unfoldable pub kept_of : ℕ → ℕ → List ℕ → ℕ → List ℕ
unfolding fault_of
kept_of width height file zero = []
kept_of width height file (suc n) = kept_of width height file n ++ cond (eqb (fault_of width height file n) 0) (take 12 (drop (12 * n) file)) []

unfoldable pub faults_of : ℕ → ℕ → List ℕ → ℕ → List ℕ
unfolding fault_of
faults_of width height file zero = []
faults_of width height file (suc n) = faults_of width height file n ++ cond (eqb (fault_of width height file n) 0) [] (n ∷ fault_of width height file n ∷ [])

-- with the cut record last
abbrev pub dropped_of : ℕ → ℕ → List ℕ → List ℕ
dropped_of width height file = faults_of width height file (whole_of file) ++ cond (is_cut file) (whole_of file ∷ 1 ∷ []) []

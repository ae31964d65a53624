-- Closed cases: a response of 7 by 7 with ring 1, window 1 and no refiner, so that the pixels 2 to 4 of each side are inside the border.
use mathlib.Core.Path.{◌≡◌, refl}
use mathlib.Core.List.{List, [], ◌∷◌, map}
use Prim.Native.Nat.{ℕ}
use lib.ListN.{set, replicate}
use lib.Ieee.{Float, binary32, of_bits, to_bits, of_int, lt, le}
use Rattle.imageview.specs.Image.{sizes_fit}
use Rattle.std.specs.Prelude.{Result, Ok, Err}
use Rattle.refusals.specs.declared.Refusal.{Refusal}
use Rattle.refusals.specs.declared.Refusal.TheVariants.{TooMany}
use Rattle.shapes.specs.Tests.{every}
use Rattle.peaks.specs.Peak.{Scan, value_at, inside, neighbour, count, beats, highest, positives, is_peak}
use Rattle.peaks.specs.Call.{chosen, peaks_of, records_of, way_of, answer_of, out_after}

-- a list by its bit patterns, and back
abbrev floats : List ℕ → List Float
floats l = map (λ (b : ℕ). of_bits binary32 b) l

abbrev bits : List Float → List ℕ
bits l = map (λ (x : Float). to_bits binary32 x) l

-- 1.0 at (2, 3) and 2.0 at (3, 3), all else +0.0
spot : List ℕ
spot = set (set (replicate 49 0) 23 0x3F800000) 24 0x40000000

abbrev scan : List ℕ → ℕ → ℕ → Scan
scan values threshold cluster = record { values = floats values; width = 7; height = 7; ring = 1; window = 1; refine = 0; threshold = of_bits binary32 threshold; cluster = cluster }

abbrev answer : List ℕ → ℕ → ℕ → ℕ → Result ℕ Refusal
answer values threshold cluster room = answer_of (way_of (scan values threshold cluster) room)

-- an output of 1.0s afterwards
abbrev left : List ℕ → ℕ → ℕ → ℕ → List ℕ
left values threshold cluster room = bits (out_after (scan values threshold cluster) (floats (replicate room 0x3F800000)) (way_of (scan values threshold cluster) room))

-- one peak: x, y and value, and the rest stays
spot-found : answer spot 0 1 6 ≡ Ok 1
unfolding spot way_of sizes_fit peaks_of chosen is_peak inside highest every beats neighbour value_at positives count lt le of_bits
spot-found = refl

spot-written : left spot 0 1 6 ≡ 0x40400000 ∷ 0x40400000 ∷ 0x40000000 ∷ 0x3F800000 ∷ 0x3F800000 ∷ 0x3F800000 ∷ []
unfolding spot way_of sizes_fit peaks_of chosen is_peak inside highest every beats neighbour value_at positives count lt le of_bits to_bits records_of of_int
spot-written = refl

-- no room for it
spot-refused : answer spot 0 1 0 ≡ Err TooMany
unfolding spot way_of sizes_fit peaks_of chosen is_peak inside highest every beats neighbour value_at positives count lt le of_bits
spot-refused = refl

-- one positive value beside it is not two; the pixel itself is not counted
spot-alone : answer spot 0 2 6 ≡ Ok 0
unfolding spot way_of sizes_fit peaks_of chosen is_peak inside highest every beats neighbour value_at positives count lt le of_bits
spot-alone = refl

-- a value equal to the threshold does not exceed it
spot-low : answer spot 0x40000000 1 6 ≡ Ok 0
unfolding spot way_of sizes_fit peaks_of chosen is_peak inside highest every beats neighbour value_at positives count lt le of_bits
spot-low = refl

-- a negative threshold counts as zero: a response of -1.0s with one of -0.5 has no peak
dark : List ℕ
dark = set (replicate 49 0xBF800000) 24 0xBF000000

dark-none : answer dark 0xC0000000 0 6 ≡ Ok 0
unfolding dark way_of sizes_fit peaks_of chosen is_peak inside highest every beats neighbour value_at positives count lt le of_bits
dark-none = refl

-- of two equal values side by side, (3, 3) and (4, 3), the first is a peak
tie : List ℕ
tie = set spot 25 0x40000000

tie-first : left tie 0 1 6 ≡ 0x40400000 ∷ 0x40400000 ∷ 0x40000000 ∷ 0x3F800000 ∷ 0x3F800000 ∷ 0x3F800000 ∷ []
unfolding tie spot way_of sizes_fit peaks_of chosen is_peak inside highest every beats neighbour value_at positives count lt le of_bits to_bits records_of of_int
tie-first = refl

-- a NaN in the window is beaten by nothing, an earlier one, at (2, 2), or a later one, at (4, 4)
blocked : ℕ → List ℕ
blocked k = set spot k 0x7FC00000

blocked-before : answer (blocked 16) 0 1 6 ≡ Ok 0
unfolding blocked spot way_of sizes_fit peaks_of chosen is_peak inside highest every beats neighbour value_at positives count lt le of_bits
blocked-before = refl

blocked-after : answer (blocked 32) 0 1 6 ≡ Ok 0
unfolding blocked spot way_of sizes_fit peaks_of chosen is_peak inside highest every beats neighbour value_at positives count lt le of_bits
blocked-after = refl

-- the pixel (1, 3) lies on the border
rim : List ℕ
rim = set (replicate 49 0) 22 0x40000000

rim-none : answer rim 0 0 6 ≡ Ok 0
unfolding rim way_of sizes_fit peaks_of chosen is_peak inside highest every beats neighbour value_at positives count lt le of_bits
rim-none = refl

-- two peaks, in row order: (4, 2) before (2, 4)
pair : List ℕ
pair = set (set (replicate 49 0) 30 0x40400000) 18 0x40000000

pair-written : left pair 0 0 6 ≡ 0x40800000 ∷ 0x40000000 ∷ 0x40000000 ∷ 0x40000000 ∷ 0x40800000 ∷ 0x40400000 ∷ []
unfolding pair way_of sizes_fit peaks_of chosen is_peak inside highest every beats neighbour value_at positives count lt le of_bits to_bits records_of of_int
pair-written = refl

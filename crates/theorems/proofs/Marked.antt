-- The marked examples P1 to P12 of docs/RULES.md, one table over the definitions: what each asks, and its answer in the numbers of that page.
use mathlib.Core.Path.{◌≡◌, refl}
use mathlib.Core.Bool.{true, false, cond}
use mathlib.Core.List.{List, [], ◌∷◌, map}
use Prim.Native.Nat.{ℕ, zero, suc, ◌%◌}
use lib.Dec.{ltb, eqb}
use lib.IntN.{ℤ, pos, negsuc, sub_ℕ}
use lib.Ieee.{Float, nan, inf, fin, binary32, of_bits, to_bits, of_int, to_signed, to_unsigned, add, sub, mul, div, lt, le, neg}
use Rattle.floats.specs.Magnitude.{magnitude}
use Rattle.floats.specs.Whole.{floor, round_away}
use Rattle.floats.specs.Root.{sqrt}
use Rattle.pixel_response.specs.Samples.{gain, loss, response_of}
use Rattle.std.specs.Prelude.{Result, Ok, Err}
use Rattle.refine_formulas.specs.declared.PatchSaddle.{PatchSaddle}
use Rattle.refine_formulas.specs.declared.Unsolved.{Unsolved}
use Rattle.refine_formulas.specs.Solve.{solve, score_of}
use Rattle.refine_seed.specs.Refine.{flaw_number}
use Rattle.merge.specs.Meets.{near, neighbours, box_of}
use Rattle.merge.specs.Fold.{merged}
use Rattle.merge.specs.Call.{way_of, list_after}

-- ---- numbers as they stand there
abbrev minus : ℕ → ℤ
minus zero = pos 0
minus (suc n) = negsuc n

-- the bits of a whole number
abbrev whole : ℤ → ℕ
whole z = to_bits binary32 (of_int binary32 z)

abbrev bits : Float → ℕ
bits x = to_bits binary32 x

-- minus a half
abbrev minus_half : Float
minus_half = fin true 1 (negsuc 0)

-- x, y and strength of corners on a line, whole numbers
abbrev corner : ℕ → ℕ → List ℕ → List ℕ
corner x strength l = whole (pos x) ∷ whole (pos 0) ∷ whole (pos strength) ∷ l

-- ---- what is asked
pub data Row : Type 0 where
  -- N, and the bits of the written value
  response : ℤ → ℕ → Row
  -- the bits of rounded numbers
  rounded : List ℕ → Row
  -- numbers as i32
  converted : List ℤ → Row
  -- the bits of a root
  root : ℕ → Row
  -- the bits of u and the score, or of the determinant of a refusal beside its number
  saddle : ℕ → ℕ → ℕ → Row
  refused : ℕ → ℕ → Row
  -- the bits of a list after the merge at radius 2, its freed tail zeros
  list : List ℕ → Row

abbrev response_at : (ℕ → ℕ) → (ℕ → ℕ) → Row
response_at s c = response (sub_ℕ (gain s) (loss s c)) (bits (response_of s c))

abbrev told : Result PatchSaddle Unsolved → Row
told (Err u) = refused (flaw_number u.flaw) (bits u.det_h)
told (Ok f) = saddle (bits f.ux) (bits f.uy) (bits (score_of f))

-- coefficients that are whole numbers, thresholds 0
abbrev solved_at : List ℤ → Row
solved_at l = told (solve (record { radius = 2; det_margin = of_int binary32 (pos 0); max_offset = of_int binary32 (pos 0); min_abs_det = of_int binary32 (pos 0) }) (map (of_int binary32) l))

abbrev merged_at : List ℕ → Row
merged_at l =
    let corners = map (λ (b : ℕ). of_bits binary32 b) l in
    list (map bits (list_after corners (way_of corners (of_int binary32 (pos 2)) 16384 4096)))

pub asked : List Row
asked =
    response_at (λ k. 7) (λ k. 7)
    ∷ response_at (λ k. cond (ltb (k % 8) 4) 200 0) (λ k. 100)
    ∷ response_at (λ k. cond (ltb k 8) 100 0) (λ k. 50)
    ∷ response_at (λ k. 0) (λ k. cond (eqb k 0) 1 0)
    ∷ response_at (λ k. 255) (λ k. 0)
    ∷ rounded (map (λ (x : Float). bits (round_away binary32 x)) (fin false 5 (negsuc 0) ∷ fin true 5 (negsuc 0) ∷ []))
    ∷ converted (map (to_signed 31) (nan ∷ inf false ∷ []))
    ∷ root (bits (sqrt binary32 (of_int binary32 (pos 2))))
    ∷ solved_at (pos 1 ∷ pos 0 ∷ minus 1 ∷ pos 1 ∷ pos 0 ∷ [])
    ∷ solved_at (pos 0 ∷ pos 0 ∷ pos 0 ∷ pos 0 ∷ pos 0 ∷ [])
    ∷ merged_at (corner 0 1 (corner 2 2 (corner 4 3 [])))
    ∷ merged_at (corner 0 3 (corner 2 2 (corner 4 1 [])))
    ∷ []

-- ---- P1 to P12
pub answered : List Row
answered =
    response (pos 0) (whole (pos 0))
    ∷ response (pos 8000) (whole (pos 1600))
    ∷ response (minus 4000) (whole (minus 800))
    ∷ response (minus 16) 0xC04CCCCD
    ∷ response (minus 20400) (whole (minus 4080))
    ∷ rounded (whole (pos 3) ∷ whole (minus 3) ∷ [])
    ∷ converted (pos 0 ∷ pos 2147483647 ∷ [])
    ∷ root 0x3FB504F3
    ∷ saddle (bits minus_half) 0x80000000 (whole (pos 2))
    ∷ refused 7 (whole (pos 0))
    ∷ list (corner 4 3 (corner 0 0 (corner 0 0 [])))
    ∷ list (corner 0 3 (corner 4 1 (corner 0 0 [])))
    ∷ []

pub marked : asked ≡ answered
unfolding asked answered gain loss response_of way_of solve merged near neighbours box_of of_bits to_bits of_int to_signed to_unsigned add sub mul div lt le neg magnitude floor round_away sqrt
marked = refl

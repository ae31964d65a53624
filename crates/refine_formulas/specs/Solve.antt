-- The saddle of a fitted quadratic, or the first test that it did not pass and the determinant: above minus the margin, too small, or an offset that is not finite.
-- A NaN determinant passes the first two, as no comparison with it holds, and not the third.
use Rattle.std.specs.Prelude.{Bool, ◌&&◌, not, cond, List, Float, Result, Ok, Err}
use Rattle.std.specs.Float.{binary32}
use Rattle.std.specs.Float.Ieee.{of_bits, lt, neg}
use Rattle.std.specs.Float.Ieee.Scale.{finite}
use Rattle.floats.specs.Magnitude.{magnitude}
use Rattle.floats.specs.Root.{sqrt}
use Rattle.shapes.specs.Numbers.{plus_zero, one, entry}
use Rattle.refine_formulas.specs.declared.SaddlePointConfig.{SaddlePointConfig}
use Rattle.refine_formulas.specs.declared.PatchSaddle.{PatchSaddle}
use Rattle.refine_formulas.specs.declared.Flaw.{Flaw}
use Rattle.refine_formulas.specs.declared.Flaw.TheVariants.{AboveMargin, TooSmall, NotFinite}
use Rattle.refine_formulas.specs.declared.Unsolved.{Unsolved}
use Rattle.refine_formulas.specs.Numbers.{◌⊕◌, ◌⊖◌, ◌⊗◌, ◌⊘◌, two, four}

-- det H = 4ac - b²
abbrev pub determinant : Float → Float → Float → Float
determinant a b c = four ⊗ a ⊗ c ⊖ b ⊗ b

-- a tie at a limit is not refused
abbrev pub above_margin : SaddlePointConfig → Float → Bool
above_margin cfg det = lt (neg cfg.det_margin) det

abbrev pub too_small : SaddlePointConfig → Float → Bool
too_small cfg det = lt (magnitude det) cfg.min_abs_det

abbrev pub offset_x : List Float → Float → Float
offset_x l inv = neg (two ⊗ entry l 2 ⊗ entry l 3 ⊖ entry l 1 ⊗ entry l 4) ⊗ inv

abbrev pub offset_y : List Float → Float → Float
offset_y l inv = (entry l 1 ⊗ entry l 3 ⊖ two ⊗ entry l 0 ⊗ entry l 4) ⊗ inv

abbrev pub saddle_of : List Float → Float → Float → Float → PatchSaddle
saddle_of l det x y = record { ux = x; uy = y; a = entry l 0; b = entry l 1; c = entry l 2; det_h = det }

-- a fit that is refused, with the determinant
abbrev pub refused : Flaw → Float → Result PatchSaddle Unsolved
refused flaw det = Err (record { flaw = flaw; det_h = det })

abbrev pub solved_from : List Float → Float → Float → Float → Result PatchSaddle Unsolved
solved_from l det x y = cond (finite x && finite y) (Ok (saddle_of l det x y)) (refused NotFinite det)

unfoldable pub solve : SaddlePointConfig → List Float → Result PatchSaddle Unsolved
solve cfg l =
    let det = determinant (entry l 0) (entry l 1) (entry l 2) in
    let inv = one ⊘ det in
    cond (above_margin cfg det) (refused AboveMargin det)
    (cond (too_small cfg det) (refused TooSmall det)
    (solved_from l det (offset_x l inv) (offset_y l inv)))

-- the root of minus the determinant
abbrev pub score_of : PatchSaddle → Float
score_of f = sqrt binary32 (neg f.det_h)

-- a setting that can be used: finite and not below zero; -0.0 is not below it
abbrev pub good_limit : Float → Bool
good_limit v = finite v && not (lt v plus_zero)

-- |u|²
abbrev pub norm2 : PatchSaddle → Float
norm2 f = f.ux ⊗ f.ux ⊕ f.uy ⊗ f.uy

-- the tolerance 1e-3, squared
abbrev pub tolerance : Float
tolerance = of_bits binary32 0x3A83126F ⊗ of_bits binary32 0x3A83126F

abbrev pub settled : PatchSaddle → Bool
settled f = lt (norm2 f) tolerance

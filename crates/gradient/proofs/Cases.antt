-- Closed cases, by computing: a tile of 3 by 3 with known answers, what a tie counts, what an infinite scale leaves, and the refusals.
use mathlib.Core.Path.{◌≡◌, refl}
use mathlib.Core.Bool.{true, false}
use mathlib.Core.List.{List, [], ◌∷◌}
use Prim.Native.Nat.{ℕ}
use lib.IntN.{ℤ, pos, negsuc}
use lib.ListN.{get_or, drop, replicate}
use Rattle.std.specs.Prelude.{Ok, Err}
use lib.Ieee.{Float, fin, inf, nan, of_int, add, mul}
use Rattle.shapes.specs.Numbers.{plus_zero, one}
use Rattle.refusals.specs.declared.Refusal.TheVariants.{BadImage, BadRing, BadOut}
use Rattle.gradient.specs.Stencil.{ring_of, cross_of}
use Rattle.gradient.specs.Coefficients.{mean_sign, coefficient}
use Rattle.gradient.specs.Call.{Asked, asked_of, grid_after, way_of}

-- the eight cells about the middle one, twice
abbrev around : List ℤ
around =
    negsuc 0 ∷ negsuc 0 ∷ pos 0 ∷ negsuc 0 ∷ pos 1 ∷ negsuc 0 ∷ pos 1 ∷ pos 0 ∷ pos 1 ∷ pos 1 ∷ pos 0 ∷ pos 1 ∷ negsuc 0 ∷ pos 1 ∷ negsuc 0 ∷ pos 0
    ∷ negsuc 0 ∷ negsuc 0 ∷ pos 0 ∷ negsuc 0 ∷ pos 1 ∷ negsuc 0 ∷ pos 1 ∷ pos 0 ∷ pos 1 ∷ pos 1 ∷ pos 0 ∷ pos 1 ∷ negsuc 0 ∷ pos 1 ∷ negsuc 0 ∷ pos 0 ∷ []

-- a dark middle: squares and edges tie, the ring's mean is above the cross's
abbrev dark : List ℕ
dark = 10 ∷ 10 ∷ 10 ∷ 10 ∷ 0 ∷ 10 ∷ 10 ∷ 10 ∷ 10 ∷ []

-- all alike: the means tie too
abbrev level : List ℕ
level = 10 ∷ 10 ∷ 10 ∷ 10 ∷ 10 ∷ 10 ∷ 10 ∷ 10 ∷ 10 ∷ []

abbrev in-middle : List ℕ → Float → Float → Asked
in-middle tile sx sy = asked_of tile 3 around 1 1 (record { x = sx; y = sy })

abbrev blank : List Float
blank = replicate 18 plus_zero

abbrev minus-two : Float
minus-two = fin true 1 (pos 1)

-- 3.2 - 2 and 3.2
abbrev beside : Float
beside = fin false 5033165 (negsuc 21)

abbrev middle : Float
middle = fin false 13421773 (negsuc 21)

dark-grid : grid_after (in-middle dark one (fin false 1 (pos 1))) blank
    ≡ minus-two ∷ fin true 1 (pos 2) ∷ beside ∷ fin false 5033165 (negsuc 20) ∷ minus-two ∷ fin true 1 (pos 2)
    ∷ beside ∷ fin false 5033165 (negsuc 20) ∷ middle ∷ fin false 13421773 (negsuc 20) ∷ beside ∷ fin false 5033165 (negsuc 20)
    ∷ minus-two ∷ fin true 1 (pos 2) ∷ beside ∷ fin false 5033165 (negsuc 20) ∷ minus-two ∷ fin true 1 (pos 2) ∷ []
unfolding grid_after mean_sign cross_of ring_of add mul of_int coefficient
dark-grid = refl

-- a tie counts 0: no coefficient, and the cross stays out
level-sign : mean_sign (λ k. 10) (λ k. 10) ≡ pos 0
unfolding mean_sign
level-sign = refl

level-coefficient : coefficient (λ k. 10) 5 ≡ pos 0
unfolding coefficient
level-coefficient = refl

level-grid : grid_after (in-middle level one one) blank ≡ blank
unfolding grid_after mean_sign cross_of ring_of add mul of_int coefficient
level-grid = refl

-- an infinite scale times a coefficient of zero is a NaN, and the cross, which is left out, stays as it was
infinite : get_or (grid_after (in-middle level (inf false) one) blank) 0 plus_zero ≡ nan
unfolding grid_after mean_sign cross_of ring_of add mul of_int coefficient
infinite = refl

left_out : get_or (grid_after (in-middle level (inf false) one) blank) 8 nan ≡ plus_zero
unfolding grid_after mean_sign cross_of ring_of
left_out = refl

-- ---- refusals
accepted : way_of (in-middle dark one one) 18 ≡ Ok tt
unfolding way_of
accepted = refl

cut-tile : way_of (asked_of (1 ∷ 2 ∷ []) 3 around 1 1 (record { x = one; y = one })) 18 ≡ Err BadImage
unfolding way_of
cut-tile = refl

-- the ring leaves the tile at the end of a row, though the cell's number is below nine
sideways : way_of (asked_of dark 3 (pos 2 ∷ pos 0 ∷ drop 2 around) 1 1 (record { x = one; y = one })) 18 ≡ Err BadRing
unfolding way_of
sideways = refl

at-the-rim : way_of (asked_of dark 3 around 2 1 (record { x = one; y = one })) 18 ≡ Err BadRing
unfolding way_of
at-the-rim = refl

odd-grid : way_of (in-middle dark one one) 17 ≡ Err BadOut
unfolding way_of
odd-grid = refl

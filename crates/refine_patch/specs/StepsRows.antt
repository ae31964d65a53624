-- The sums of the four patches' first samples, as the definition has them.
use Rattle.std.specs.Prelude.{List, ℕ, ◌+◌, ◌*◌, ◌/◌, get_or, Float}
use Rattle.shapes.specs.Numbers.{plus_zero, entry}
use Rattle.shapes.specs.Turns.{turns}
use Rattle.refine_operator.specs.Basis.{samples}
use Rattle.refine_formulas.specs.Numbers.{◌⊕◌, ◌⊖◌, ◌⊗◌}
use Rattle.refine_patch.specs.declared.Firsts.{Firsts}
use Rattle.refine_patch.specs.declared.Sums.{Sums}
use Rattle.refine_patch.specs.StepsFrom.{sample_from}
use Rattle.refine_patch.specs.StepsFour.{lane_of, quad_by, sums_by, float_of}

-- the samples that lie `by` past the first ones
abbrev pub centres_of : List ℕ → Firsts → ℕ → List Float
centres_of list at by = quad_by (λ l. float_of (get_or list (lane_of at l + by) 0))

-- what the sample k adds to the coefficient i of the patch that begins at first
abbrev pub term : List ℕ → ℕ → List Float → ℕ → ℕ → ℕ → ℕ → Float → Float
term list pitch columns radius first i k a =
    a ⊕ entry columns (5 * k + i) ⊗ (sample_from list pitch radius first k ⊖ sample_from list pitch radius first (samples radius / 2))

-- those of the first n samples
abbrev pub sums_after : List ℕ → ℕ → List Float → ℕ → Firsts → ℕ → Sums
sums_after list pitch columns radius at n = sums_by (λ c l. turns n (term list pitch columns radius (lane_of at l) c) plus_zero)

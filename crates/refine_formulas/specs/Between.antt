-- The bilinear blend of the four fits about a window between pixels.
use Rattle.std.specs.Prelude.{List, Float}
use Rattle.shapes.specs.Lists.{tabulated}
use Rattle.shapes.specs.Numbers.{one, entry}
use Rattle.refine_formulas.specs.Numbers.{◌⊕◌, ◌⊖◌, ◌⊗◌}
use Rattle.refine_formulas.specs.declared.Corners.{Corners}

-- ---- the weights of the four pixels
abbrev pub weight00 : Float → Float → Float
weight00 tx ty = (one ⊖ tx) ⊗ (one ⊖ ty)

abbrev pub weight10 : Float → Float → Float
weight10 tx ty = tx ⊗ (one ⊖ ty)

abbrev pub weight01 : Float → Float → Float
weight01 tx ty = (one ⊖ tx) ⊗ ty

abbrev pub weight11 : Float → Float → Float
weight11 tx ty = tx ⊗ ty

unfoldable pub blend : Corners → Float → Float → List Float
unfolding tabulated
blend c tx ty = tabulated 5 (λ k. weight00 tx ty ⊗ entry c.c00 k ⊕ weight10 tx ty ⊗ entry c.c10 k ⊕ weight01 tx ty ⊗ entry c.c01 k ⊕ weight11 tx ty ⊗ entry c.c11 k)

-- What the inner functions of the blend, of the slope and of the covariance do.
use Rattle.std.specs.Prelude.{cond, List, ℕ, ◌+◌, ◌*◌, Float, Option}
use Rattle.std.specs.Float.Ieee.{eq}
use Rattle.shapes.specs.Lists.{tabulated}
use Rattle.shapes.specs.Numbers.{plus_zero, one, entry}
use Rattle.shapes.specs.Turns.{turns}
use Rattle.refine_formulas.specs.declared.Jacobian.{Jacobian}
use Rattle.refine_formulas.specs.declared.Covariance.{Covariance}
use Rattle.refine_formulas.specs.Numbers.{◌⊕◌, ◌⊖◌, ◌⊗◌}
use Rattle.refine_formulas.specs.Between.{weight00, weight10, weight01, weight11}
use Rattle.refine_formulas.specs.Sensitivity.{dot}
use Rattle.refine_formulas.specs.Covariance.{times_kernel, known}

-- one coefficient of the blend
abbrev pub mixed_of : Float → Float → Float → Float → Float → Float → Float
mixed_of tx ty a b c d = weight00 tx ty ⊗ a ⊕ weight10 tx ty ⊗ b ⊕ weight01 tx ty ⊗ c ⊕ weight11 tx ty ⊗ d

-- one coefficient of the slope: from a to b and from c to d, weighed by the fraction t
abbrev pub gone_by : Float → Float → Float → Float → Float → Float
gone_by a b c d t = (one ⊖ t) ⊗ (b ⊖ a) ⊕ t ⊗ (d ⊖ c)

-- one shift's part added to the entry i of K
abbrev pub weighed : List Float → List Float → ℕ → ℕ → Float → Float
weighed overlap weights i d a = cond (eq (entry weights d) plus_zero) a (a ⊕ entry weights d ⊗ entry overlap (25 * d + i))

-- the entry i of K after n shifts
unfoldable pub entry_after : List Float → List Float → ℕ → ℕ → Float
unfolding turns
entry_after overlap weights n i = turns n (weighed overlap weights i) plus_zero

-- p and q times the two rows of the Jacobian
unfoldable pub combined : Jacobian → Float → Float → List Float
unfolding tabulated
combined j p q = tabulated 5 (λ k. p ⊗ entry j.first k ⊕ q ⊗ entry j.second k)

-- A K Aᵀ, where the rows of A are a and b
unfoldable pub spread_of : List Float → List Float → List Float → Option Covariance
unfolding times_kernel
spread_of k a b = known (dot (times_kernel a k) a) (dot (times_kernel a k) b) (dot (times_kernel b k) b)

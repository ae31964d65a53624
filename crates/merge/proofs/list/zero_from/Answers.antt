-- The tail is filled.
use native.Mathlib.Omega.{arith}
use Rattle.std.proofs.lemmas.Grind.{common_steps}
use lib.Ieee.{of_bits}
use Rattle.merge.proofs.list.zero_from.Goals as goal

pub returns : goal.returns
unfolding of_bits
returns c = let e = c.fill.ensures.after (λ y h. h) in grind (arith, common_steps, e)

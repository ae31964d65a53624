-- `refine_patch::wide_of` meets its contract.
use mathlib.Core.Path.{sym}
use native.Mathlib.Omega.{arith}
use Rattle.refine_patch.proofs.RowLaws.{wide-small, wide-large}
use Rattle.refine_patch.proofs.wide_of.Goals as goal

pub returns-then-radius-lt4 : goal.returns-then-radius-lt4
returns-then-radius-lt4 c = sym (wide-small c.args.radius (omega arith))

pub returns-else-radius-lt4 : goal.returns-else-radius-lt4
returns-else-radius-lt4 c = sym (wide-large c.args.radius (omega arith))

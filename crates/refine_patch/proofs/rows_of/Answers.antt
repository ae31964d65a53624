-- `refine_patch::rows_of` meets its contract.
use mathlib.Core.Path.{sym}
use native.Mathlib.Omega.{arith}
use Rattle.refine_patch.proofs.RowLaws.{rows-small, rows-large}
use Rattle.refine_patch.proofs.rows_of.Goals as goal

pub returns-then-radius-lt3 : goal.returns-then-radius-lt3
returns-then-radius-lt3 c = sym (rows-small c.args.radius (omega arith))

pub returns-else-radius-lt3 : goal.returns-else-radius-lt3
returns-else-radius-lt3 c = sym (rows-large c.args.radius (omega arith))

-- After i turns the sums have i samples of the row.
use mathlib.Core.Path.{◌≡◌}
use Rattle.refine_fits.specs.StepsAdding.{row_added}
use Rattle.refine_fits.proofs.fits.add_row.Given as goal

abbrev pub invariant-loop-i : goal.invariant-loop-i
invariant-loop-i g l = l.sums ≡ row_added l.numbers (g.S.Sample.levels l.row) l.centre l.from l.i l.initial.sums

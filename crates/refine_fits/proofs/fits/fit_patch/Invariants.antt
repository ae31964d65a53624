-- After some rows the sums have these rows' samples.
use mathlib.Core.Path.{◌≡◌}
use Prim.Native.Nat.{◌*◌}
use Rattle.refine_operator.specs.Basis as Basis
use Rattle.refine_fits.specs.StepsAdding.{sums_of}
use Rattle.refine_fits.proofs.fits.fit_patch.Given as goal

abbrev pub invariant-loop-row : goal.invariant-loop-row
invariant-loop-row g l = l.sums ≡ sums_of l.image l.columns.numbers.now l.columns.radius l.x l.y (l.row * Basis.side l.columns.radius)

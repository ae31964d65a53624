-- `floats::magnitude_f64` meets its contract, by the laws of the leaves at binary64.
use Rattle.std.proofs.Common.{T, sym, subst}
use lib.Ieee.{binary64, of_bits}
use Rattle.floats.proofs.LeafLaws.{difference, magnitude-above}
use Rattle.floats.proofs.magnitude_f64.Goals as goal

pub returns-then-x : goal.returns-then-x
unfolding of_bits
returns-then-x c = difference binary64 c.args.x (subst T (sym c.well_formed.0.1) tt) c.if-x.true

pub returns-else-x : goal.returns-else-x
unfolding of_bits
returns-else-x c = magnitude-above c.args.x c.if-x.false

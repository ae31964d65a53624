-- `refine_fits::place::whole_near` meets its contract: one law for each sign.
use mathlib.Core.Path.{sym}
use lib.Ieee.{of_bits, neg}
use Rattle.refine_fits.proofs.PlaceLaws.{near-below, near-above, not-above}
use Rattle.refine_fits.proofs.place.whole_near.Goals as goal

pub returns-then-o : goal.returns-then-o
unfolding of_bits
returns-then-o c = sym (near-above c.args.o c.requires c.if-o.true)

pub returns-else-o : goal.returns-else-o
unfolding of_bits neg
returns-else-o c = sym (near-below c.args.o c.requires (not-above c.args.o c.requires c.if-o.false))

-- `refine_fits::place::step_near` meets its contract: the whole number before the offset, as an integer.
use mathlib.Core.Path.{sym, ap}
use lib.Ieee.{Float, of_bits, neg, to_signed}
use Rattle.refine_fits.proofs.PlaceLaws.{near-below, near-above, not-below}
use Rattle.refine_fits.proofs.place.step_near.Goals as goal

pub returns-then-o : goal.returns-then-o
unfolding of_bits neg to_signed
returns-then-o c = sym (ap (λ (v : Float). to_signed 31 v) (near-below c.args.o c.requires c.if-o.true))

pub returns-else-o : goal.returns-else-o
unfolding of_bits to_signed
returns-else-o c = sym (ap (λ (v : Float). to_signed 31 v) (near-above c.args.o c.requires (not-below c.args.o c.requires c.if-o.false)))

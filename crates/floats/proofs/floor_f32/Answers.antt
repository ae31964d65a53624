-- `floats::floor_f32` meets its contract: a small value of either sign is one law, and what is left stays.
use Rattle.std.proofs.Common.{T, false, pos, sym, ap, ◌∙◌, subst}
use mathlib.Core.Bool.{and-eq-true_iff}
use lib.Ieee.{Float, fin, binary32, of_bits, lt, neg}
use Rattle.floats.specs.Whole.{floor}
use Rattle.floats.proofs.WholeLaws.{floor-keeps, kept, flipped, neg-neg}
use Rattle.floats.proofs.floor_f32.Goals as goal

pub whole_below-requires-clause-with_fractions : goal.whole_below-requires-clause-with_fractions
unfolding of_bits
whole_below-requires-clause-with_fractions c = subst T (sym ((and-eq-true_iff (lt (fin false 0 (pos 0)) c.args.x) (lt c.args.x (fin false 1 (pos 23)))).0 c.if-x.true).1) tt

pub whole_above-requires : goal.whole_above-requires
unfolding of_bits
whole_above-requires c =
    let t = (and-eq-true_iff (lt c.args.x (fin false 0 (pos 0))) (lt (neg (fin false 1 (pos 23))) c.args.x)).0 c.if-x-2.true in
    let both = flipped 23 c.args.x t.0 t.1 in
    record { above_zero = both.0; with_fractions = both.1 }

pub returns-then-x-2 : goal.returns-then-x-2
unfolding of_bits
returns-then-x-2 c = c.whole_above.ensures ∙ ap (λ (z : Float). floor binary32 z) (neg-neg c.args.x)

pub returns-else-x-2 : goal.returns-else-x-2
unfolding of_bits
returns-else-x-2 c = kept binary32 (floor binary32) (floor-keeps binary32) c.args.x (subst T (sym c.well_formed.0.1) tt) c.if-x.false c.if-x-2.false

-- `floats::f32_to_usize` meets its contract: each branch is one law of the saturating conversion.
use Rattle.std.proofs.Common.{T, sym, subst}
use lib.Ieee.{of_bits}
use Rattle.floats.proofs.SaturatingLaws.{unsigned-low, unsigned-high, above_minus_one}
use Rattle.floats.proofs.f32_to_usize.Goals as goal

pub truncating_f32_to_u64-requires : goal.truncating_f32_to_u64-requires
unfolding of_bits
truncating_f32_to_u64-requires c = record { lower_bound = above_minus_one c.args.x c.if-x.true; upper_bound = subst T (sym c.if-x-2.true) tt }

pub returns-then-x : goal.returns-then-x
unfolding of_bits
returns-then-x c = unsigned-high 64 c.args.x c.if-x.true c.if-x-2.false

pub returns : goal.returns
unfolding of_bits
returns c = unsigned-low 64 c.args.x c.if-x.false

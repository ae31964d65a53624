-- `floats::whole_below` meets its contract: the whole part is the floor above zero.
use Rattle.std.proofs.Common.{ℕ, pos, ap, ◌∙◌, arith, lit≤}
use lib.Ieee.{binary32, of_int}
use Rattle.floats.proofs.PartLaws.{between, small, floor-of, in-float}
use Rattle.floats.proofs.SaturatingLaws.{above_minus_one, under-larger}
use Rattle.floats.proofs.whole_below.Goals as goal

pub truncating_f32_to_u64-requires : goal.truncating_f32_to_u64-requires
truncating_f32_to_u64-requires c = record { lower_bound = above_minus_one c.args.x (lib.Ieee.Bits.is_true _ c.requires.above_zero); upper_bound = under-larger 23 64 c.args.x (lit≤ tt) (lib.Ieee.Bits.is_true _ c.requires.with_fractions) }

pub int_to_float-result : goal.int_to_float-result
int_to_float-result c = in-float binary32 _ (omega (arith, c.truncating_f32_to_u64.ensures, small binary32 23 64 c.args.x (lit≤ tt) (between 23 c.args.x c.requires.above_zero c.requires.with_fractions)))

pub returns : goal.returns
returns c = ap (λ (n : ℕ). of_int binary32 (pos n)) c.truncating_f32_to_u64.ensures ∙ floor-of binary32 23 64 c.args.x (lit≤ tt) (between 23 c.args.x c.requires.above_zero c.requires.with_fractions)

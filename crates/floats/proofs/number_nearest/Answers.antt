-- `floats::number_nearest` meets its contract: x + x is exact, and half of its whole part, rounded up, is the nearest whole number.
use Rattle.std.proofs.Common.{ℕ, ◌+◌, ◌/◌, T, pos, sym, ap, ◌∙◌, subst, arith, lit≤}
use lib.Ieee.{binary32, of_int}
use Rattle.floats.proofs.PartLaws.{between, double-above, double-under, double-small, round-of}
use Rattle.floats.proofs.number_nearest.Goals as goal

pub truncating_f32_to_u64-requires : goal.truncating_f32_to_u64-requires
truncating_f32_to_u64-requires c = record { lower_bound = double-above binary32 23 64 c.args.x (lit≤ tt) (lit≤ tt) (between 23 c.args.x c.requires.above_zero c.requires.with_fractions) (subst T (sym c.well_formed.0.1) tt); upper_bound = double-under binary32 23 64 c.args.x (lit≤ tt) (lit≤ tt) (between 23 c.args.x c.requires.above_zero c.requires.with_fractions) (subst T (sym c.well_formed.0.1) tt) }

pub overflow_add-result : goal.overflow_add-result
overflow_add-result c = omega (arith, c.truncating_f32_to_u64.ensures, double-small binary32 23 64 c.args.x (lit≤ tt) (lit≤ tt) (between 23 c.args.x c.requires.above_zero c.requires.with_fractions) (subst T (sym c.well_formed.0.1) tt))

pub returns : goal.returns
returns c = record {
  nearest = ap (λ (n : ℕ). of_int binary32 (pos ((n + 1) / 2))) c.truncating_f32_to_u64.ensures ∙ round-of binary32 23 64 c.args.x (lit≤ tt) (lit≤ tt) (between 23 c.args.x c.requires.above_zero c.requires.with_fractions) (subst T (sym c.well_formed.0.1) tt);
  exact = omega (arith, c.truncating_f32_to_u64.ensures, double-small binary32 23 64 c.args.x (lit≤ tt) (lit≤ tt) (between 23 c.args.x c.requires.above_zero c.requires.with_fractions) (subst T (sym c.well_formed.0.1) tt));
}

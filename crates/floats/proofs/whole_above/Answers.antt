-- `floats::whole_above` meets its contract: one more than the whole part where there is a fraction, and the whole part where there is none.
use Rattle.std.proofs.Common.{ℕ, ◌+◌, pos, sym, ap, ◌∙◌, arith, lit≤}
use lib.Ieee.{binary32, lt, neg, of_int}
use lib.Ieee.Bits.{is_true}
use Rattle.floats.proofs.PartLaws.{between, small, above_of, exact-of, in-float}
use Rattle.floats.proofs.SaturatingLaws.{above_minus_one, under-larger}
use Rattle.floats.proofs.whole_above.Goals as goal

pub truncating_f32_to_u64-below-requires : goal.truncating_f32_to_u64-below-requires
truncating_f32_to_u64-below-requires c = record { lower_bound = above_minus_one c.args.x (is_true _ c.requires.above_zero); upper_bound = under-larger 23 64 c.args.x (lit≤ tt) (is_true _ c.requires.with_fractions) }

pub int_to_float-below : goal.int_to_float-below
int_to_float-below c = in-float binary32 _ (omega (arith, c.truncating_f32_to_u64-below.ensures, small binary32 23 64 c.args.x (lit≤ tt) (between 23 c.args.x c.requires.above_zero c.requires.with_fractions)))

pub overflow_add-result : goal.overflow_add-result
overflow_add-result c = omega (arith, c.truncating_f32_to_u64-below.ensures, small binary32 23 64 c.args.x (lit≤ tt) (between 23 c.args.x c.requires.above_zero c.requires.with_fractions))

pub int_to_float-result : goal.int_to_float-result
int_to_float-result c = in-float binary32 _ (omega (arith, c.truncating_f32_to_u64-below.ensures, small binary32 23 64 c.args.x (lit≤ tt) (between 23 c.args.x c.requires.above_zero c.requires.with_fractions)))

pub returns-then-below-x : goal.returns-then-below-x
returns-then-below-x c =
    ap (λ (n : ℕ). neg (of_int binary32 (pos (n + 1)))) c.truncating_f32_to_u64-below.ensures
    ∙ above_of binary32 23 64 c.args.x (lit≤ tt) (between 23 c.args.x c.requires.above_zero c.requires.with_fractions) (lit≤ tt)
    (sym (ap (λ (n : ℕ). lt (of_int binary32 (pos n)) c.args.x) c.truncating_f32_to_u64-below.ensures) ∙ c.if-below-x.true)

pub int_to_float-result-2 : goal.int_to_float-result-2
int_to_float-result-2 c = in-float binary32 _ (omega (arith, c.truncating_f32_to_u64-below.ensures, small binary32 23 64 c.args.x (lit≤ tt) (between 23 c.args.x c.requires.above_zero c.requires.with_fractions)))

pub returns : goal.returns
returns c =
    ap (λ (n : ℕ). neg (of_int binary32 (pos n))) c.truncating_f32_to_u64-below.ensures
    ∙ exact-of binary32 23 64 c.args.x (lit≤ tt) (between 23 c.args.x c.requires.above_zero c.requires.with_fractions) (lit≤ tt)
    (sym (ap (λ (n : ℕ). lt (of_int binary32 (pos n)) c.args.x) c.truncating_f32_to_u64-below.ensures) ∙ c.if-below-x.false)

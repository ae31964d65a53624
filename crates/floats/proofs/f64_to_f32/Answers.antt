-- `floats::f64_to_f32` meets its contract: a NaN, a pattern with no sign, and one with the sign set.
use Rattle.std.proofs.Common.{◌≡◌, ℕ, ◌+◌, ◌-◌, ◌%◌, ◌≤◌, not, T, sym, ap, ◌∙◌, subst, arith}
use lib.Ieee.{Float, nan_bits, binary32, binary64, of_bits, to_bits, div, neg, fits, is_nan}
use lib.Ieee.Bits.{of_bits-to_bits, to_bits-lt}
use lib.Ieee.Compare.{differs_from_itself}
use Rattle.floats.specs.Convert.{convert}
use Rattle.floats.proofs.NarrowLaws.{convert-neg}
use Rattle.floats.proofs.BitLaws.{number, number-bits, not-nan-bits, sign-bits}
use Rattle.floats.proofs.f64_to_f32.Goals as goal

upto : (x : Float) → T (fits binary64 x) → T (not (is_nan x)) → to_bits binary64 x % 0x8000_0000_0000_0000 ≤ 0x7ff0_0000_0000_0000
upto x p h = number-bits binary64 x p h

read : (r : ℕ) → r ≤ 0x7f80_0000 → T (not (nan_bits binary32 r))
read r h = not-nan-bits binary32 r (omega arith)

signed : (x : Float) (r : ℕ) → T (fits binary64 x) → 0x8000_0000_0000_0000 ≤ to_bits binary64 x → of_bits binary32 r ≡ convert binary32 (of_bits binary64 (to_bits binary64 x - 0x8000_0000_0000_0000)) → neg (of_bits binary32 r) ≡ convert binary32 x
signed x r p h e =
    let n = to_bits binary64 x in
    ap neg e
    ∙ convert-neg binary32 (of_bits binary64 (n - 0x8000_0000_0000_0000))
    ∙ ap (λ (z : Float). convert binary32 z) (sign-bits binary64 (n - 0x8000_0000_0000_0000) (omega (arith, to_bits-lt binary64 x p)))
    ∙ ap (λ (z : ℕ). convert binary32 (of_bits binary64 z)) (whole n h)
    ∙ ap (λ (z : Float). convert binary32 z) (of_bits-to_bits binary64 x p)
  where
    whole : (n : ℕ) → 0x8000_0000_0000_0000 ≤ n → 0x8000_0000_0000_0000 + (n - 0x8000_0000_0000_0000) ≡ n
    whole n h = omega arith

pub returns-then-x : goal.returns-then-x
unfolding of_bits div convert
returns-then-x c = ap (λ (z : Float). convert binary32 z) (sym (differs_from_itself c.args.x (subst T (sym c.if-x.true) tt)))

pub float_to_bits-bits : goal.float_to_bits-bits
float_to_bits-bits c = number c.args.x c.if-x.false

pub narrowed-requires : goal.narrowed-requires
narrowed-requires c = omega (arith, upto c.args.x (subst T (sym c.well_formed.0.1) tt) (number c.args.x c.if-x.false))

pub float_from_bits-result : goal.float_from_bits-result
float_from_bits-result c = read c.narrowed.result c.narrowed.ensures.number

pub returns-then-bits-lt9223372036854775808 : goal.returns-then-bits-lt9223372036854775808
returns-then-bits-lt9223372036854775808 c = c.narrowed.ensures.is ∙ ap (λ (z : Float). convert binary32 z) (of_bits-to_bits binary64 c.args.x (subst T (sym c.well_formed.0.1) tt))

pub narrowed-requires-2 : goal.narrowed-requires-2
narrowed-requires-2 c = omega (arith, upto c.args.x (subst T (sym c.well_formed.0.1) tt) (number c.args.x c.if-x.false), to_bits-lt binary64 c.args.x (subst T (sym c.well_formed.0.1) tt))

pub float_from_bits-result-2 : goal.float_from_bits-result-2
float_from_bits-result-2 c = read c.narrowed-2.result c.narrowed-2.ensures.number

pub returns : goal.returns
returns c = signed c.args.x c.narrowed-2.result (subst T (sym c.well_formed.0.1) tt) c.if-bits-lt9223372036854775808.false c.narrowed-2.ensures.is

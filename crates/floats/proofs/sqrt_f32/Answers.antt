-- `floats::sqrt_f32` meets its contract: in each branch the tests say which x it is (`proofs/RootCases.antt`), and `root_bits` has the root of the rest.
use Rattle.std.proofs.Common.{◌≡◌, ◌%◌, Bool, true, false, not, T, sym, refl, ap, ◌∙◌, subst, arith}
use lib.Arith.{le→nltb}
use lib.Ieee.{Float, nan, inf, binary32, div, lt, eq, fits, of_bits}
use lib.Ieee.Bits.{of_bits-to_bits, nan_bits_above}
use lib.Ieee.Positive.{positive}
use Rattle.floats.specs.Root.{sqrt}
use Rattle.floats.proofs.RootCases.{+0, is_positive, not-nan, above_zero, below_inf, sqrt-inf, sqrt-zero, sqrt-none}
use Rattle.floats.proofs.sqrt_f32.Goals as goal

-- the constants as MIR has them, by their bit patterns
zero_is : of_bits binary32 0 ≡ +0
unfolding of_bits
zero_is = refl

inf-is : div binary32 (of_bits binary32 0x3f80_0000) (of_bits binary32 0) ≡ inf false
unfolding div of_bits
inf-is = refl

nan_is : div binary32 (of_bits binary32 0) (of_bits binary32 0) ≡ nan
unfolding div of_bits
nan_is = refl

is-root : (c : goal.Then-x-2) → T (positive c.args.x)
is-root c =
    let x = c.args.x in
    is_positive x (subst (λ (z : Float). lt z x ≡ true) zero_is c.if-x.true) (subst (λ (z : Float). lt x z ≡ true) inf-is c.if-x-2.true)

pub float_to_bits-x : goal.float_to_bits-x
float_to_bits-x c = not-nan c.args.x (is-root c)

pub root_bits-requires : goal.root_bits-requires
root_bits-requires c =
    let held : T (fits binary32 c.args.x) = subst T (sym c.well_formed.0.1) tt in
    let x = c.args.x in
    record { above_zero = above_zero binary32 x (held) (is-root c); is_finite = below_inf binary32 x (held) (is-root c) }

pub float_from_bits-result : goal.float_from_bits-result
float_from_bits-result c =
    let r = c.root_bits.result in
    subst (λ (z : Bool). T (not z)) (sym (nan_bits_above binary32 r)) (le→nltb 0x7f80_0000 (r % 0x8000_0000) (omega (arith, c.root_bits.ensures.number)))

pub returns-then-x-2 : goal.returns-then-x-2
returns-then-x-2 c =
    let held : T (fits binary32 c.args.x) = subst T (sym c.well_formed.0.1) tt in
    c.root_bits.ensures.is ∙ ap (λ (z : Float). sqrt binary32 z) (of_bits-to_bits binary32 c.args.x (held))

pub returns-then-x : goal.returns-then-x
returns-then-x c =
    let x = c.args.x in
    sqrt-inf binary32 x (subst (λ (z : Float). lt z x ≡ true) zero_is c.if-x.true) (subst (λ (z : Float). lt x z ≡ false) inf-is c.if-x-2.false)

pub returns-then-x-3 : goal.returns-then-x-3
returns-then-x-3 c =
    let x = c.args.x in
    sqrt-zero binary32 x (subst (λ (z : Float). eq x z ≡ true) zero_is c.if-x-3.true)

pub returns : goal.returns
returns c =
    let x = c.args.x in
    nan_is ∙ sqrt-none binary32 x (subst (λ (z : Float). lt z x ≡ false) zero_is c.if-x.false) (subst (λ (z : Float). eq x z ≡ false) zero_is c.if-x-3.false)

-- `floats::f32_to_i32` meets its contract: each branch is one law of the saturating conversion.
use Rattle.std.proofs.Common.{◌≡◌, true, ℤ, sym, ap, ◌∙◌, subst, lit≤, w32, w64, SFits, to_z, of_z}
use lib.Ieee.{Float, of_bits, lt, neg, to_signed}
use lib.Ieee.Casts.{to_signed_in}
use mir.ValLaws.{to_z-of_z}
use Rattle.floats.proofs.SaturatingLaws.{power, signed-nan, signed_low, signed_high, signed_same, under-larger, above-larger}
use Rattle.floats.proofs.f32_to_i32.Goals as goal

-- between the ends the wider integer is the narrower one
same : (z : ℤ) (x : Float) → z ≡ to_signed 63 x → lt x (power 31) ≡ true → lt (neg (power 31)) x ≡ true → to_z w64 (of_z w64 z) ≡ to_signed 31 x
same z x e h g = to_z-of_z w64 z (subst (λ (y : ℤ). SFits w64 y) (sym e) (record { sfits = to_signed_in 63 x })) ∙ e ∙ signed_same 31 63 x (lit≤ tt) h g

pub truncating_f32_to_i64-requires : goal.truncating_f32_to_i64-requires
unfolding of_bits neg
truncating_f32_to_i64-requires c = record { lower_bound = above-larger 31 63 c.args.x (lit≤ tt) c.if-x-2.true; upper_bound = under-larger 31 63 c.args.x (lit≤ tt) c.if-x.true }

pub overflow_cast-result : goal.overflow_cast-result
unfolding of_bits neg
overflow_cast-result c =
    subst (λ (y : ℤ). SFits w32 y) (sym (same c.truncating_f32_to_i64.result c.args.x c.truncating_f32_to_i64.ensures c.if-x.true c.if-x-2.true))
    (record { sfits = to_signed_in 31 c.args.x })

pub returns-then-x-2 : goal.returns-then-x-2
unfolding of_bits neg
returns-then-x-2 c =
    ap (λ (y : ℤ). to_z w32 (of_z w32 y)) (same c.truncating_f32_to_i64.result c.args.x c.truncating_f32_to_i64.ensures c.if-x.true c.if-x-2.true)
    ∙ to_z-of_z w32 (to_signed 31 c.args.x) (record { sfits = to_signed_in 31 c.args.x })

pub returns-then-x : goal.returns-then-x
unfolding of_bits neg
returns-then-x c = signed_low 31 c.args.x c.if-x.true c.if-x-2.false

pub returns-then-x-3 : goal.returns-then-x-3
unfolding of_bits
returns-then-x-3 c = signed_high 31 c.args.x c.if-x.false c.if-x-3.true

pub returns : goal.returns
unfolding of_bits
returns c = signed-nan 31 c.args.x c.if-x-3.false

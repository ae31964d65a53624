-- `floats::round_to_i32` meets its contract: the nearest whole number is what its float is converted to, and else the two steps are the definition's.
use Rattle.std.proofs.Common.{◌≡◌, ℕ, ◌≤◌, false, T, ℤ, pos, sym, ap, ◌∙◌, subst, arith, w32, SFits, to_z, of_z}
use mathlib.Core.Bool.{and-eq-true_iff}
use lib.Ieee.{Float, fin, binary32, of_bits, of_int, to_signed, lt}
use lib.Ieee.Back.{positive_back}
use lib.Ieee.Casts.{to_signed_in}
use mir.ValLaws.{to_z_pos, to_z-of_z}
use Rattle.floats.specs.Whole.{round_away}
use Rattle.floats.proofs.PartLaws.{in-float}
use Rattle.floats.proofs.round_to_i32.Goals as goal

converted : (n : ℕ) (x : Float) → n ≤ 8388608 → of_int binary32 (pos n) ≡ round_away binary32 x → to_z w32 n ≡ to_signed 31 (round_away binary32 x)
converted n x h e = to_z_pos w32 n (omega arith) ∙ sym (positive_back binary32 31 n (in-float binary32 n (omega arith)) (omega arith)).1 ∙ ap (λ (v : Float). to_signed 31 v) e

in-steps : (x f : Float) (z : ℤ) → f ≡ round_away binary32 x → z ≡ to_signed 31 f → to_z w32 (of_z w32 z) ≡ to_signed 31 (round_away binary32 x)
in-steps x f z p q = to_z-of_z w32 z (subst (λ (y : ℤ). SFits w32 y) (sym q) (record { sfits = to_signed_in 31 f })) ∙ q ∙ ap (λ (v : Float). to_signed 31 v) p

pub number_nearest-requires : goal.number_nearest-requires
unfolding of_bits
number_nearest-requires c =
    let t = (and-eq-true_iff (lt (fin false 0 (pos 0)) c.args.x) (lt c.args.x (fin false 1 (pos 23)))).0 c.if-x.true in
    record { above_zero = subst T (sym t.0) tt; with_fractions = subst T (sym t.1) tt }

pub returns-then-x : goal.returns-then-x
returns-then-x c = converted c.number_nearest.result c.args.x c.number_nearest.ensures.exact c.number_nearest.ensures.nearest

pub returns : goal.returns
returns c = in-steps c.args.x c.round_f32.result c.f32_to_i32.result c.round_f32.ensures c.f32_to_i32.ensures

-- `floats::narrowed` meets its contract: each branch is one law on the exponent's field.
use Rattle.std.proofs.Common.{◌≡◌, ℕ, suc, ◌+◌, ◌-◌, ◌*◌, ◌/◌, ◌%◌, ◌^◌, ◌<◌, ◌≤◌, sym, ap, ◌∙◌, subst, arith, pow_pos, pow_mono}
use lib.Ieee.Nearest.{closest}
use Rattle.floats.specs.Steps.{Narrowed}
use Rattle.floats.proofs.NarrowLaws.{bits-normal, bits_small, bits-tiny, bits-large, shifted, half_twice}
use Rattle.floats.proofs.narrowed.Goals as goal

normal : (b r : ℕ) → r ≡ closest (b % 2 ^ 52 + 2 ^ 52) (2 ^ 29) → 897 ≤ b / 2 ^ 52 → b / 2 ^ 52 < 1151 → Narrowed b ((b / 2 ^ 52 - 897) * 2 ^ 23 + r)
normal b r e h g = subst (λ (z : ℕ). Narrowed b ((b / 2 ^ 52 - 897) * 2 ^ 23 + z)) (sym e) (bits-normal b (omega arith) h g)

small : (b r : ℕ) → r ≡ closest (b % 2 ^ 52 + 2 ^ 52) (1 * 2 ^ (925 - b / 2 ^ 52) % 2 ^ 64 + 1 * 2 ^ (925 - b / 2 ^ 52) % 2 ^ 64) → 872 ≤ b / 2 ^ 52 → b / 2 ^ 52 < 897 → Narrowed b r
small b r e h g =
    subst (λ (z : ℕ). Narrowed b z) (sym (e ∙ ap (λ (z : ℕ). closest (b % 2 ^ 52 + 2 ^ 52) z) (half_twice (925 - b / 2 ^ 52) (omega arith))))
    (bits_small b (omega arith) (suc (925 - b / 2 ^ 52)) (omega arith) (omega arith))

pub returns-then-field-ge1151 : goal.returns-then-field-ge1151
returns-then-field-ge1151 c = bits-large c.args.bits (omega arith) c.if-field-ge1151.true c.requires

pub overflow_add-result : goal.overflow_add-result
overflow_add-result c = omega (arith, (normal c.args.bits c.nearest_even.result c.nearest_even.ensures c.if-field-ge897.true c.if-field-ge1151.false).number)

pub overflow_cast-result : goal.overflow_cast-result
overflow_cast-result c = omega (arith, (normal c.args.bits c.nearest_even.result c.nearest_even.ensures c.if-field-ge897.true c.if-field-ge1151.false).number)

pub returns-then-field-ge897 : goal.returns-then-field-ge897
returns-then-field-ge897 c = normal c.args.bits c.nearest_even.result c.nearest_even.ensures c.if-field-ge897.true c.if-field-ge1151.false

pub nearest_even-requires-then-field-ge872 : goal.nearest_even-requires-then-field-ge872
nearest_even-requires-then-field-ge872 c = record { digits = omega arith; some = subst (λ (z : ℕ). 0 < z) (sym (shifted (925 - c.args.bits / 2 ^ 52) (omega arith))) (pow_pos (925 - c.args.bits / 2 ^ 52)); halves = subst (λ (z : ℕ). z ≤ 2 ^ 53) (sym (shifted (925 - c.args.bits / 2 ^ 52) (omega arith))) (pow_mono {i = 925 - c.args.bits / 2 ^ 52} {j = 53} (omega arith)) }

pub overflow_cast-result-then-field-ge872 : goal.overflow_cast-result-then-field-ge872
overflow_cast-result-then-field-ge872 c = omega (arith, (small c.args.bits c.nearest_even-then-field-ge872.result c.nearest_even-then-field-ge872.ensures c.if-field-ge872.true c.if-field-ge897.false).number)

pub returns-then-field-ge872 : goal.returns-then-field-ge872
returns-then-field-ge872 c = small c.args.bits c.nearest_even-then-field-ge872.result c.nearest_even-then-field-ge872.ensures c.if-field-ge872.true c.if-field-ge897.false

pub returns : goal.returns
returns c = bits-tiny c.args.bits c.if-field-ge872.false

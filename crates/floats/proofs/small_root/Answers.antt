-- `floats::small_root` meets its contract. The loop's invariant: n * 2 ^ (k + k) stays what the root is taken of, and n stays below 2 ^ 48.
-- The measure is k, which is above 0 while n is below 2 ^ 46.
use Rattle.std.proofs.Common.{◌≡◌, ℕ, zero, suc, ◌+◌, ◌-◌, ◌*◌, ◌^◌, ◌<◌, sym, refl, ap, ◌∙◌, inr, le_trans, le_of_eq, mul-le-mul_right, zero-lt-suc, mul_assoc, zero-add, mul-one, not-le_of_lt, arith, lit<, lit≤}
use Rattle.floats.proofs.Roots.{gather, rooted}
use Rattle.floats.proofs.small_root.Goals as goal

above_zero : (b n k : ℕ) → 0 < b → n < 2 ^ 46 → n * 2 ^ (k + k) ≡ b * 2 ^ 149 → 0 < k
above_zero b n zero h l e = absurd (not-le_of_lt l (le_trans (lit≤ tt) (le_trans (mul-le-mul_right (2 ^ 149) h) (le_of_eq (sym e ∙ mul-one n)))))
above_zero b n (suc k) h l e = zero-lt-suc k

falls : (c : goal.In-loop-n) → 0 < c.loop-n.k
falls c = above_zero c.args.bits c.loop-n.n c.loop-n.k c.requires.above_zero c.loop-n-test.true c.loop-n.invariant.0

pub loop-n-init : goal.loop-n-init
loop-n-init c = (mul_assoc c.args.bits (2 ^ 23) (2 ^ 126), omega arith, lit< tt)

pub overflow_sub-k : goal.overflow_sub-k
overflow_sub-k c = falls c

pub loop-n-smaller : goal.loop-n-smaller
loop-n-smaller c = omega (arith, falls c)

pub loop-n-preserved : goal.loop-n-preserved
loop-n-preserved c =
    let n = c.loop-n.n in
    let k = c.loop-n.k in
    (gather n 2 (k - 1 + (k - 1)) (k + k) (omega (arith, falls c)) ∙ c.loop-n.invariant.0, omega arith, omega arith)

pub returns : goal.returns
returns c =
    let bits = c.args.bits in
    let n = c.loop-n.n in
    let k = c.loop-n.k in
    rooted bits bits 0 n k c.rounded_root.result c.requires.above_zero (omega arith) (inr refl) (lit< tt)
    (ap (λ (z : ℕ). z * 2 ^ 149) (mul-one bits) ∙ sym c.loop-n.invariant.0)
    (omega arith) (omega arith) (omega arith) (sym (zero-add bits)) c.rounded_root.ensures

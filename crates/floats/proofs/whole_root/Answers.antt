-- `floats::whole_root` meets its contract. The loop's invariant: the root is at most r, which each of Newton's steps keeps (`newton`).
-- The measure is r: a step goes down while n / r is below r. Where it is not, r * r is at most n, and r is the root.
use Rattle.std.proofs.Common.{◌≡◌, ℕ, zero, suc, ◌+◌, ◌-◌, ◌*◌, ◌/◌, ◌<◌, ◌≤◌, Bool, true, false, not, T, leb, sym, ap, subst, le_trans, le_of_eq, lt_of_lt_of_le, le_of_lt, zero-lt-suc, lt-suc_self, mul_comm, div-lt_iff_lt-mul, add-mul, mul-le-mul, lt_of_mul-lt-mul_right, mul-lt-mul_of_pos_right, le-div_iff_mul-le, mul-add, arith, leb→le}
use lib.Dec.{nleb→lt}
use Rattle.floats.proofs.Roots.{root-unique}
use Rattle.floats.proofs.NearestRoots.{doubled}
use Rattle.floats.proofs.whole_root.Goals as goal

-- four times a product is at most the square of the sum
product_le : (r s : ℕ) → s * r * 4 ≤ (r + s) * (r + s)
product_le r s = go (leb r s) (leb→le r s) (nleb→lt r s)
  where
    apart : (a d : ℕ) → (a + d) * a * 4 ≤ (a + (a + d)) * (a + (a + d))
    apart a d = simp (mul-add, add-mul) (omega (arith, mul_comm a d))

    more : (a b : ℕ) → a ≤ b → a + (b - a) ≡ b
    more a b h = omega arith

    go : (b : Bool) → (T b → r ≤ s) → (T (not b) → s < r) → s * r * 4 ≤ (r + s) * (r + s)
    go true h k = subst (λ (z : ℕ). z * r * 4 ≤ (r + z) * (r + z)) (more r s (h tt)) (apart r (s - r))
    go false h k =
        subst (λ (z : ℕ). s * z * 4 ≤ (z + s) * (z + s)) (more s r (le_of_lt (k tt)))
        (le_trans (le_of_eq (ap (λ (z : ℕ). z * 4) (mul_comm s (s + (r - s))))) (le_trans (apart s (r - s)) (le_of_eq (ap (λ (z : ℕ). z * z) (native.Mathlib.Nat.add_comm s (s + (r - s)))))))

-- a step from any r comes out at the root or above it
newton : (n r : ℕ) → 0 < r → n < suc ((r + n / r) / 2) * suc ((r + n / r) / 2)
newton n r P =
    let t = suc ((r + n / r) / 2) in
    let h : n < suc (n / r) * r = (div-lt_iff_lt-mul P).0 (lt-suc_self (n / r)) in
    let g : r + suc (n / r) ≤ t + t = halves r (n / r) in
    lt_of_mul-lt-mul_right 4
    (lt_of_lt_of_le (mul-lt-mul_of_pos_right h (zero-lt-suc 3)) (le_trans (product_le r (suc (n / r))) (le_trans (mul-le-mul g g) (le_of_eq (doubled t)))))
  where
    halves : (a d : ℕ) → a + suc d ≤ suc ((a + d) / 2) + suc ((a + d) / 2)
    halves a d = omega arith

above_zero : (n r : ℕ) → 0 < n → n < suc r * suc r → 0 < r
above_zero n zero h k = omega arith
above_zero n (suc r) h k = zero-lt-suc r

pub loop-r-init : goal.loop-r-init
loop-r-init c =
    let n = c.args.n in
    let h = newton n 11863283 (zero-lt-suc 11863282) in
    (h, above_zero n ((11863283 + n / 11863283) / 2) c.requires h, omega arith)

pub nonzero_div-n : goal.nonzero_div-n
nonzero_div-n c = c.loop-r.invariant.1

pub nonzero_div-r-in-loop-r : goal.nonzero_div-r-in-loop-r
nonzero_div-r-in-loop-r c = c.loop-r.invariant.1

pub loop-r-preserved : goal.loop-r-preserved
loop-r-preserved c =
    let n = c.args.n in
    let r = c.loop-r.r in
    let h = newton n r c.loop-r.invariant.1 in
    (h, above_zero n ((r + n / r) / 2) c.requires h, omega arith)

pub returns : goal.returns
returns c =
    let n = c.args.n in
    let r = c.loop-r.r in
    sym (root-unique n r ((le-div_iff_mul-le c.loop-r.invariant.1).0 c.loop-r-test.false, c.loop-r.invariant.0))

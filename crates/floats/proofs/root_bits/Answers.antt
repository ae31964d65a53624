-- `floats::root_bits` meets its contract: what is handed to `rounded_root` is the value's digits, m, with the zeros that make its exponent even.
use Rattle.std.proofs.Common.{◌≡◌, ℕ, ◌+◌, ◌-◌, ◌*◌, ◌/◌, ◌%◌, ◌^◌, ◌<◌, ◌≤◌, sym, ◌∙◌, inl, arith}
use Rattle.floats.specs.Steps.{Rooted, nearest_root}
use Rattle.floats.proofs.Roots.{gather, rooted}
use Rattle.floats.proofs.root_bits.Goals as goal

-- with z zeros behind m, where m * 2 ^ z * 2 ^ (k + k) is the square that is asked
normal : (bits z k r : ℕ) → 2 ^ 23 ≤ bits → bits < 0x7f80_0000 → z + (k + k) ≡ bits / 2 ^ 23 + 148 → 2 ^ 46 ≤ (bits % 2 ^ 23 + 2 ^ 23) * 2 ^ z → (bits % 2 ^ 23 + 2 ^ 23) * 2 ^ z < 2 ^ 48 → k < 192 → r ≡ k * 2 ^ 23 + nearest_root ((bits % 2 ^ 23 + 2 ^ 23) * 2 ^ z) → Rooted bits r
normal bits z k r h g e lo hi K d =
    let m = bits % 2 ^ 23 + 2 ^ 23 in
    let j = bits / 2 ^ 23 - 1 in
    rooted bits m j (m * 2 ^ z) k r (omega arith) (omega arith) (inl (omega arith)) (omega arith)
    (gather m j 149 (bits / 2 ^ 23 + 148) (omega arith) ∙ sym (gather m z (k + k) (bits / 2 ^ 23 + 148) e))
    lo hi K (omega arith) d

pub returns-then-field-eq1 : goal.returns-then-field-eq1
returns-then-field-eq1 c =
    let bits = c.args.bits in
    normal bits 23 ((bits / 2 ^ 23 + 125) / 2) c.rounded_root.result (omega arith) (omega arith) (omega arith) (omega arith) (omega arith) (omega arith) c.rounded_root.ensures

pub returns : goal.returns
returns c =
    let bits = c.args.bits in
    normal bits 24 ((bits / 2 ^ 23 + 125) / 2) c.rounded_root-2.result (omega arith) (omega arith) (omega arith) (omega arith) (omega arith) (omega arith) c.rounded_root-2.ensures

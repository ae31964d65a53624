-- `floats::rounded_root` meets its contract: q is the root of n, and n is past the middle of q and q + 1 where what is left of n is above q.
use Rattle.std.proofs.Common.{◌+◌, ◌*◌, ◌^◌, ◌<◌, ◌≤◌, arith}
use Rattle.floats.proofs.Roots.{root-square, root-under, nearest-root-up, nearest-root-down}
use Rattle.floats.proofs.rounded_root.Goals as goal

short : (c : goal.After-whole_root-q) → c.whole_root-q.result < 2 ^ 24
short c = root-under c.args.n c.whole_root-q.result (2 ^ 24) c.whole_root-q.ensures c.requires.few

square : (c : goal.After-whole_root-q) → c.whole_root-q.result * c.whole_root-q.result ≤ c.args.n
square c = root-square c.args.n c.whole_root-q.result c.whole_root-q.ensures

pub overflow_cast-down : goal.overflow_cast-down
overflow_cast-down c = omega (arith, short c)

pub overflow_add-down : goal.overflow_add-down
overflow_add-down c = omega (arith, short c)

pub overflow_mul-q : goal.overflow_mul-q
overflow_mul-q c = omega (arith, square c)

pub overflow_sub-n : goal.overflow_sub-n
overflow_sub-n c = square c

pub overflow_add-result : goal.overflow_add-result
overflow_add-result c =
    let short : c.whole_root-q.result < 2 ^ 24 = root-under c.args.n c.whole_root-q.result (2 ^ 24) c.whole_root-q.ensures c.requires.few in
    omega (arith, short)

pub returns-then-q-n : goal.returns-then-q-n
returns-then-q-n c =
    let square : c.whole_root-q.result * c.whole_root-q.result ≤ c.args.n = root-square c.args.n c.whole_root-q.result c.whole_root-q.ensures in
    let n = c.args.n in
    let q = c.whole_root-q.result in
    let past : q * q + q < n = omega (arith, square) in
    omega (arith, nearest-root-up n q c.whole_root-q.ensures past)

pub returns : goal.returns
returns c =
    let square : c.whole_root-q.result * c.whole_root-q.result ≤ c.args.n = root-square c.args.n c.whole_root-q.result c.whole_root-q.ensures in
    let n = c.args.n in
    let q = c.whole_root-q.result in
    let upto : n ≤ q * q + q = omega (arith, square) in
    omega (arith, nearest-root-down n q c.whole_root-q.ensures upto)

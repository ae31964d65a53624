-- Demand 3, for every limit P = 2 ^ p up to 4096: the written value stands for N / 5 (`stands`), and two values are in the order of their N (`orders`).
-- What the three roundings move adds up to 8 · P steps of 2 ^ -22, and five times that is the distance. N is a whole number, so its sign and its order
-- show where twice the distance is below 2 ^ 22.
use mathlib.Core.Path.{◌≡◌, refl, ◌∙◌}
use mathlib.Core.Logic.{inl, inr}
use Prim.Native.Nat.{ℕ, ◌+◌, ◌*◌, ◌^◌, ◌≤◌, ◌<◌}
use native.Mathlib.Omega.{arith}
use mathlib.Core.Bool.{Bool, true, false}
use lib.Dec.{ltb, lit≤, lt→ltb}
use lib.Pow.{pow_pos}
use lib.Ieee.{Float, below}
use lib.Ieee.Bits.{is_true}
use lib.Ieee.Exact.{HasValue}
use Rattle.floats.proofs.Fractions.{lt-value}
use Rattle.shapes.specs.Numbers.{plus_zero}
use Rattle.pixel_response.specs.Samples.{apart, square_sum, edge_sum, ring_sum, cross_sum, gain, loss, value_of, response_of}
use Rattle.pixel_response.specs.Near.{ByAtMost, Near, Stands, Orders}
use Rattle.pixel_response.proofs.SumLaws.{Bounded, bounded}
use Rattle.pixel_response.proofs.ValueLaws.{Way, way, limit, Apart, apart_by, value-zero}

-- ---- how close: sixteen times the middle to |5 · ring - 16 · cross|, then the value to N
record Middle (P g m : ℕ) : Type 0 where
  under : 5 * m ≤ g * 2 ^ 22 + 20 * P
  over : g * 2 ^ 22 ≤ 5 * m + 20 * P

middle-close : (s : Bool) (P ring cross q m g : ℕ) → Rattle.floats.proofs.Half.Near (q * 5) (cross * 2 ^ 26) (5 * (P * 4)) → ByAtMost (P * 4) s (2 * m) (2 * (ring * 2 ^ 22)) (2 * q)
    → Apart (5 * ring) (16 * cross) g → Middle P g m
middle-close false P ring cross q m g n w (inl a) = record { under = omega arith; over = omega arith }
middle-close false P ring cross q m g n w (inr a) = record { under = omega arith; over = omega arith }
middle-close true P ring cross q m g n w (inl a) = record { under = omega arith; over = omega arith }
middle-close true P ring cross q m g n w (inr a) = record { under = omega arith; over = omega arith }

all-close : (s : Bool) (P sr dr m q g : ℕ) → Middle P g m → ByAtMost (P * 8) s (2 * q) (2 * (sr * 2 ^ 22)) (2 * (dr * 2 ^ 22 + m)) → ByAtMost (40 * P) s (5 * q) (5 * sr * 2 ^ 22) ((5 * dr + g) * 2 ^ 22)
all-close false P sr dr m q g n w = (omega arith, omega arith)
all-close true P sr dr m q g n w = (omega arith, omega arith)

way-close : (P sr dr ring cross : ℕ) (v : Float) (y : Way P sr dr ring cross v) → ByAtMost (40 * P) y.negative (5 * y.units) (5 * sr * 2 ^ 22) ((5 * dr + apart (5 * ring) (16 * cross)) * 2 ^ 22)
way-close P sr dr ring cross v y =
    all-close y.negative P sr dr y.middle y.units (apart (5 * ring) (16 * cross))
    (middle-close y.inner P ring cross y.fifth y.middle (apart (5 * ring) (16 * cross)) y.fifth-near y.middle-near (apart_by (5 * ring) (16 * cross)))
    y.near

-- ---- the sign and the order, by the distance
zero-value : HasValue plus_zero false 0 1
zero-value = (refl, refl)

above_zero : (s : Bool) (P q plus minus : ℕ) → P ≤ 4096 → ByAtMost (40 * P) s (5 * q) (plus * 2 ^ 22) (minus * 2 ^ 22) → minus < plus → below false (0 * 2 ^ 22) s (q * 1) ≡ true
above_zero false P q plus minus h w l = is_true (ltb 0 (q * 1)) (lt→ltb 0 (q * 1) (omega arith))
above_zero true P q plus minus h w l = absurd (omega arith)

below-zero : (s : Bool) (P q plus minus : ℕ) → P ≤ 4096 → ByAtMost (40 * P) s (5 * q) (plus * 2 ^ 22) (minus * 2 ^ 22) → plus < minus → below s (q * 1) false (0 * 2 ^ 22) ≡ true
below-zero false P q plus minus h w l = absurd (omega arith)
below-zero true P q plus minus h w l = is_true (ltb 0 (q * 1 + 0)) (lt→ltb 0 (q * 1 + 0) (omega arith))

in_order : (s t : Bool) (P q r plus minus plus' minus' : ℕ) → P ≤ 4096 → ByAtMost (40 * P) s (5 * q) (plus * 2 ^ 22) (minus * 2 ^ 22) → ByAtMost (40 * P) t (5 * r) (plus' * 2 ^ 22) (minus' * 2 ^ 22)
    → plus + minus' < plus' + minus → below s (q * 2 ^ 22) t (r * 2 ^ 22) ≡ true
in_order false false P q r plus minus plus' minus' h w v l = is_true (ltb (q * 2 ^ 22) (r * 2 ^ 22)) (lt→ltb (q * 2 ^ 22) (r * 2 ^ 22) (omega arith))
in_order false true P q r plus minus plus' minus' h w v l = absurd (omega arith)
in_order true false P q r plus minus plus' minus' h w v l = is_true (ltb 0 (q * 2 ^ 22 + r * 2 ^ 22)) (lt→ltb 0 (q * 2 ^ 22 + r * 2 ^ 22) (omega arith))
in_order true true P q r plus minus plus' minus' h w v l = is_true (ltb (r * 2 ^ 22) (q * 2 ^ 22)) (lt→ltb (r * 2 ^ 22) (q * 2 ^ 22) (omega arith))

-- ---- of the four sums
value-stands : (p sr dr ring cross : ℕ) → p ≤ 12 → Bounded (2 ^ p) sr dr ring cross → Near (2 ^ p) (value_of sr dr ring cross) (5 * sr) (5 * dr + apart (5 * ring) (16 * cross))
value-stands p sr dr ring cross le b =
    let v = value_of sr dr ring cross in
    let y = way p sr dr ring cross le b in
    let plus = 5 * sr in
    let minus = 5 * dr + apart (5 * ring) (16 * cross) in
    let w = way-close (2 ^ p) sr dr ring cross v y in
    record {
      negative = y.negative;
      units = y.units;
      size = y.size;
      close = w;
      above = λ l. lt-value plus_zero v false y.negative 0 1 y.units (2 ^ 22) (pow_pos 0) (pow_pos 22) zero-value y.size ∙ above_zero y.negative (2 ^ p) y.units plus minus (limit p le) w l;
      none = value-zero p sr dr ring cross le b;
      below = λ l. lt-value v plus_zero y.negative false y.units (2 ^ 22) 0 1 (pow_pos 22) (pow_pos 0) y.size zero-value ∙ below-zero y.negative (2 ^ p) y.units plus minus (limit p le) w l;
    }

-- ---- of the samples
response-is : (s c : ℕ → ℕ) → response_of s c ≡ value_of (square_sum s) (edge_sum s) (ring_sum s) (cross_sum c)
unfolding response_of
response-is s c = refl

gain-is : (s : ℕ → ℕ) → gain s ≡ 5 * square_sum s
unfolding gain
gain-is s = refl

loss-is : (s c : ℕ → ℕ) → loss s c ≡ 5 * edge_sum s + apart (5 * ring_sum s) (16 * cross_sum c)
unfolding loss
loss-is s c = refl

pub stands : (p : ℕ) → p ≤ 12 → Stands (2 ^ p)
stands p le s c h k =
    rw (response-is s c, gain-is s, loss-is s c) (value-stands p (square_sum s) (edge_sum s) (ring_sum s) (cross_sum c) le (bounded (2 ^ p) s c h k))

pub orders : (p : ℕ) → p ≤ 12 → Orders (2 ^ p)
orders p le s c s' c' h k h' k' l =
    let n = stands p le s c h k in
    let n' = stands p le s' c' h' k' in
    lt-value (response_of s c) (response_of s' c') n.negative n'.negative n.units (2 ^ 22) n'.units (2 ^ 22) (pow_pos 22) (pow_pos 22) n.size n'.size
    ∙ in_order n.negative n'.negative (2 ^ p) n.units n'.units (gain s) (loss s c) (gain s') (loss s' c') (limit p le) n.close n'.close l

-- ---- bytes
pub stands-256 : Stands 256
stands-256 = stands 8 (lit≤ tt)

pub orders-256 : Orders 256
orders-256 = orders 8 (lit≤ tt)

-- ---- words of twelve bits
pub stands-4096 : Stands 4096
stands-4096 = stands 12 (lit≤ tt)

pub orders-4096 : Orders 4096
orders-4096 = orders 12 (lit≤ tt)

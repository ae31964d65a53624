-- The arithmetic of one pixel: distances, and the sums of the ring taken quarter by quarter.
use mathlib.Core.Path.{◌≡◌, refl, sym, ap, ◌∙◌, subst}
use Prim.Native.Nat.{ℕ, zero, suc, ◌+◌, ◌-◌, ◌*◌, ◌≤◌, ◌<◌, zero-le}
use native.Mathlib.Nat.{zero-add, suc-mul, add-le-add}
use native.Mathlib.Numerals.{add-one}
use native.Mathlib.Omega.{arith}
use Rattle.pixel_response.specs.Samples.{total, apart, square_sum, edge_sum, ring_sum, cross_sum, gain, loss, value_of, response_of}
use Rattle.pixel_response.specs.Steps.{Bounded, square_of, edges_of, sum_of, cross_of, quarter_of}

pub apart-most : (a b m : ℕ) → a ≤ m → b ≤ m → apart a b ≤ m
unfolding apart
apart-most a b m p q = omega arith

-- a quarter's edges from its two distances, with their bound
pub edges-from : (a b c d x y : ℕ) → x ≡ apart a c → y ≡ apart b d → x + y ≡ edges_of a b c d
unfolding edges_of
edges-from a b c d x y p q = ap (λ (z : ℕ). z + y) p ∙ ap (λ (z : ℕ). apart a c + z) q

pub edges_most : (m a b c d x y : ℕ) → a ≤ m → b ≤ m → c ≤ m → d ≤ m → x ≡ apart a c → y ≡ apart b d → x + y ≤ 2 * m
edges_most m a b c d x y p q r s e f = omega (arith, apart-most a c m p r, apart-most b d m q s)

pub four : (f : ℕ → ℕ → ℕ → ℕ → ℕ) (a b c d a' b' c' d' : ℕ) → a ≡ a' → b ≡ b' → c ≡ c' → d ≡ d' → f a b c d ≡ f a' b' c' d'
four f a b c d a' b' c' d' p q r s = cc

-- one more term
pub total-more : (n : ℕ) (f : ℕ → ℕ) → total n f + f n ≡ total (n + 1) f
unfolding total
total-more n f = ap (λ (k : ℕ). total k f) (sym (add-one n))

pub total-cong : (n : ℕ) (f g : ℕ → ℕ) → ((k : ℕ) → k < n → f k ≡ g k) → total n f ≡ total n g
unfolding total
total-cong zero f g h = refl
total-cong (suc n) f g h = ap (λ (z : ℕ). z + f n) (total-cong n f g (λ k l. h k (omega arith))) ∙ ap (λ (z : ℕ). total n g + z) (h n (omega arith))

-- the sums of the ring, by quarters
pub squares : (s : ℕ → ℕ) → total 4 (quarter_of square_of s) ≡ square_sum s
unfolding square_sum total square_of
squares s = refl

edges-added : (a b c d e f g h : ℕ) → 0 + (a + e) + (b + f) + (c + g) + (d + h) ≡ 0 + a + b + c + d + e + f + g + h
edges-added a b c d e f g h = omega arith

pub edges : (s : ℕ → ℕ) → total 4 (quarter_of edges_of s) ≡ edge_sum s
unfolding edge_sum total edges_of
edges s = edges-added (apart (s 0) (s 8)) (apart (s 1) (s 9)) (apart (s 2) (s 10)) (apart (s 3) (s 11)) (apart (s 4) (s 12)) (apart (s 5) (s 13)) (apart (s 6) (s 14)) (apart (s 7) (s 15))

pub sums : (s : ℕ → ℕ) → total 4 (quarter_of sum_of s) ≡ ring_sum s
unfolding ring_sum total
sums s = omega arith

pub crosses : (c : ℕ → ℕ) → cross_of (c 0) (c 1) (c 2) (c 3) (c 4) ≡ cross_sum c
unfolding cross_sum total
crosses c = ap (λ (z : ℕ). z + c 1 + c 2 + c 3 + c 4) (sym (zero-add (c 0)))

-- ---- the sums of the first k quarters of samples below P, with their bounds
pub record Quarters (P : ℕ) (s : ℕ → ℕ) (k square edge sum : ℕ) : Type 0 where
  pub square-is : square ≡ total k (quarter_of square_of s)
  pub edge-is : edge ≡ total k (quarter_of edges_of s)
  pub sum_is : sum ≡ total k (quarter_of sum_of s)
  pub square-most : square ≤ k * (2 * (P - 1))
  pub edge-most : edge ≤ k * (2 * (P - 1))
  pub sum-most : sum ≤ k * (4 * (P - 1))

pub none : (P : ℕ) (s : ℕ → ℕ) → Quarters P s 0 0 0 0
unfolding total
none P s = record { square-is = refl; edge-is = refl; sum_is = refl; square-most = zero-le; edge-most = zero-le; sum-most = zero-le }

added : (f : ℕ → ℕ) (k a v : ℕ) → a ≡ total k f → v ≡ f k → a + v ≡ total (k + 1) f
added f k a v p q = ap (λ (z : ℕ). z + v) p ∙ ap (λ (z : ℕ). total k f + z) q ∙ total-more k f

added-most : (k b a v : ℕ) → a ≤ k * b → v ≤ b → a + v ≤ (k + 1) * b
added-most k b a v h l = subst (λ (z : ℕ). a + v ≤ z * b) (sym (add-one k)) (subst (λ (z : ℕ). a + v ≤ z) (sym (suc-mul k b)) (add-le-add h l))

pub more : (P : ℕ) (s : ℕ → ℕ) (k square edge sum x y z : ℕ) → Quarters P s k square edge sum
    → Bounded (quarter_of square_of s k) (2 * (P - 1)) x → Bounded (quarter_of edges_of s k) (2 * (P - 1)) y → Bounded (quarter_of sum_of s k) (4 * (P - 1)) z
    → Quarters P s (k + 1) (square + x) (edge + y) (sum + z)
more P s k square edge sum x y z q a b c =
    record {
      square-is = added (quarter_of square_of s) k square x q.square-is a.is;
      edge-is = added (quarter_of edges_of s) k edge y q.edge-is b.is;
      sum_is = added (quarter_of sum_of s) k sum z q.sum_is c.is;
      square-most = added-most k (2 * (P - 1)) square x q.square-most a.most;
      edge-most = added-most k (2 * (P - 1)) edge y q.edge-most b.most;
      sum-most = added-most k (4 * (P - 1)) sum z q.sum-most c.most;
    }

-- all four give the response
pub all : (P : ℕ) (s c : ℕ → ℕ) (k square edge sum five : ℕ) → k ≡ 4 → Quarters P s k square edge sum → five ≡ cross_of (c 0) (c 1) (c 2) (c 3) (c 4) → value_of square edge sum five ≡ response_of s c
unfolding response_of
all P s c k square edge sum five e q t =
    ap (λ (z : ℕ). value_of z edge sum five) (q.square-is ∙ ap (λ (j : ℕ). total j (quarter_of square_of s)) e ∙ squares s)
    ∙ ap (λ (z : ℕ). value_of (square_sum s) z sum five) (q.edge-is ∙ ap (λ (j : ℕ). total j (quarter_of edges_of s)) e ∙ edges s)
    ∙ ap (λ (z : ℕ). value_of (square_sum s) (edge_sum s) z five) (q.sum_is ∙ ap (λ (j : ℕ). total j (quarter_of sum_of s)) e ∙ sums s)
    ∙ ap (λ (z : ℕ). value_of (square_sum s) (edge_sum s) (ring_sum s) z) (t ∙ crosses c)

-- ---- the response depends on its 21 samples alone, and so does N
module _ (s c s' c' : ℕ → ℕ) (p : (k : ℕ) → k < 16 → s k ≡ s' k) (q : (k : ℕ) → k < 5 → c k ≡ c' k) where
  square-cong : square_sum s ≡ square_sum s'
  unfolding square_sum
  square-cong =
      total-cong 4 (λ k. apart (s k + s (k + 8)) (s (k + 4) + s (k + 12))) (λ k. apart (s' k + s' (k + 8)) (s' (k + 4) + s' (k + 12)))
      (λ k h. four (λ x y z w. apart (x + y) (z + w)) (s k) (s (k + 8)) (s (k + 4)) (s (k + 12)) (s' k) (s' (k + 8)) (s' (k + 4)) (s' (k + 12)) (p k (omega arith)) (p (k + 8) (omega arith)) (p (k + 4) (omega arith)) (p (k + 12) (omega arith)))

  edge-cong : edge_sum s ≡ edge_sum s'
  unfolding edge_sum
  edge-cong = total-cong 8 (λ k. apart (s k) (s (k + 8))) (λ k. apart (s' k) (s' (k + 8))) (λ k h. ap (λ (z : ℕ). apart z (s (k + 8))) (p k (omega arith)) ∙ ap (λ (z : ℕ). apart (s' k) z) (p (k + 8) (omega arith)))

  ring-cong : ring_sum s ≡ ring_sum s'
  unfolding ring_sum
  ring-cong = total-cong 16 s s' p

  cross-cong : cross_sum c ≡ cross_sum c'
  unfolding cross_sum
  cross-cong = total-cong 5 c c' q

  pub gain-cong : gain s ≡ gain s'
  unfolding gain
  gain-cong = cc square-cong

  pub loss-cong : loss s c ≡ loss s' c'
  unfolding loss
  loss-cong = cc (edge-cong, ring-cong, cross-cong)

  pub response-cong : response_of s c ≡ response_of s' c'
  unfolding response_of
  response-cong = cc (square-cong, edge-cong, ring-cong, cross-cong)

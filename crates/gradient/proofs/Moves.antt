-- How N moves where samples are raised, over plain numbers: one magnitude, then the squares, the edges and the means. s' is s with d added, c' is c with g added.
use mathlib.Core.Path.{◌≡◌, refl, sym, ap, ◌∙◌, subst}
use mathlib.Core.Logic.{inl, inr}
use mathlib.Core.Bool.{Bool, true, false, not, cond}
use Prim.Native.Nat.{ℕ, zero, suc, ◌+◌, ◌*◌, ◌/◌, ◌%◌, ◌<◌}
use native.Mathlib.Nat.{add_comm, mul-zero, mul-add}
use native.Mathlib.Omega.{arith}
use lib.Dec.{ltb, eqb}
use lib.IntN.{ℤ, pos, negsuc}
use borrow.Author.Tests.{lt-ltb, le-ltb}
use Rattle.pixel_response.specs.Samples.{total, apart, square_sum, edge_sum, ring_sum, cross_sum, gain, loss}
use Rattle.pixel_response.specs.Steps.{sum_of, quarter_of}
use Rattle.pixel_response.proofs.PixelLaws.{total-cong, sums}
use Rattle.gradient.specs.Coefficients.{sign_of}
use Rattle.gradient.specs.Claims.{Keeps, AllKeep}

-- ---- sums
-- n where b holds, else nothing
abbrev pub part : Bool → ℕ → ℕ
part true n = n
part false n = 0

total-none : (n : ℕ) → total n (λ k. 0) ≡ 0
unfolding total
total-none zero = refl
total-none (suc n) = let e = total-none n in omega (arith, e)

total-sum : (n : ℕ) (f g : ℕ → ℕ) → total n (λ k. f k + g k) ≡ total n f + total n g
unfolding total
total-sum zero f g = refl
total-sum (suc n) f g = let e = total-sum n f g in omega (arith, e)

total-times : (m n : ℕ) (f : ℕ → ℕ) → total n (λ k. m * f k) ≡ m * total n f
unfolding total
total-times m zero f = sym (mul-zero m)
total-times m (suc n) f = ap (λ (z : ℕ). z + m * f n) (total-times m n f) ∙ sym (mul-add m (total n f) (f n))

-- what moves each term moves the sum
total-moved : (n : ℕ) (f f' p q : ℕ → ℕ) → ((k : ℕ) → k < n → f' k + q k ≡ f k + p k) → total n f' + total n q ≡ total n f + total n p
unfolding total
total-moved zero f f' p q e = refl
total-moved (suc n) f f' p q e = let r = total-moved n f f' p q (λ k h. e k (omega arith)) in omega (arith, r, e n (omega arith))

-- the ring by its two ends of eight edges
ends : (f : ℕ → ℕ) → total 8 (λ e. f e + f (e + 8)) ≡ total 16 f
unfolding total
ends f = omega arith

-- ---- one difference
abbrev pub signed : Bool → ℤ
signed true = pos 1
signed false = negsuc 0

pub keeps-sign : {a b a' b' : ℕ} → Keeps a b a' b' → sign_of a b ≡ signed (ltb b a)
keeps-sign {a} {b} (inl h) =
    ap (λ (t : Bool). cond t (pos 1) (cond (ltb a b) (negsuc 0) (pos 0))) (le-ltb b a (omega arith)) ∙ ap (λ (t : Bool). cond t (negsuc 0) (pos 0)) (lt-ltb a b h.0) ∙ sym (ap signed (le-ltb b a (omega arith)))
keeps-sign {a} {b} (inr h) = ap (λ (t : Bool). cond t (pos 1) (cond (ltb a b) (negsuc 0) (pos 0))) (lt-ltb b a h.0) ∙ sym (ap signed (lt-ltb b a h.0))

moved_apart : (a b m n a' b' : ℕ) → a' ≡ a + m → b' ≡ b + n → Keeps a b a' b' → apart a' b' + (part (ltb b a) n + part (not (ltb b a)) m) ≡ apart a b + (part (ltb b a) m + part (not (ltb b a)) n)
unfolding apart
moved_apart a b m n a' b' p q (inl h) =
    subst (λ (t : Bool). apart a' b' + (part t n + part (not t) m) ≡ apart a b + (part t m + part (not t) n)) (sym (le-ltb b a (omega arith))) (omega (arith, p, q, h.0, h.1))
moved_apart a b m n a' b' p q (inr h) =
    subst (λ (t : Bool). apart a' b' + (part t n + part (not t) m) ≡ apart a b + (part t m + part (not t) n)) (sym (lt-ltb b a h.0)) (omega (arith, p, q, h.0, h.1))

part-sum : (b : Bool) (m n : ℕ) → part b (m + n) ≡ part b m + part b n
part-sum true m n = refl
part-sum false m n = refl

-- ---- a sign turned about, where t holds, and minus it
abbrev pub plus : Bool → Bool → Bool
plus true u = not u
plus false u = u

abbrev pub minus : Bool → Bool → Bool
minus true u = u
minus false u = not u

-- quarter q's square and edge e are above zero
abbrev pub square_up : (ℕ → ℕ) → ℕ → Bool
square_up s q = ltb (s (q + 4) + s (q + 12)) (s q + s (q + 8))

abbrev pub edge_up : (ℕ → ℕ) → ℕ → Bool
edge_up s e = ltb (s (e + 8)) (s e)

abbrev pub mean_up : (ℕ → ℕ) → (ℕ → ℕ) → Bool
mean_up s c = ltb (16 * cross_sum c) (5 * ring_sum s)

-- what the square of its quarter, the edge that it ends and the means add at place k of the ring, and what they take; the same of the cross
abbrev square_more : (ℕ → ℕ) → (ℕ → ℕ) → ℕ → ℕ
square_more s d k = part (plus (eqb (k / 4 % 2) 1) (square_up s (k % 4))) (d k)

abbrev square_less : (ℕ → ℕ) → (ℕ → ℕ) → ℕ → ℕ
square_less s d k = part (minus (eqb (k / 4 % 2) 1) (square_up s (k % 4))) (d k)

abbrev edge_more : (ℕ → ℕ) → (ℕ → ℕ) → ℕ → ℕ
edge_more s d k = part (plus (ltb k 8) (edge_up s (k % 8))) (d k)

abbrev edge_less : (ℕ → ℕ) → (ℕ → ℕ) → ℕ → ℕ
edge_less s d k = part (minus (ltb k 8) (edge_up s (k % 8))) (d k)

abbrev pub ring_more : (ℕ → ℕ) → (ℕ → ℕ) → (ℕ → ℕ) → ℕ → ℕ
ring_more s c d k = 5 * square_more s d k + 5 * edge_more s d k + 5 * part (not (mean_up s c)) (d k)

abbrev pub ring_less : (ℕ → ℕ) → (ℕ → ℕ) → (ℕ → ℕ) → ℕ → ℕ
ring_less s c d k = 5 * square_less s d k + 5 * edge_less s d k + 5 * part (mean_up s c) (d k)

abbrev pub cross_more : (ℕ → ℕ) → (ℕ → ℕ) → (ℕ → ℕ) → ℕ → ℕ
cross_more s c g k = 16 * part (mean_up s c) (g k)

abbrev pub cross_less : (ℕ → ℕ) → (ℕ → ℕ) → (ℕ → ℕ) → ℕ → ℕ
cross_less s c g k = 16 * part (not (mean_up s c)) (g k)

fives : (p q r : ℕ → ℕ) → total 16 (λ k. 5 * p k + 5 * q k + 5 * r k) ≡ 5 * total 16 p + 5 * total 16 q + 5 * total 16 r
fives p q r =
    total-sum 16 (λ k. 5 * p k + 5 * q k) (λ k. 5 * r k)
    ∙ ap (λ (z : ℕ). z + total 16 (λ k. 5 * r k)) (total-sum 16 (λ k. 5 * p k) (λ k. 5 * q k))
    ∙ ap (λ (z : ℕ). total 16 (λ k. 5 * p k) + total 16 (λ k. 5 * q k) + z) (total-times 5 16 r)
    ∙ ap (λ (z : ℕ). total 16 (λ k. 5 * p k) + z + 5 * total 16 r) (total-times 5 16 q)
    ∙ ap (λ (z : ℕ). z + 5 * total 16 q + 5 * total 16 r) (total-times 5 16 p)

module _ (s s' d : ℕ → ℕ) (e : (k : ℕ) → s' k ≡ s k + d k) where
  square-at : (q : ℕ) → Keeps (s q + s (q + 8)) (s (q + 4) + s (q + 12)) (s' q + s' (q + 8)) (s' (q + 4) + s' (q + 12))
      → apart (s' q + s' (q + 8)) (s' (q + 4) + s' (q + 12)) + (part (not (square_up s q)) (d q) + part (square_up s q) (d (q + 4)) + part (not (square_up s q)) (d (q + 8)) + part (square_up s q) (d (q + 12)))
      ≡ apart (s q + s (q + 8)) (s (q + 4) + s (q + 12)) + (part (square_up s q) (d q) + part (not (square_up s q)) (d (q + 4)) + part (square_up s q) (d (q + 8)) + part (not (square_up s q)) (d (q + 12)))
  square-at q h =
      let u = square_up s q in
      let m = moved_apart (s q + s (q + 8)) (s (q + 4) + s (q + 12)) (d q + d (q + 8)) (d (q + 4) + d (q + 12)) (s' q + s' (q + 8)) (s' (q + 4) + s' (q + 12)) (two (s' q) (s' (q + 8)) (s q) (s (q + 8)) (d q) (d (q + 8)) (e q) (e (q + 8))) (two (s' (q + 4)) (s' (q + 12)) (s (q + 4)) (s (q + 12)) (d (q + 4)) (d (q + 12)) (e (q + 4)) (e (q + 12))) h in
      four-parts (apart (s' q + s' (q + 8)) (s' (q + 4) + s' (q + 12))) (apart (s q + s (q + 8)) (s (q + 4) + s (q + 12))) _ _ _ _ _ _ _ _ _ _ _ _ m (part-sum u (d (q + 4)) (d (q + 12))) (part-sum (not u) (d q) (d (q + 8))) (part-sum u (d q) (d (q + 8))) (part-sum (not u) (d (q + 4)) (d (q + 12)))
    where
      two : (a' b' a b m n : ℕ) → a' ≡ a + m → b' ≡ b + n → a' + b' ≡ a + b + (m + n)
      two a' b' a b m n p q = omega arith

      four-parts : (x' x a b c f a₁ a₂ b₁ b₂ c₁ c₂ f₁ f₂ : ℕ) → x' + (a + b) ≡ x + (c + f) → a ≡ a₁ + a₂ → b ≡ b₁ + b₂ → c ≡ c₁ + c₂ → f ≡ f₁ + f₂ → x' + (b₁ + a₁ + b₂ + a₂) ≡ x + (c₁ + f₁ + c₂ + f₂)
      four-parts x' x a b c f a₁ a₂ b₁ b₂ c₁ c₂ f₁ f₂ m p q r t = omega arith

  squares-moved : ((q : ℕ) → q < 4 → Keeps (s q + s (q + 8)) (s (q + 4) + s (q + 12)) (s' q + s' (q + 8)) (s' (q + 4) + s' (q + 12))) → square_sum s' + total 16 (square_less s d) ≡ square_sum s + total 16 (square_more s d)
  unfolding square_sum ring_sum
  squares-moved h =
      ap (λ (z : ℕ). square_sum s' + z) (sym (sums (square_less s d)))
      ∙ total-moved 4 (λ k. apart (s k + s (k + 8)) (s (k + 4) + s (k + 12))) (λ k. apart (s' k + s' (k + 8)) (s' (k + 4) + s' (k + 12))) (quarter_of sum_of (square_more s d)) (quarter_of sum_of (square_less s d)) each
      ∙ ap (λ (z : ℕ). square_sum s + z) (sums (square_more s d))
    where
      each : (k : ℕ) → k < 4 → apart (s' k + s' (k + 8)) (s' (k + 4) + s' (k + 12)) + quarter_of sum_of (square_less s d) k ≡ apart (s k + s (k + 8)) (s (k + 4) + s (k + 12)) + quarter_of sum_of (square_more s d) k
      each zero l = square-at 0 (h 0 l)
      each (suc zero) l = square-at 1 (h 1 l)
      each (suc (suc zero)) l = square-at 2 (h 2 l)
      each (suc (suc (suc zero))) l = square-at 3 (h 3 l)
      each (suc (suc (suc (suc k)))) l = absurd (let z : ⊥ = omega arith in z)

  edge_at : (k : ℕ) → Keeps (s k) (s (k + 8)) (s' k) (s' (k + 8))
      → apart (s' k) (s' (k + 8)) + (part (not (edge_up s k)) (d k) + part (edge_up s k) (d (k + 8))) ≡ apart (s k) (s (k + 8)) + (part (edge_up s k) (d k) + part (not (edge_up s k)) (d (k + 8)))
  edge_at k h =
      ap (λ (z : ℕ). apart (s' k) (s' (k + 8)) + z) (add_comm (part (not (edge_up s k)) (d k)) (part (edge_up s k) (d (k + 8))))
      ∙ moved_apart (s k) (s (k + 8)) (d k) (d (k + 8)) (s' k) (s' (k + 8)) (e k) (e (k + 8)) h

  edges-moved : ((k : ℕ) → k < 8 → Keeps (s k) (s (k + 8)) (s' k) (s' (k + 8))) → edge_sum s' + total 16 (edge_more s d) ≡ edge_sum s + total 16 (edge_less s d)
  unfolding edge_sum
  edges-moved h =
      ap (λ (z : ℕ). edge_sum s' + z) (sym (ends (edge_more s d)))
      ∙ total-moved 8 (λ k. apart (s k) (s (k + 8))) (λ k. apart (s' k) (s' (k + 8))) (λ k. edge_less s d k + edge_less s d (k + 8)) (λ k. edge_more s d k + edge_more s d (k + 8)) each
      ∙ ap (λ (z : ℕ). edge_sum s + z) (ends (edge_less s d))
    where
      each : (k : ℕ) → k < 8 → apart (s' k) (s' (k + 8)) + (edge_more s d k + edge_more s d (k + 8)) ≡ apart (s k) (s (k + 8)) + (edge_less s d k + edge_less s d (k + 8))
      each zero l = edge_at 0 (h 0 l)
      each (suc zero) l = edge_at 1 (h 1 l)
      each (suc (suc zero)) l = edge_at 2 (h 2 l)
      each (suc (suc (suc zero))) l = edge_at 3 (h 3 l)
      each (suc (suc (suc (suc zero)))) l = edge_at 4 (h 4 l)
      each (suc (suc (suc (suc (suc zero))))) l = edge_at 5 (h 5 l)
      each (suc (suc (suc (suc (suc (suc zero)))))) l = edge_at 6 (h 6 l)
      each (suc (suc (suc (suc (suc (suc (suc zero))))))) l = edge_at 7 (h 7 l)
      each (suc (suc (suc (suc (suc (suc (suc (suc k)))))))) l = absurd (let z : ⊥ = omega arith in z)

  module _ (c c' g : ℕ → ℕ) (f : (k : ℕ) → c' k ≡ c k + g k) where
    means-moved : Keeps (5 * ring_sum s) (16 * cross_sum c) (5 * ring_sum s') (16 * cross_sum c')
        → apart (5 * ring_sum s') (16 * cross_sum c') + (16 * total 5 (λ k. part (mean_up s c) (g k)) + 5 * total 16 (λ k. part (not (mean_up s c)) (d k)))
        ≡ apart (5 * ring_sum s) (16 * cross_sum c) + (5 * total 16 (λ k. part (mean_up s c) (d k)) + 16 * total 5 (λ k. part (not (mean_up s c)) (g k)))
    unfolding ring_sum cross_sum
    means-moved h =
        let w = mean_up s c in
        let r : total 16 s' ≡ total 16 s + total 16 d = total-cong 16 s' (λ k. s k + d k) (λ k l. e k) ∙ total-sum 16 s d in
        let x : total 5 c' ≡ total 5 c + total 5 g = total-cong 5 c' (λ k. c k + g k) (λ k l. f k) ∙ total-sum 5 c g in
        four-parts _ _ _ _ _ _ _ _ _ _
        (moved_apart (5 * total 16 s) (16 * total 5 c) (5 * total 16 d) (16 * total 5 g) (5 * total 16 s') (16 * total 5 c') (five (total 16 s') (total 16 s) (total 16 d) r) (sixteen (total 5 c') (total 5 c) (total 5 g) x) h)
        (out w 16 5 g) (out (not w) 5 16 d) (out w 5 16 d) (out (not w) 16 5 g)
      where
        five : (a' a m : ℕ) → a' ≡ a + m → 5 * a' ≡ 5 * a + 5 * m
        five a' a m p = omega arith

        sixteen : (a' a m : ℕ) → a' ≡ a + m → 16 * a' ≡ 16 * a + 16 * m
        sixteen a' a m p = omega arith

        out : (b : Bool) (m n : ℕ) (q : ℕ → ℕ) → part b (m * total n q) ≡ m * total n (λ k. part b (q k))
        out true m n q = refl
        out false m n q = sym (ap (λ (z : ℕ). m * z) (total-none n) ∙ mul-zero m)

        four-parts : (x' x a b p q a₁ b₁ p₁ q₁ : ℕ) → x' + (a + b) ≡ x + (p + q) → a ≡ a₁ → b ≡ b₁ → p ≡ p₁ → q ≡ q₁ → x' + (a₁ + b₁) ≡ x + (p₁ + q₁)
        four-parts x' x a b p q a₁ b₁ p₁ q₁ m i j k l = omega arith

    -- N after is N before with what is added, less what is taken
    pub n-moved : AllKeep s c s' c' → gain s' + (loss s c + (total 16 (ring_less s c d) + total 5 (cross_less s c g))) ≡ gain s + (total 16 (ring_more s c d) + total 5 (cross_more s c g)) + loss s' c'
    unfolding gain loss
    n-moved k =
        let w = mean_up s c in
        settle (square_sum s) (square_sum s') (edge_sum s) (edge_sum s') (apart (5 * ring_sum s) (16 * cross_sum c)) (apart (5 * ring_sum s') (16 * cross_sum c'))
        (total 16 (square_more s d)) (total 16 (square_less s d)) (total 16 (edge_more s d)) (total 16 (edge_less s d)) (total 16 (λ j. part (not w) (d j))) (total 16 (λ j. part w (d j))) (total 5 (λ j. part w (g j))) (total 5 (λ j. part (not w) (g j))) _ _ _ _
        (squares-moved k.squares) (edges-moved k.edges) (means-moved k.means)
        (fives (square_more s d) (edge_more s d) (λ j. part (not w) (d j))) (fives (square_less s d) (edge_less s d) (λ j. part w (d j)))
        (total-times 16 5 (λ j. part w (g j))) (total-times 16 5 (λ j. part (not w) (g j)))
      where
        settle : (x x' y y' m m' xp xn yp yn dp dn gp gn rm rl cm cl : ℕ) → x' + xn ≡ x + xp → y' + yp ≡ y + yn → m' + (16 * gp + 5 * dp) ≡ m + (5 * dn + 16 * gn)
            → rm ≡ 5 * xp + 5 * yp + 5 * dp → rl ≡ 5 * xn + 5 * yn + 5 * dn → cm ≡ 16 * gp → cl ≡ 16 * gn
            → 5 * x' + (5 * y + m + (rl + cl)) ≡ 5 * x + (rm + cm) + (5 * y' + m')
        settle x x' y y' m m' xp xn yp yn dp dn gp gn rm rl cm cl p q r a b i j = omega arith

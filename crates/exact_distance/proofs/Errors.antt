-- What the roundings of a squared distance add up to, in plain numbers. Everything is counted in units, l of which are 1, and q + 1 stands for 2 ^ 24.
-- n are the exact units of a gap, g those of its rounded value, s and t those of the rounded squares, and r those of their rounded sum.
use mathlib.Core.Path.{◌≡◌, ap, ◌∙◌}
use Prim.Native.Nat.{ℕ, suc, ◌+◌, ◌*◌, ◌≤◌, ◌<◌}
use native.Mathlib.Nat.{le_trans, le_of_eq, mul-pos, mul_assoc, mul-le-mul, mul-le-mul_left, mul-le-mul_right, le_of_mul-le-mul_right}
use native.Mathlib.Omega.{arith}

-- a rounding that loses one part in q + 1
relative : (n g q : ℕ) → n * suc q ≤ g * suc q + n → n * q ≤ g * suc q
relative n g q h = omega arith

-- ---- one axis: the exact square against the rounded one
squared : (n g q p : ℕ) → n * q ≤ g * p → n * n * (q * q) ≤ g * g * (p * p)
squared n g q p h = omega (arith, mul-le-mul h h)

-- the square a / (l * l) loses half a unit besides, where 2 * h is q + 1
square-units : (a s l q h : ℕ) → 0 < l → suc q ≡ h * 2 → a * l * suc q ≤ s * (l * l) * suc q + a * l + h * (l * l) → a * q * 2 ≤ (s * 2 + 1) * l * suc q
square-units a s l q h L e k = le_of_mul-le-mul_right (omega (arith, ap (λ (z : ℕ). z * (l * l)) e)) L

both : (a b c q p : ℕ) → a * (q * q) ≤ b * (p * p) → b * q * 2 ≤ c * p → a * (q * q * q) * 2 ≤ c * (p * p * p)
both a b c q p h k = omega (arith, mul-le-mul_right (q * 2) h, mul-le-mul_right (p * p) k)

pub axis : (n g s l q h : ℕ) → 0 < l → suc q ≡ h * 2 → n * suc q ≤ g * suc q + n → g * g * l * suc q ≤ s * (l * l) * suc q + g * g * l + h * (l * l)
    → n * n * (q * q * q) * 2 ≤ (s * 2 + 1) * l * (suc q * suc q * suc q)
axis n g s l q h L e k m = both (n * n) (g * g) ((s * 2 + 1) * l) q (suc q) (squared n g q (suc q) (relative n g q k)) (square-units (g * g) s l q h L e m)

-- ---- both axes: c stands for q * q * q, and d for that of q + 1; the limit is m units, k at least
two-axes : (x y s t l c d : ℕ) → x * c * 2 ≤ (s * 2 + 1) * l * d → y * c * 2 ≤ (t * 2 + 1) * l * d → (x + y) * c ≤ (s + t + 1) * (l * d)
two-axes x y s t l c d h k = omega arith

rounded-sum : (w r m q : ℕ) → w * suc q ≤ r * suc q + w → r ≤ m → (w + 1) * q ≤ (m + 1) * suc q
rounded-sum w r m q h k = omega (arith, relative w r q h, mul-le-mul_right (suc q) k)

one_more : (m k : ℕ) → k ≤ m → (m + 1) * k ≤ m * suc k
one_more m k h = omega arith

chained : (e w c q b v p : ℕ) → e * c ≤ w * b → w * q ≤ v * p → e * (c * q) ≤ v * (b * p)
chained e w c q b v p h k = omega (arith, mul-le-mul_right q h, mul-le-mul_right b k)

-- of the errors together only a bound of closed numbers is asked, u * h ≤ z * h'
cancelled : (e z m l u h h' : ℕ) → 0 < z → e * z ≤ m * (l * u) → u * h ≤ z * h' → e * h ≤ m * l * h'
cancelled e z m l u h h' Z a b = le_of_mul-le-mul_right (omega (arith, mul-le-mul_right h a, mul-le-mul_left (m * l) b)) Z

pub within : (x y s t r m l q k h c d : ℕ) → x * c * 2 ≤ (s * 2 + 1) * l * d → y * c * 2 ≤ (t * 2 + 1) * l * d
    → (s + t) * suc q ≤ r * suc q + (s + t) → r ≤ m → k ≤ m → 0 < c * q * k → d * suc q * suc k * h ≤ c * q * k * suc h → (x + y) * h ≤ m * l * suc h
within x y s t r m l q k h c d ax ay sum under from pos fine =
    let a = chained (x + y) (s + t + 1) c q (l * d) (m + 1) (suc q) (two-axes x y s t l c d ax ay) (rounded-sum (s + t) r m q sum under) in
    let b = chained (x + y) (m + 1) (c * q) k (l * d * suc q) m (suc k) a (one_more m k from) in
    cancelled (x + y) (c * q * k) m l (d * suc q * suc k) h (suc h) pos (le_trans b (le_of_eq (ap (λ (z : ℕ). m * z) (spread l d (suc q) (suc k))))) fine
  where
    spread : (l d p k : ℕ) → l * d * p * k ≡ l * (d * p * k)
    spread l d p k = simp mul_assoc

-- ---- from units to the fractions gx / dx and gy / dy of the gaps and n / d of the limit
module _ (gx dx gy dy n d x y m l h h' : ℕ) (L : 0 < l) (ex : gx * l ≡ x * dx) (ey : gy * l ≡ y * dy) (en : n * l ≡ m * d) where
  whole-squares : (gx * gx * (dy * dy) + gy * gy * (dx * dx)) * (d * h) * (l * l) ≡ (x * x + y * y) * h * (dx * dx * (dy * dy) * d)
  whole-squares =
      spread gx gy dx dy d h l
      ∙ ap (λ (z : ℕ). (z * z * (dy * dy) + gy * l * (gy * l) * (dx * dx)) * (d * h)) ex
      ∙ ap (λ (z : ℕ). (x * dx * (x * dx) * (dy * dy) + z * z * (dx * dx)) * (d * h)) ey
      ∙ gather x y dx dy d h
    where
      spread : (a b u v d h l : ℕ) → (a * a * (v * v) + b * b * (u * u)) * (d * h) * (l * l) ≡ (a * l * (a * l) * (v * v) + b * l * (b * l) * (u * u)) * (d * h)
      spread a b u v d h l = omega arith

      gather : (x y u v d h : ℕ) → (x * u * (x * u) * (v * v) + y * v * (y * v) * (u * u)) * (d * h) ≡ (x * x + y * y) * h * (u * u * (v * v) * d)
      gather x y u v d h = omega arith

  whole-limit : (w : ℕ) → m * l * h' * (w * d) ≡ n * h' * w * (l * l)
  whole-limit w = omega (arith, ap (λ (z : ℕ). z * (l * h' * w)) en)

  pub fractions : (x * x + y * y) * h ≤ m * l * h' → (gx * gx * (dy * dy) + gy * gy * (dx * dx)) * (d * h) ≤ n * h' * (dx * dx * (dy * dy))
  fractions k =
      let w = dx * dx * (dy * dy) in
      le_of_mul-le-mul_right (le_trans (le_of_eq whole-squares) (le_trans (mul-le-mul_right (w * d) k) (le_of_eq (whole-limit w)))) (mul-pos L L)

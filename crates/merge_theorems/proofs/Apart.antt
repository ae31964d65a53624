-- THE THEOREM of distances in exact numbers: corners that are farther apart than radius² · (1 + 2 ^ -19) never meet (`far-never-meet`).
-- radius² in binary32 is at most the exact one · (1 + 2 ^ -23), and what is near by it is within that · (1 + 2 ^ -20) (exact_distance).
use mathlib.Core.Path.{◌≡◌, refl, sym, ap, ◌∙◌, subst}
use Prim.Native.Nat.{ℕ, ◌+◌, ◌*◌, ◌^◌, ◌≤◌, ◌<◌}
use native.Mathlib.Nat.{not-le_of_lt, one-mul, mul-pos, mul-le-mul, mul-le-mul_left, mul-le-mul_right, le_of_mul-le-mul_right}
use native.Mathlib.Omega.{arith}
use mathlib.Core.Bool.{Bool, true, false, ◌&&◌, and-false}
use lib.IntN.{negsuc}
use lib.Dec.{T, lit≤}
use lib.Pow.{pow_pos}
use lib.Ieee.{Float, fin, binary32, mul, le}
use lib.Ieee.Bits.{is_true}
use lib.Ieee.Exact.{HasValue}
use lib.Ieee.Fits.{mul-fits}
use lib.Ieee.Scale.{grid, finite, round_val, round_under}
use lib.Ieee.Positive.{num, den, den_pos, positive, own_value, value→cross, le→cross, mul_at, mul_mono}
use Rattle.floats.proofs.Relative.{grid-gain}
use Rattle.corners.specs.declared.Corner.{Corner}
use Rattle.corners.specs.Corners.{corners_of, squared_distance}
use Rattle.exact_distance.specs.Exact.{Number, squares, parts, Above}
use Rattle.exact_distance.proofs.Distance.{positive-from, distance-exact}
use Rattle.merge.specs.Meets.{near, neighbours, grid_of}
use Rattle.merge_theorems.specs.Apart.{FarNeverMeet}

-- ---- plain numbers: a / c is the exact square, g units its rounded value, which is n / d; l units are 1
-- a square of 1 / e or more is so many units that half a one is nothing to it
half-small : (a c h e l : ℕ) → c ≤ a * e → e * h ≤ l → h * c ≤ a * l
half-small a c h e l r s = omega (arith, mul-le-mul_right h r, mul-le-mul_left a s)

square-of : (a c e : ℕ) → c ≤ a * e → c * c ≤ a * a * (e * e)
square-of a c e h = omega (arith, mul-le-mul h h)

rounded : (a c g l p h n d : ℕ) → 0 < l → g * c * p ≤ a * l * p + a * l + h * c → h * c ≤ a * l → n * l ≡ g * d → n * c * p ≤ a * (p + 2) * d
rounded a c g l p h n d L k s e = le_of_mul-le-mul_right (omega (arith, mul-le-mul_right d k, mul-le-mul_right d s, ap (λ (z : ℕ). z * (c * p)) e)) L

-- within n / d · h' / h, so within a / c · k' / k
widened : (s r a c n d p p' h h' k k' : ℕ) → 0 < d → 0 < h * p → n * c * p ≤ a * p' * d → p' * h' * k ≤ k' * (h * p) → s * (d * h) ≤ n * h' * r → s * (c * k) ≤ a * k' * r
widened s r a c n d p p' h h' k k' D P near fine x =
    let y : s * c * (h * p) ≤ a * r * (p' * h') = le_of_mul-le-mul_right (omega (arith, mul-le-mul_right (c * p) x, mul-le-mul_right (h' * r) near)) D in
    le_of_mul-le-mul_right (omega (arith, mul-le-mul_right k y, mul-le-mul_left (a * r) fine)) P

-- ---- the square of the radius
least-square : mul binary32 (fin false 1 (negsuc 49)) (fin false 1 (negsuc 49)) ≡ fin false 1 (negsuc 99)
unfolding mul
least-square = refl

module _ (radius : Float) (pos : T (positive radius)) (reaches : le (fin false 1 (negsuc 49)) radius ≡ true) (fine : T (finite (mul binary32 radius radius))) where
  limit-from : le (fin false 1 (negsuc 99)) (mul binary32 radius radius) ≡ true
  limit-from =
      let least = fin false 1 (negsuc 49) in
      let h : T (le least radius) = subst T (sym reaches) tt in
      is_true _ (subst (λ (z : Float). T (le z (mul binary32 radius radius))) least-square (mul_mono binary32 least radius least radius tt pos tt pos h h))

  limit-near : num (mul binary32 radius radius) * (den radius * den radius) * 2 ^ 24 ≤ num radius * num radius * (2 ^ 24 + 2) * den (mul binary32 radius radius)
  limit-near =
      let a = num radius * num radius in
      let c = den radius * den radius in
      let is = mul_at binary32 radius radius (num radius) (den radius) (num radius) (den radius) pos pos (den_pos radius) (den_pos radius) (own_value radius pos) (own_value radius pos) in
      let v = round_val binary32 a c (round_under binary32 a c (subst (λ (z : Float). T (finite z)) is fine)) in
      let cross = value→cross (mul binary32 radius radius) (grid binary32 a c) (2 ^ 149) (subst (λ (z : Float). HasValue z false (grid binary32 a c) (2 ^ 149)) (sym is) v) in
      let r : den radius ≤ num radius * 2 ^ 50 = subst (λ (z : ℕ). z ≤ num radius * 2 ^ 50) (one-mul (den radius)) (le→cross (fin false 1 (negsuc 49)) radius tt pos (subst T (sym reaches) tt)) in
      rounded a c (grid binary32 a c) (2 ^ 149) (2 ^ 24) (2 ^ 23) (num (mul binary32 radius radius)) (den (mul binary32 radius radius)) (pow_pos 149) (grid-gain binary32 a c (mul-pos (den_pos radius) (den_pos radius)))
      (half-small a c (2 ^ 23) (2 ^ 50 * 2 ^ 50) (2 ^ 149) (square-of (num radius) (den radius) (2 ^ 50) r) (lit≤ tt)) cross

-- ---- THE THEOREM
never-near : (radius : Float) (c k : Corner) → Number c.x → Number c.y → Number k.x → Number k.y → Number radius
    → le (fin false 1 (negsuc 49)) radius ≡ true → T (finite (mul binary32 radius radius))
    → Above 19 c.x c.y k.x k.y (num radius * num radius) (den radius * den radius) → near (mul binary32 radius radius) c k ≡ false
unfolding near
never-near radius c k cx cy kx ky nr reaches fine far = go (le (squared_distance c.x c.y k.x k.y) limit) refl
  where
    limit : Float
    limit = mul binary32 radius radius

    pos : T (positive radius)
    pos = positive-from (fin false 1 (negsuc 49)) radius tt nr.1 reaches

    within : le (squared_distance c.x c.y k.x k.y) limit ≡ true → squares c.x c.y k.x k.y * (den radius * den radius * 2 ^ 19) ≤ num radius * num radius * (2 ^ 19 + 1) * parts c.x c.y k.x k.y
    within h =
        widened (squares c.x c.y k.x k.y) (parts c.x c.y k.x k.y) (num radius * num radius) (den radius * den radius) (num limit) (den limit)
        (2 ^ 24) (2 ^ 24 + 2) (2 ^ 20) (2 ^ 20 + 1) (2 ^ 19) (2 ^ 19 + 1) (den_pos limit) (lit≤ tt) (limit-near radius pos reaches fine) (lit≤ tt)
        (distance-exact c.x c.y k.x k.y limit cx cy kx ky (mul-fits binary32 radius radius, fine) (limit-from radius pos reaches fine) h)

    go : (b : Bool) → le (squared_distance c.x c.y k.x k.y) limit ≡ b → b ≡ false
    go true h = absurd (not-le_of_lt far (within h))
    go false h = refl

pub far-never-meet : FarNeverMeet
far-never-meet list radius c k cx cy kx ky nr reaches fine far =
    let e = never-near radius c k cx cy kx ky nr reaches fine far in
    let g = grid_of radius (corners_of list) in
    (ap (λ (b : Bool). neighbours g c k && b) e ∙ and-false (neighbours g c k), e)

-- The squared distance of two places in exact numbers, over fractions of whole numbers, and what binary32 can be wrong by: where the squared distance in
-- binary32 is at most a limit, the exact one is at most limit · (1 + 2 ^ -20). A finite value's size is the fraction num / den (lib.Ieee.Positive).
use Rattle.std.specs.Prelude.{◌≡◌, Bool, true, false, cond, ℕ, ◌+◌, ◌-◌, ◌*◌, ◌^◌, ◌≤◌, ◌<◌, T, negsuc}
use lib.Ieee.{Float, nan, inf, fin, binary32, fits, unlike, le}
use Rattle.std.specs.Float.Ieee.Scale.{finite}
use Rattle.std.specs.Float.Ieee.Positive.{num, den}
use Rattle.corners.specs.Corners.{squared_distance}

-- the sign of a value: true is negative
abbrev pub negative : Float → Bool
negative nan = false
negative (inf s) = s
negative (fin s m e) = s

-- |a - b| is the fraction gap a b / (den a * den b): the sizes' difference where the signs are alike, else their sum
abbrev pub gap : Float → Float → ℕ
gap a b =
    let p = num a * den b in
    let q = num b * den a in
    cond (unlike (negative a) (negative b)) (p + q) ((p - q) + (q - p))

-- the exact squared distance of (ax, ay) and (bx, by) is the fraction squares / parts
abbrev pub squares : Float → Float → Float → Float → ℕ
squares ax ay bx by =
    let dx = den ax * den bx in
    let dy = den ay * den by in
    gap ax bx * gap ax bx * (dy * dy) + gap ay by * gap ay by * (dx * dx)

abbrev pub parts : Float → Float → Float → Float → ℕ
parts ax ay bx by =
    let dx = den ax * den bx in
    let dy = den ay * den by in
    dx * dx * (dy * dy)

-- the exact squared distance is at most n / d · (1 + 2 ^ -k); it is above that
abbrev pub AtMost : ℕ → Float → Float → Float → Float → ℕ → ℕ → Type 0
AtMost k ax ay bx by n d = squares ax ay bx by * (d * 2 ^ k) ≤ n * (2 ^ k + 1) * parts ax ay bx by

abbrev pub Above : ℕ → Float → Float → Float → Float → ℕ → ℕ → Type 0
Above k ax ay bx by n d = n * (2 ^ k + 1) * parts ax ay bx by < squares ax ay bx by * (d * 2 ^ k)

-- a finite number of binary32
abbrev pub Number : Float → Type 0
Number x = T (fits binary32 x) × T (finite x)

-- Any finite limit from 2 ^ -100 up. Below it squares underflow: the places (0, 0) and (2 ^ -75, 0) have the squared distance 0 in binary32.
abbrev pub DistanceExact : Type 0
DistanceExact =
    (ax ay bx by limit : Float) → Number ax → Number ay → Number bx → Number by → Number limit
    → le (fin false 1 (negsuc 99)) limit ≡ true
    → le (squared_distance ax ay bx by) limit ≡ true
    → AtMost 20 ax ay bx by (num limit) (den limit)

-- The flat list against the corners in it: elements, a corner written, parts and lengths.
use mathlib.Core.Path.{◌≡◌, refl, ap, ◌∙◌}
use mathlib.Core.List.{List, [], ◌∷◌, ◌++◌, append_assoc}
use Prim.Native.Nat.{ℕ, zero, suc, ◌+◌, ◌*◌, ◌/◌, ◌%◌, ◌≤◌, ◌<◌}
use native.Mathlib.Nat.{not-suc-le-zero}
use native.Mathlib.Numerals.{add-one}
use native.Mathlib.Omega.{arith}
use lib.ListN.{length, get_or, set, take, drop}
use lib.Seq.{sets-eq}
use lib.Ieee.{Float}
use Rattle.corners.specs.declared.Corner.{Corner}
use Rattle.corners.specs.Corners.{corner, corners_of, flat, corner_at, recorded}

pub length-corners : (l : List Float) → length (corners_of l) ≡ length l / 3
length-corners [] = refl
length-corners (a ∷ []) = refl
length-corners (a ∷ b ∷ []) = refl
length-corners (a ∷ b ∷ s ∷ l) = let ih : length (corners_of l) ≡ length l / 3 = length-corners l in omega arith

three : (j : ℕ) → 3 * suc j ≡ suc (suc (suc (3 * j)))
three j = omega arith

three-and : (j r : ℕ) → 3 * suc j + r ≡ suc (suc (suc (3 * j + r)))
three-and j r = omega arith

-- corner j as its floats are read; d is what stands past the end of the list
abbrev pub read : List Float → ℕ → Float → Corner
read l j d = corner (get_or l (3 * j) d) (get_or l (3 * j + 1) d) (get_or l (3 * j + 2) d)

pub corner-at : (l : List Float) (j : ℕ) (d : Float) → 3 * j + 2 < length l → corner_at (corners_of l) j ≡ read l j d
corner-at [] j d h = absurd (not-suc-le-zero h)
corner-at (a ∷ []) j d h = absurd (let z : ⊥ = omega arith in z)
corner-at (a ∷ b ∷ []) j d h = absurd (let z : ⊥ = omega arith in z)
corner-at (a ∷ b ∷ s ∷ l) zero d h = refl
corner-at (a ∷ b ∷ s ∷ l) (suc j) d h = rw (three-and j 1, three-and j 2, three j) (corner-at l j d (omega arith))

-- ---- a corner written
pub corners-recorded : (l : List Float) (j : ℕ) (c : Corner) → 3 * j + 2 < length l → corners_of (recorded l j c) ≡ set (corners_of l) j c
corners-recorded [] j c h = absurd (not-suc-le-zero h)
corners-recorded (p ∷ []) j c h = absurd (let z : ⊥ = omega arith in z)
corners-recorded (p ∷ q ∷ []) j c h = absurd (let z : ⊥ = omega arith in z)
corners-recorded (p ∷ q ∷ r ∷ l) zero c h = refl
corners-recorded (p ∷ q ∷ r ∷ l) (suc j) c h = rw (three-and j 1, three-and j 2, three j) (ap (λ (t : List Corner). corner p q r ∷ t) (corners-recorded l j c (omega arith)))

-- its three floats stand between what stood before and behind
pub recorded-parts : (l : List Float) (j : ℕ) (c : Corner) → 3 * j + 2 < length l → recorded l j c ≡ take (3 * j) l ++ (flat (c ∷ []) ++ drop (3 * j + 3) l)
recorded-parts l j c h =
    ap (λ (k : ℕ). set (set (set l (3 * j) c.x) k c.y) (3 * j + 2) c.strength) (add-one (3 * j))
    ∙ ap (λ (k : ℕ). set (set (set l (3 * j) c.x) (suc (3 * j)) c.y) k c.strength) (let e : 3 * j + 2 ≡ suc (suc (3 * j)) = omega arith in e)
    ∙ sets-eq (flat (c ∷ [])) l (3 * j) (omega arith)
    ∙ append_assoc (take (3 * j) l) (flat (c ∷ [])) (drop (3 * j + 3) l)

-- ---- whole lists, and the floats of the first n corners
pub length-flat : (l : List Corner) → length (flat l) ≡ 3 * length l
length-flat [] = refl
length-flat (c ∷ l) = let h : length (flat l) ≡ 3 * length l = length-flat l in omega arith

pub corners-flat : (l : List Corner) → corners_of (flat l) ≡ l
corners-flat [] = refl
corners-flat (c ∷ l) = ap (λ (t : List Corner). c ∷ t) (corners-flat l)

pub flat-corners : (l : List Float) → length l % 3 ≡ 0 → flat (corners_of l) ≡ l
flat-corners [] h = refl
flat-corners (a ∷ []) h = absurd (let z : ⊥ = omega arith in z)
flat-corners (a ∷ b ∷ []) h = absurd (let z : ⊥ = omega arith in z)
flat-corners (a ∷ b ∷ s ∷ l) h = ap (λ (t : List Float). a ∷ b ∷ s ∷ t) (flat-corners l (omega arith))

pub take-flat : (l : List Float) (n : ℕ) → 3 * n ≤ length l → take (3 * n) l ≡ flat (take n (corners_of l))
take-flat l zero h = refl
take-flat [] (suc n) h = absurd (let z : ⊥ = omega arith in z)
take-flat (a ∷ []) (suc n) h = absurd (let z : ⊥ = omega arith in z)
take-flat (a ∷ b ∷ []) (suc n) h = absurd (let z : ⊥ = omega arith in z)
take-flat (a ∷ b ∷ s ∷ l) (suc n) h = rw (three n) (ap (λ (t : List Float). a ∷ b ∷ s ∷ t) (take-flat l n (omega arith)))

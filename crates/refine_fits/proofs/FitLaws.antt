-- Laws of a fit: a row adds its samples to the sums, the patch's sample k is element k % side of row k / side, and the sums of all samples are the coefficients.
use mathlib.Core.Path.{◌≡◌, refl, sym, ap, ◌∙◌}
use mathlib.Core.List.{List, [], ◌∷◌}
use Prim.Native.Nat.{ℕ, zero, suc, ◌+◌, ◌-◌, ◌*◌, ◌/◌, ◌%◌, ◌≤◌, ◌<◌}
use native.Mathlib.Nat.{add_assoc, add-zero, add-suc, sub-add_cancel, add-mul, mul_assoc, one-mul, zero-mul, le_refl}
use native.Mathlib.Numerals.{add-one}
use native.Mathlib.Omega.{arith}
use lib.Arith.{digits_div, digits_mod}
use lib.IntN.{pos}
use lib.ListN.{length, get_or, take, drop}
use lib.Seq.{get_or-take, get_or-drop}
use lib.Ieee.{Float, binary32, of_int}
use Rattle.shapes.specs.Numbers.{plus_zero, entry}
use Rattle.shapes.specs.Turns.{turns}
use Rattle.shapes.specs.Lists.{tabulated}
use Rattle.imageview.specs.Image.{Image, pixel}
use Rattle.imageview.proofs.ImageLaws.{index}
use Rattle.refine_operator.specs.Basis.{side, samples}
use Rattle.refine_fits.specs.declared.Sums.{Sums}
use Rattle.refine_formulas.specs.Numbers.{◌⊕◌, ◌⊖◌, ◌⊗◌}
use Rattle.refine_fits.specs.Fit.{sample_of, coefficient, coefficients}
use Rattle.refine_fits.specs.StepsAdding.{added, row_added, sums_of, PatchWithin}

-- ---- a row
pub row_none : (columns : List Float) (row : List ℕ) (centre : Float) (from : ℕ) (s : Sums) → s ≡ row_added columns row centre from 0 s
unfolding row_added
row_none columns row centre from s = refl

pub row_more : (columns : List Float) (row : List ℕ) (centre : Float) (from n : ℕ) (s t u : Sums) → t ≡ row_added columns row centre from n s → u ≡ added columns (from + n) (of_int binary32 (pos (get_or row n 0)) ⊖ centre) t → u ≡ row_added columns row centre from (n + 1) s
unfolding row_added
row_more columns row centre from n s t u p q =
    q ∙ ap (λ (v : Sums). added columns (from + n) (of_int binary32 (pos (get_or row n 0)) ⊖ centre) v) p ∙ ap (λ (k : ℕ). row_added columns row centre from k s) (sym (add-one n))

-- ---- the patch's samples
-- the place of the sample (row, i)
place : (w x0 y0 row i : ℕ) → (y0 + row) * w + x0 + i ≡ (y0 + row) * w + (x0 + i)
place w x0 y0 row i = add_assoc ((y0 + row) * w) x0 i

pub row-sample : (img : Image) (radius x y row i : ℕ) → i < side radius → get_or (take (side radius) (drop ((y - radius + row) * img.pitch + (x - radius)) img.samples)) i 0 ≡ pixel img (x - radius + (row * side radius + i) % side radius) (y - radius + (row * side radius + i) / side radius)
unfolding pixel
row-sample img radius x y row i h =
    get_or-take (side radius) (drop ((y - radius + row) * img.pitch + (x - radius)) img.samples) i 0 h
    ∙ get_or-drop ((y - radius + row) * img.pitch + (x - radius)) img.samples i 0
    ∙ ap (λ (k : ℕ). get_or img.samples k 0) (place img.pitch (x - radius) (y - radius) row i)
    ∙ ap (λ (k : ℕ). get_or img.samples ((y - radius + k) * img.pitch + (x - radius + i)) 0) (sym (digits_div row h))
    ∙ ap (λ (k : ℕ). get_or img.samples ((y - radius + (row * side radius + i) / side radius) * img.pitch + (x - radius + k)) 0) (sym (digits_mod row h))

-- the middle sample is the centre
twice : (r p : ℕ) → (2 * p + (2 * r + 1)) / 2 ≡ p + r
twice r p = omega arith

middle : (r : ℕ) → samples r / 2 ≡ r * side r + r
middle r = ap (λ (n : ℕ). n / 2) (add-mul (2 * r) 1 (side r) ∙ ap (λ (n : ℕ). n + 1 * side r) (mul_assoc 2 r (side r)) ∙ ap (λ (n : ℕ). 2 * (r * side r) + n) (one-mul (side r))) ∙ twice r (r * side r)

-- the sample entry column u of row v
abbrev sample_at : Image → ℕ → ℕ → Float
sample_at img u v = of_int binary32 (pos (get_or img.samples (v * img.pitch + u) 0))

pub centre-sample : (img : Image) (radius x y : ℕ) → radius ≤ x → radius ≤ y → of_int binary32 (pos (pixel img x y)) ≡ sample_of img radius x y (samples radius / 2)
unfolding sample_of pixel
centre-sample img radius x y hx hy =
    let small : radius < side radius = omega arith in
    ap (λ (u : ℕ). sample_at img u y) (sym (sub-add_cancel hx))
    ∙ ap (λ (v : ℕ). sample_at img (x - radius + radius) v) (sym (sub-add_cancel hy))
    ∙ ap (λ (u : ℕ). sample_at img (x - radius + u) (y - radius + radius)) (sym (digits_mod radius small))
    ∙ ap (λ (v : ℕ). sample_at img (x - radius + (radius * side radius + radius) % side radius) (y - radius + v)) (sym (digits_div radius small))
    ∙ ap (λ (k : ℕ). sample_at img (x - radius + k % side radius) (y - radius + k / side radius)) (sym (middle radius))

-- ---- the sums over the patch
sums-more : (img : Image) (columns : List Float) (radius x y k : ℕ) (z : Float) → z ≡ sample_of img radius x y k ⊖ sample_of img radius x y (samples radius / 2) → added columns k z (sums_of img columns radius x y k) ≡ sums_of img columns radius x y (suc k)
unfolding turns
sums-more img columns radius x y k z e =
    ap (λ (v : Float). added columns k v (sums_of img columns radius x y k)) e
    ∙ ap
    (λ (n : ℕ).
    let v = sample_of img radius x y k ⊖ sample_of img radius x y (samples radius / 2) in
    let s = sums_of img columns radius x y k in
    record { a = s.a ⊕ entry columns n ⊗ v; b = s.b ⊕ entry columns (5 * k + 1) ⊗ v; c = s.c ⊕ entry columns (5 * k + 2) ⊗ v; d = s.d ⊕ entry columns (5 * k + 3) ⊗ v; e = s.e ⊕ entry columns (5 * k + 4) ⊗ v })
    (sym (add-zero (5 * k)))

along-row : (img : Image) (columns : List Float) (radius x y row n : ℕ) (part : List ℕ) (centre : Float) → part ≡ take (side radius) (drop ((y - radius + row) * img.pitch + (x - radius)) img.samples) → centre ≡ sample_of img radius x y (samples radius / 2) → n ≤ side radius → row_added columns part centre (row * side radius) n (sums_of img columns radius x y (row * side radius)) ≡ sums_of img columns radius x y (row * side radius + n)
unfolding row_added sample_of
along-row img columns radius x y row zero part centre p c h = ap (λ (k : ℕ). sums_of img columns radius x y k) (sym (add-zero (row * side radius)))
along-row img columns radius x y row (suc n) part centre p c h =
    let k = row * side radius + n in
    ap (λ (s : Sums). added columns k (of_int binary32 (pos (get_or part n 0)) ⊖ centre) s) (along-row img columns radius x y row n part centre p c (omega arith))
    ∙ sums-more img columns radius x y k (of_int binary32 (pos (get_or part n 0)) ⊖ centre)
    (ap (λ (l : List ℕ). of_int binary32 (pos (get_or l n 0)) ⊖ centre) p
    ∙ ap (λ (v : ℕ). of_int binary32 (pos v) ⊖ centre) (row-sample img radius x y row n (omega arith))
    ∙ ap (λ (v : Float). sample_of img radius x y k ⊖ v) c)
    ∙ ap (λ (m : ℕ). sums_of img columns radius x y m) (sym (add-suc (row * side radius) n))

pub sums_none : (img : Image) (columns : List Float) (radius x y : ℕ) → record { a = plus_zero; b = plus_zero; c = plus_zero; d = plus_zero; e = plus_zero } ≡ sums_of img columns radius x y (0 * side radius)
unfolding turns
sums_none img columns radius x y = ap (λ (n : ℕ). sums_of img columns radius x y n) (sym (zero-mul (side radius)))

pub row_done : (img : Image) (columns : List Float) (radius x y row : ℕ) (centre : Float) (s r : Sums) → s ≡ sums_of img columns radius x y (row * side radius) → centre ≡ sample_of img radius x y (samples radius / 2) → r ≡ row_added columns (take (side radius) (drop ((y - radius + row) * img.pitch + (x - radius)) img.samples)) centre (row * side radius) (side radius) s → r ≡ sums_of img columns radius x y ((row + 1) * side radius)
row_done img columns radius x y row centre s r e c q =
    let part = take (side radius) (drop ((y - radius + row) * img.pitch + (x - radius)) img.samples) in
    q
    ∙ ap (λ (t : Sums). row_added columns part centre (row * side radius) (side radius) t) e
    ∙ along-row img columns radius x y row (side radius) part centre refl c (le_refl (side radius))
    ∙ ap (λ (n : ℕ). sums_of img columns radius x y n) (sym (add-mul row 1 (side radius) ∙ ap (λ (n : ℕ). row * side radius + n) (one-mul (side radius))))

pub all-rows : (img : Image) (columns : List Float) (radius x y row : ℕ) (s : Sums) → row ≡ side radius → s ≡ sums_of img columns radius x y (row * side radius) → s.a ∷ s.b ∷ s.c ∷ s.d ∷ s.e ∷ [] ≡ coefficients img columns radius x y
unfolding tabulated coefficient coefficients
all-rows img columns radius x y row s h e =
    ap (λ (t : Sums). t.a ∷ t.b ∷ t.c ∷ t.d ∷ t.e ∷ []) (e ∙ ap (λ (n : ℕ). sums_of img columns radius x y (n * side radius)) h)

-- ---- what lies in the image
pub row_within : (img : Image) (radius x y row : ℕ) → PatchWithin img radius x y → row < side radius → (y - radius + row) * img.pitch + (x - radius) + side radius ≤ length img.samples
row_within img radius x y row w h =
    index img w.sound.image (x - radius) (y - radius + row) (side radius) (in-width x radius img.width w.left w.right) (in-height y radius row img.height w.above w.below h)
  where
    in-height : (y radius row height : ℕ) → radius ≤ y → y + radius < height → row < 2 * radius + 1 → y - radius + row < height
    in-height y radius row height p q h = omega arith

    in-width : (x radius width : ℕ) → radius ≤ x → x + radius < width → x - radius + (2 * radius + 1) ≤ width
    in-width x radius width p q = omega arith

pub centre-within : (img : Image) (radius x y : ℕ) → PatchWithin img radius x y → y * img.pitch + x < length img.samples
centre-within img radius x y w = omega (arith, index img w.sound.image x y 1 (omega (arith, w.right)) (omega (arith, w.below)))

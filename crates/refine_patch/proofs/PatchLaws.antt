-- The fit on a patch that is given by its first place is the fit about a pixel of an image.
use mathlib.Core.Path.{◌≡◌, ap, ◌∙◌}
use mathlib.Core.Bool.{false, false≢true}
use mathlib.Core.List.{List}
use Prim.Native.Nat.{ℕ, ◌+◌, ◌-◌, ◌*◌, ◌/◌, ◌%◌}
use native.Mathlib.Nat.{add-mul}
use native.Mathlib.Omega.{arith}
use lib.IntN.{pos}
use lib.ListN.{get_or}
use lib.Ieee.{Float, binary32, of_int}
use Rattle.shapes.specs.Numbers.{plus_zero, entry}
use Rattle.shapes.specs.Turns.{turns}
use Rattle.shapes.proofs.TurnLaws.{turns-cong}
use Rattle.imageview.specs.Image.{Image, pixel}
use Rattle.refine_operator.specs.Basis.{side, samples}
use Rattle.refine_formulas.specs.Numbers.{◌⊕◌, ◌⊖◌, ◌⊗◌}
use Rattle.refine_patch.specs.StepsFrom.{sample_from, coefficient_from, Repeats}

-- the first place of the patch about (x, y)
abbrev pub first_of : Image → ℕ → ℕ → ℕ → ℕ
first_of img radius x y = (y - radius) * img.pitch + (x - radius)

-- the sample k of that patch, read through the image
abbrev pub patch_sample : Image → ℕ → ℕ → ℕ → ℕ → Float
patch_sample img radius x y k = of_int binary32 (pos (pixel img (x - radius + k % side radius) (y - radius + k / side radius)))

-- x and y need not be at least the radius: both sides cut their differences off at 0
pub sample-about : (img : Image) (radius x y k : ℕ) → sample_from img.samples img.pitch radius (first_of img radius x y) k ≡ patch_sample img radius x y k
unfolding sample_from pixel
sample-about img radius x y k =
    ap (λ (n : ℕ). of_int binary32 (pos (get_or img.samples n 0)))
    (place ((y - radius) * img.pitch) (x - radius) (k / side radius * img.pitch) (k % side radius) ((y - radius + k / side radius) * img.pitch) (add-mul (y - radius) (k / side radius) img.pitch))
  where
    place : (a x0 b m c : ℕ) → c ≡ a + b → a + x0 + b + m ≡ c + (x0 + m)
    place a x0 b m c e = omega arith

pub coefficient-about : (img : Image) (columns : List Float) (radius x y i : ℕ) → coefficient_from img.samples img.pitch columns radius (first_of img radius x y) i ≡ turns (samples radius) (λ k a. a ⊕ entry columns (5 * k + i) ⊗ (patch_sample img radius x y k ⊖ patch_sample img radius x y (samples radius / 2))) plus_zero
unfolding coefficient_from
coefficient-about img columns radius x y i =
    turns-cong (samples radius)
    (λ k a. a ⊕ entry columns (5 * k + i) ⊗ (sample_from img.samples img.pitch radius (first_of img radius x y) k ⊖ sample_from img.samples img.pitch radius (first_of img radius x y) (samples radius / 2)))
    (λ k a. a ⊕ entry columns (5 * k + i) ⊗ (patch_sample img radius x y k ⊖ patch_sample img radius x y (samples radius / 2))) plus_zero
    (λ k h a. ap (λ (v : Float). a ⊕ entry columns (5 * k + i) ⊗ (v ⊖ sample_from img.samples img.pitch radius (first_of img radius x y) (samples radius / 2))) (sample-about img radius x y k)
    ∙ ap (λ (v : Float). a ⊕ entry columns (5 * k + i) ⊗ (patch_sample img radius x y k ⊖ v)) (sample-about img radius x y (samples radius / 2)))

-- columns of which nothing is said
pub once : (radius : ℕ) (columns : List Float) → Repeats false radius columns
once radius columns = record { few = λ e. absurd (false≢true e); each = λ e. absurd (false≢true e) }

-- Laws of the fits about two bases in one flat list: four fits that are written stand where they are looked for, and the first base's stay where the last one's are put.
use mathlib.Core.Path.{◌≡◌, refl, sym, ap, ◌∙◌, subst}
use mathlib.Core.List.{List, [], ◌∷◌}
use Prim.Native.Nat.{ℕ, ◌+◌, ◌-◌, ◌*◌, ◌≤◌, ◌<◌}
use native.Mathlib.Nat.{add-mul, one-mul, mul-le-mul}
use native.Mathlib.Omega.{arith}
use lib.IntN.{pos}
use lib.ListN.{length}
use lib.Ieee.{Float}
use Rattle.shapes.specs.Lists.{tabulated}
use Rattle.shapes.specs.Numbers.{entry}
use Rattle.imageview.specs.Image.{Image}
use Rattle.imageview.proofs.ImageLaws.{index}
use Rattle.refine_formulas.specs.declared.Corners.{Corners}
use Rattle.refine_patch.specs.StepsFrom.{coefficient_from, four_written}
use Rattle.refine_patch.specs.declared.Firsts.{Firsts}
use Rattle.refine_patch.specs.StepsFour.{lane_of, sum_in, PatchesInside, side_by_side}
use Rattle.refine_patch.proofs.FourLaws.{written-length, written-before, written-here}
use Rattle.refine_patch.proofs.PatchLaws.{coefficient-about}
use Rattle.refine_fits.specs.Fit.{sample_of, coefficient, coefficients}
use Rattle.refine_fits.specs.Windows.{Fits, lacking, four, corners_at}
use Rattle.refine_fits.specs.StepsAdding.{PatchWithin, FourWithin}
use Rattle.refine_fits.specs.StepsBases.{coefs_in, first_place, firsts_about, Laid}
use Rattle.refine_fits.proofs.CacheLaws.{five, five_of, all-five, room00, room10, room01, room11, has-four}

-- ---- four fits that are written
-- the coefficients of one of them
abbrev pub lane : (ℕ → ℕ → Float) → ℕ → List Float
lane f l = f 0 l ∷ f 1 l ∷ f 2 l ∷ f 3 l ∷ f 4 l ∷ []

module _ (f : ℕ → ℕ → Float) (to : ℕ) (old flat : List Float) (low : to ≤ 20) (is : flat ≡ four_written f to old) where
  stands : (c l k : ℕ) → c < 5 → l < 4 → k ≡ to + 4 * c + l → entry flat k ≡ f c l
  stands c l k p q e = ap (λ (v : List Float). entry v k) is ∙ ap (λ (n : ℕ). entry (four_written f to old) n) e ∙ written-here f to old low c l p q

  pub lane-at : (l i : ℕ) → l < 4 → i ≡ to + l → coefs_in flat i ≡ lane f l
  lane-at l i q e =
      five
      (stands 0 l i (omega arith) q (omega arith))
      (stands 1 l (i + 4) (omega arith) q (omega arith))
      (stands 2 l (i + 8) (omega arith) q (omega arith))
      (stands 3 l (i + 12) (omega arith) q (omega arith))
      (stands 4 l (i + 16) (omega arith) q (omega arith))

  stays : 20 ≤ to → (k : ℕ) → k < 20 → entry flat k ≡ entry old k
  stays h k p = ap (λ (v : List Float). entry v k) is ∙ written-before f to old low k (omega arith)

  coefs-stay : 20 ≤ to → (i : ℕ) → i < 4 → coefs_in flat i ≡ coefs_in old i
  coefs-stay h i p = five (stays h i (omega arith)) (stays h (i + 4) (omega arith)) (stays h (i + 8) (omega arith)) (stays h (i + 12) (omega arith)) (stays h (i + 16) (omega arith))

  four-long : length flat ≡ 40
  four-long = ap length is ∙ written-length f to old

-- four fits, each by an equation
pub by_fits : {a b c d a' b' c' d' : List Float} → a ≡ a' → b ≡ b' → c ≡ c' → d ≡ d' → ◌≡◌ {A = Corners} (record { c00 = a; c10 = b; c01 = c; c11 = d }) (record { c00 = a'; c10 = b'; c01 = c'; c11 = d' })
by_fits {a} {b} {c} {d} {a'} {b'} {c'} {d'} p q r s =
    ap (λ (v : List Float). corners v b c d) p ∙ ap (λ (v : List Float). corners a' v c d) q ∙ ap (λ (v : List Float). corners a' b' v d) r ∙ ap (λ (v : List Float). corners a' b' c' v) s
  where
    corners : List Float → List Float → List Float → List Float → Corners
    corners a b c d = record { c00 = a; c10 = b; c01 = c; c11 = d }

-- the four that stand in a list of fits
abbrev corners_of : Corners → Fits → Corners
corners_of d lacking = d
corners_of d (four c) = c

module _ (img : Image) (columns : List Float) (radius x y : ℕ) where
  abbrev about : ℕ → ℕ → List Float
  about u v = coefficients img columns radius u v

  -- written lane by lane, they are those about the base
  pub laid : (to : ℕ) (old flat : List Float) (f : ℕ → ℕ → Float) → FourWithin img radius x y → to ≤ 20 → flat ≡ four_written f to old → lane f 0 ≡ about x y → lane f 1 ≡ about (x + 1) y → lane f 2 ≡ about x (y + 1) → lane f 3 ≡ about (x + 1) (y + 1) → Laid img columns radius x y to old flat
  laid to old flat f w low e a b c d =
      record {
        is =
            has-four img columns radius x y w
            ∙ ap four
            (by_fits
            (sym (lane-at f to old flat low e 0 to (omega arith) (omega arith) ∙ a))
            (sym (lane-at f to old flat low e 1 (to + 1) (omega arith) refl ∙ b))
            (sym (lane-at f to old flat low e 2 (to + 2) (omega arith) refl ∙ c))
            (sym (lane-at f to old flat low e 3 (to + 3) (omega arith) refl ∙ d)));
        first = λ h. by_fits (coefs-stay f to old flat low e h 0 (omega arith)) (coefs-stay f to old flat low e h 1 (omega arith)) (coefs-stay f to old flat low e h 2 (omega arith)) (coefs-stay f to old flat low e h 3 (omega arith));
        long = four-long f to old flat low e;
      }

  -- ---- from the first places of the patches
  pub lane-from : (u v first : ℕ) (g : ℕ → Float) → ((i : ℕ) → g i ≡ coefficient_from img.samples img.pitch columns radius first i) → first ≡ first_place img.pitch radius u v → g 0 ∷ g 1 ∷ g 2 ∷ g 3 ∷ g 4 ∷ [] ≡ about u v
  unfolding coefficients tabulated coefficient sample_of
  lane-from u v first g h e = five (by 0) (by 1) (by 2) (by 3) (by 4)
    where
      by : (i : ℕ) → g i ≡ coefficient img columns radius u v i
      by i = h i ∙ ap (λ (n : ℕ). coefficient_from img.samples img.pitch columns radius n i) e ∙ coefficient-about img columns radius u v i

  right-place : radius ≤ x → (v : ℕ) → first_place img.pitch radius x v + 1 ≡ first_place img.pitch radius (x + 1) v
  right-place h v = by ((v - radius) * img.pitch)
    where
      by : (n : ℕ) → n + (x - radius) + 1 ≡ n + (x + 1 - radius)
      by n = omega arith

  below-place : radius ≤ y → (u : ℕ) → first_place img.pitch radius u y + img.pitch ≡ first_place img.pitch radius u (y + 1)
  below-place h u =
      by ((y - radius) * img.pitch) img.pitch (u - radius)
      ∙ ap (λ (n : ℕ). n + (u - radius)) (sym (add-mul (y - radius) 1 img.pitch ∙ ap (λ (n : ℕ). (y - radius) * img.pitch + n) (one-mul img.pitch)))
      ∙ ap (λ (n : ℕ). n * img.pitch + (u - radius)) (let e : y - radius + 1 ≡ y + 1 - radius = omega arith in e)
    where
      by : (a p b : ℕ) → a + b + p ≡ a + p + b
      by a p b = omega arith

  pub laid-about : (to : ℕ) (old flat : List Float) → FourWithin img radius x y → to ≤ 20 → flat ≡ four_written (λ c l. coefficient_from img.samples img.pitch columns radius (lane_of (firsts_about img.pitch radius x y) l) c) to old → Laid img columns radius x y to old flat
  laid-about to old flat w low e =
      let at = firsts_about img.pitch radius x y in
      let from : ℕ → ℕ → Float = λ c l. coefficient_from img.samples img.pitch columns radius (lane_of at l) c in
      laid to old flat from w low e
      (lane-from x y at.a (λ c. from c 0) (λ i. refl) refl)
      (lane-from (x + 1) y at.b (λ c. from c 1) (λ i. refl) (right-place w.left y))
      (lane-from x (y + 1) at.c (λ c. from c 2) (λ i. refl) (below-place w.above x))
      (lane-from (x + 1) (y + 1) at.d (λ c. from c 3) (λ i. refl) (ap (λ (n : ℕ). n + 1) (below-place w.above x) ∙ right-place w.left (y + 1)))

  -- ---- by way of the kept fits
  pub laid_kept : (old flat : List Float) (c : Corners) → FourWithin img radius x y → corners_at img columns radius (pos x) (pos y) ≡ four c → flat ≡ four_written (sum_in (side_by_side c)) 20 old → Laid img columns radius x y 20 old flat
  laid_kept old flat c w is e =
      laid 20 old flat (sum_in (side_by_side c)) w (omega arith) e
      (ap five_of (ap (λ (v : Corners). v.c00) same) ∙ all-five img columns radius x y)
      (ap five_of (ap (λ (v : Corners). v.c10) same) ∙ all-five img columns radius (x + 1) y)
      (ap five_of (ap (λ (v : Corners). v.c01) same) ∙ all-five img columns radius x (y + 1))
      (ap five_of (ap (λ (v : Corners). v.c11) same) ∙ all-five img columns radius (x + 1) (y + 1))
    where
      same : c ≡ record { c00 = about x y; c10 = about (x + 1) y; c01 = about x (y + 1); c11 = about (x + 1) (y + 1) }
      same = ap (corners_of c) (sym is ∙ has-four img columns radius x y w)

-- ---- where the four patches lie
pub place-most : (pitch radius y : ℕ) → y ≤ 4096 → pitch ≤ 8192 → (y - radius) * pitch ≤ 33554432
place-most pitch radius y h k = mul-le-mul {n₁ = y - radius} {m₁ = pitch} {n₂ = 4096} {m₂ = 8192} (omega arith) k

-- the last place of the patch about (x, y)
pub last-place : (img : Image) (radius x y : ℕ) → PatchWithin img radius x y → first_place img.pitch radius x y + 2 * radius * img.pitch + 2 * radius < length img.samples
last-place img radius x y w =
    subst (λ (n : ℕ). n < length img.samples) (sym same)
    (let b : (y + radius) * img.pitch + (x + radius) + 1 ≤ length img.samples = index img w.sound.image (x + radius) (y + radius) 1 (omega (arith, w.right)) w.below in omega arith)
  where
    by : (a p b : ℕ) → a + (x - radius) + p + 2 * radius ≡ a + p + (x - radius + 2 * radius)
    by a p b = omega arith

    same : first_place img.pitch radius x y + 2 * radius * img.pitch + 2 * radius ≡ (y + radius) * img.pitch + (x + radius)
    same =
        by ((y - radius) * img.pitch) (2 * radius * img.pitch) 0
        ∙ ap (λ (n : ℕ). n + (x - radius + 2 * radius)) (sym (add-mul (y - radius) (2 * radius) img.pitch))
        ∙ ap (λ (n : ℕ). n * img.pitch + (x - radius + 2 * radius)) (let e : y - radius + 2 * radius ≡ y + radius = omega (arith, w.above) in e)
        ∙ ap (λ (n : ℕ). (y + radius) * img.pitch + n) (let e : x - radius + 2 * radius ≡ x + radius = omega (arith, w.left) in e)

-- the four about a base, from the place of the first
abbrev pub from : ℕ → ℕ → Firsts
from at pitch = record { a = at; b = at + 1; c = at + pitch; d = at + pitch + 1 }

pub inside-four : (img : Image) (radius x y at : ℕ) → FourWithin img radius x y → at ≡ first_place img.pitch radius x y → PatchesInside (length img.samples) img.pitch radius (from at img.pitch)
inside-four img radius x y at w e =
    record {
      small = w.sound.small;
      first = reach x y at (room00 w) e;
      second = reach (x + 1) y (at + 1) (room10 w) (ap (λ (n : ℕ). n + 1) e ∙ right-place img [] radius x y w.left y);
      third = reach x (y + 1) (at + img.pitch) (room01 w) below;
      fourth = reach (x + 1) (y + 1) (at + img.pitch + 1) (room11 w) (ap (λ (n : ℕ). n + 1) below ∙ right-place img [] radius x y w.left (y + 1));
    }
  where
    below : at + img.pitch ≡ first_place img.pitch radius x (y + 1)
    below = ap (λ (n : ℕ). n + img.pitch) e ∙ below-place img [] radius x y w.above x

    reach : (u v first : ℕ) → PatchWithin img radius u v → first ≡ first_place img.pitch radius u v → first + 2 * radius * img.pitch + 2 * radius < length img.samples
    reach u v first p q = subst (λ (n : ℕ). n + 2 * radius * img.pitch + 2 * radius < length img.samples) (sym q) (last-place img radius u v p)

pub firsts-are : (img : Image) (columns : List Float) (radius x y at to : ℕ) (old : List Float) → at ≡ first_place img.pitch radius x y → four_written (λ c l. coefficient_from img.samples img.pitch columns radius (lane_of (from at img.pitch) l) c) to old ≡ four_written (λ c l. coefficient_from img.samples img.pitch columns radius (lane_of (firsts_about img.pitch radius x y) l) c) to old
firsts-are img columns radius x y at to old e = ap (λ (n : ℕ). four_written (λ c l. coefficient_from img.samples img.pitch columns radius (lane_of (from n img.pitch) l) c) to old) e

-- The public call's tests one after the other, and what each way leaves behind.
use mathlib.Core.Path.{◌≡◌, refl, sym, ap, ◌∙◌, subst}
use mathlib.Core.Bool.{Bool, true, false, ◌&&◌, not, cond}
use mathlib.Core.List.{List}
use Prim.Native.Nat.{ℕ, ◌/◌, ◌≤◌, ◌<◌}
use lib.Dec.{T, leb}
use lib.ListN.{length}
use lib.Ieee.{Float}
use lib.Ieee.Scale.{finite}
use borrow.Author.Tests.{leb-true, lt-ltb, le-ltb}
use Rattle.corners.specs.Corners.{whole}
use Rattle.imageview.specs.Image.{sizes_fit}
use Rattle.imageview.proofs.ImageLaws.{counted}
use Rattle.refusals.specs.declared.Refusal.{Refusal}
use Rattle.refusals.specs.declared.Refusal.TheVariants.{BadImage, BadRadius, BadLimit, BadLength, TooMany}
use Rattle.std.specs.Prelude.{Result, Ok, Err}
use Rattle.peaks.specs.Peak.{Scan}
use Rattle.peaks.specs.Call.{Way, refused, found, peaks_of, radii_fit, way_of, answer_of, out_after, Done}
use Rattle.peaks.specs.Sound.{Sound}
use Rattle.peaks.specs.Steps.{all_recorded, rest_of, Recorded}
use Rattle.shapes.proofs.TestLaws.{first_of, second-of}

-- what the tests leave
pub sound : (s : Scan) → sizes_fit (length s.values) s.width s.height ≡ true → radii_fit s ≡ true → Sound s
sound s e f =
    let z = counted (length s.values) s.width s.height (subst T (sym e) tt) in
    let a = leb 1 s.ring in
    let b = leb s.ring 10 in
    let c = leb 1 s.window in
    let d = leb s.window 8 in
    let abcd = first_of (a && b && c && d) (leb s.refine 7) f in
    record {
      wide = z.0.wide;
      width-most = z.0.width-most;
      height-most = z.0.height-most;
      size = z.1;
      ring-most = leb-true s.ring 10 (second-of a b (first_of (a && b) c (first_of (a && b && c) d abcd)));
      window-least = leb-true 1 s.window (second-of (a && b) c (first_of (a && b && c) d abcd));
      window-most = leb-true s.window 8 (second-of (a && b && c) d abcd);
      refine-most = leb-true s.refine 7 (second-of (a && b && c && d) (leb s.refine 7) f);
    }

-- ---- the last test, of the room for the peaks
module _ (s : Scan) (out : List Float) where
  abbrev rest : Bool → Way
  rest b = cond b (refused TooMany) (found (peaks_of s))

  pub recorded-none : length out / 3 < length (peaks_of s) → Recorded s out (Err TooMany) out
  recorded-none h =
      let e = ap rest (lt-ltb (length out / 3) (length (peaks_of s)) h) in
      record { answers = sym (ap answer_of e); leaves = sym (ap (out_after s out) e) }

  pub recorded-all : {out' : List Float} {n : ℕ} → n ≤ length out / 3 → n ≡ length (peaks_of s) → out' ≡ all_recorded s out → Recorded s out (Ok n) out'
  recorded-all h f g =
      let e = ap rest (le-ltb (length out / 3) (length (peaks_of s)) (subst (λ (m : ℕ). m ≤ length out / 3) f h)) in
      record { answers = ap Ok f ∙ sym (ap answer_of e); leaves = g ∙ sym (ap (out_after s out) e) }

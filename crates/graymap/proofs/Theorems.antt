-- The claims of specs/Claims.antt: an accepted file ends with its pixels, and the plain form is read back.
use mathlib.Core.Path.{◌≡◌, refl, sym, ap, ◌∙◌, subst}
use mathlib.Core.Bool.{Bool, true, false, not, ◌&&◌, cond}
use mathlib.Core.List.{List, [], ◌∷◌, ◌++◌}
use Prim.Native.Nat.{ℕ, ◌+◌, ◌-◌, ◌*◌, ◌≤◌, ◌<◌}
use native.Mathlib.Omega.{arith}
use lib.Dec.{ltb, eqb}
use lib.ListN.{length, get_or, drop}
use borrow.Author.Tests.{ltb-false, le-ltb}
use Rattle.shapes.specs.Lists.{tabulated}
use Rattle.shapes.proofs.ListLaws.{tabulated-cong, tabulated-by}
use Rattle.imageview.specs.Image.{is_size}
use Rattle.imageview.proofs.ImageLaws.{sized, passed}
use Rattle.refusals.specs.declared.Refusal.TheVariants.{BadHeader, BadGraymapSize, TooShort, LeftOver}
use Rattle.graymap.specs.declared.Graymap.{Graymap}
use Rattle.graymap.specs.Grammar.{is_space, no_magic, magic, Header, no_header, header, header_in}
use Rattle.std.specs.Prelude.{Ok, Err}
use Rattle.graymap.specs.Call.{Reading, read, above_at, refused, first_above, is_maximum, bytes_of, sample_in, pixels_of, sized_of, magic_of, read_of}
use Rattle.graymap.specs.Claims.{EndsWithPixels, decimal, bytes_in, plain_of, RoundTrip}
use Rattle.graymap.proofs.TailLaws.{EndsIn, ends-self, ends_more, ends_on, ends_at, HeaderEnds, header-ends}
use Rattle.graymap.proofs.SampleLaws.{above_all, above_most, none_above}
use Rattle.graymap.proofs.CallLaws.{below-cut, good-size, all_read}
use Rattle.graymap.proofs.PlainLaws.{header_read, bytes_count, samples-read}

-- ---- an accepted file ends with its pixels
abbrev Ends : Bool → List ℕ → Reading → Type 0
Ends deep file (Ok g) = (length file ≡ g.start + bytes_of deep (g.width * g.height)) × ((i : ℕ) → i < g.width * g.height → sample_in deep (drop g.start file) i ≤ g.maximum)
Ends deep file (Err u) = Unit {0}

pixels-end : (deep : Bool) (file : List ℕ) (w h m : ℕ) (left : List ℕ) → EndsIn left file → Ends deep file (pixels_of deep (length file) w h m left)
pixels-end deep file w h m left e = by (ltb (length left) size) (ltb first n) (ltb size (length left)) refl refl refl
  where
    n : ℕ
    n = w * h

    size : ℕ
    size = bytes_of deep n

    first : ℕ
    first = first_above (sample_in deep left) m n

    by : (s a o : Bool) → ltb (length left) size ≡ s → ltb first n ≡ a → ltb size (length left) ≡ o
        → Ends deep file (cond s (refused TooShort) (cond a (above_at first) (cond o (refused LeftOver) (read w h m (length file - length left)))))
    by true a o p q r = tt
    by false true o p q r = tt
    by false false true p q r = tt
    by false false false p q r =
        let at = ends_at e in
        let short = ltb-false (length left) size p in
        let over = ltb-false size (length left) r in
        let all : first ≡ n = (let below = ltb-false first n q in let top = above_most (sample_in deep left) m n in omega arith) in
        (omega (arith, at.0), λ i l. subst (λ (x : List ℕ). sample_in deep x i ≤ m) (sym at.1) (none_above (sample_in deep left) m n i all l))

sized-ends : (deep : Bool) (file : List ℕ) (x : Header) → HeaderEnds x file → Ends deep file (sized_of deep (length file) x)
sized-ends deep file no_header e = tt
sized-ends deep file (header w h m left) e = by (is_maximum deep m) (is_size w h)
  where
    by : (a b : Bool) → Ends deep file (cond (not a) (refused BadHeader) (cond (not b) (refused BadGraymapSize) (pixels_of deep (length file) w h m left)))
    by false b = tt
    by true false = tt
    by true true = pixels-end deep file w h m left e

behind-magic : (file : List ℕ) (x : Header) (l : List ℕ) → HeaderEnds x l → EndsIn l file → HeaderEnds x file
behind-magic file no_header l e f = tt
behind-magic file (header w h m left) l e f = ends_on e f

magic-ends : (deep : Bool) (file l : List ℕ) → EndsIn l file → Ends deep file (sized_of deep (length file) (header_in l))
magic-ends deep file l e = sized-ends deep file (header_in l) (behind-magic file (header_in l) l (header-ends l) e)

read-ends : (deep : Bool) (file : List ℕ) → Ends deep file (read_of deep file)
unfolding read_of
read-ends deep [] = tt
read-ends deep (a ∷ []) = tt
read-ends deep (a ∷ b ∷ []) = tt
read-ends deep (a ∷ b ∷ c ∷ l) = by (eqb a 80 && eqb b 53 && is_space c)
  where
    file : List ℕ
    file = a ∷ b ∷ c ∷ l

    by : (t : Bool) → Ends deep file (magic_of deep (length file) (cond t (magic l) no_magic))
    by true = magic-ends deep file l (ends_more a (ends_more b (ends_more c (ends-self l))))
    by false = tt

pub ends-with-pixels : EndsWithPixels
ends-with-pixels deep file w h m start e = subst (Ends deep file) e (read-ends deep file)

-- how many bytes the samples of a deep file take
pub read_bytes : (file : List ℕ) (g : Graymap) → read_of true file ≡ Ok g → length file ≡ g.start + 2 * (g.width * g.height)
read_bytes file g e = (ends-with-pixels true file g.width g.height g.maximum g.start e).0

-- ---- the plain form is read back
pub round_trip : RoundTrip
unfolding read_of
round_trip deep w h m samples sizes maximum count below =
    let bytes = bytes_in deep samples in
    let file = plain_of deep w h m samples in
    let text = decimal w ++ (32 ∷ (decimal h ++ (32 ∷ (decimal m ++ (10 ∷ bytes))))) in
    let n = length file in
    let s = sized w h (passed sizes) in
    let e : header_in text ≡ header w h m bytes = header_read w h m bytes (omega (arith, s.width-most)) (omega (arith, s.height-most)) (below-cut deep m maximum) in
    let same : length bytes ≡ bytes_of deep (w * h) = bytes_count deep samples ∙ ap (bytes_of deep) count in
    let clear : w * h ≡ first_above (sample_in deep bytes) m (w * h)
    = sym (above_all (sample_in deep bytes) m (w * h) (λ i l. subst (λ (v : ℕ). v ≤ m) (sym (samples-read deep samples i)) (below i l))) in
    let ends : EndsIn bytes text = subst (λ (x : Header). HeaderEnds x text) e (header-ends text) in (
      n - length bytes,
      ap (sized_of deep n) e
          ∙ good-size deep n w h m bytes maximum sizes
          ∙ sym (all_read deep n w h m bytes (length bytes) same (omega arith) (w * h) clear (le-ltb (w * h) (w * h) (omega arith)) (n - length bytes) refl (le-ltb (length bytes) (length bytes) (omega arith))),
      ap (λ (l : List ℕ). tabulated (w * h) (sample_in deep l)) (ends_at (ends_more 80 (ends_more 53 (ends_more 32 ends)))).1
          ∙ tabulated-cong (w * h) (sample_in deep bytes) (λ i. get_or samples i 0) (λ i l. samples-read deep samples i)
          ∙ tabulated-by (w * h) 0 samples count,
    )

-- What is behind the magic: numbers that were cut are judged as the exact ones; each test of the call once those before it have passed.
use mathlib.Core.Path.{◌≡◌, sym, ap, ◌∙◌, subst}
use mathlib.Core.Logic.{⊎_elim}
use mathlib.Core.Bool.{Bool, true, false, not, ◌&&◌, cond, and-false, false≢true}
use mathlib.Core.List.{List}
use Prim.Native.Nat.{ℕ, ◌-◌, ◌*◌, ◌≤◌, ◌<◌}
use native.Mathlib.Omega.{arith}
use lib.Dec.{leb, ltb}
use lib.ListN.{length, take, drop, length-drop}
use lib.Seq.{take_all}
use borrow.Author.Tests.{leb-true, lt-leb, le-ltb}
use Rattle.shapes.proofs.TestLaws.{second-of}
use Rattle.imageview.specs.Image.{most, is_size}
use Rattle.refusals.specs.declared.Refusal.TheVariants.{NoMagic, BadHeader, BadGraymapSize, TooShort, LeftOver}
use Rattle.graymap.specs.Grammar.{magic_in, no_header, header, header_in}
use Rattle.graymap.specs.Call.{Reading, read, above_at, refused, first_above, is_maximum, bytes_of, sample_in, pixels_of, sized_of, magic_of, read_of}
use Rattle.graymap.specs.Steps.{has_magic, cut, cut_at}
use Rattle.graymap.proofs.CutLaws.{cut_below, cut-above, sides}
use Rattle.graymap.proofs.HeaderLaws.{magic-is, magic-none, Whole}

-- ---- the tests past the header
module _ (deep : Bool) (count w h m : ℕ) (l : List ℕ) where
  pub bad-maximum : is_maximum deep m ≡ false → sized_of deep count (header w h m l) ≡ refused BadHeader
  bad-maximum e = ap (λ (b : Bool). cond (not b) (refused BadHeader) (cond (not (is_size w h)) (refused BadGraymapSize) (pixels_of deep count w h m l))) e

  pub good-maximum : is_maximum deep m ≡ true → sized_of deep count (header w h m l) ≡ cond (not (is_size w h)) (refused BadGraymapSize) (pixels_of deep count w h m l)
  good-maximum e = ap (λ (b : Bool). cond (not b) (refused BadHeader) (cond (not (is_size w h)) (refused BadGraymapSize) (pixels_of deep count w h m l))) e

  bad-sizes : is_size w h ≡ false → sized_of deep count (header w h m l) ≡ cond (not (is_maximum deep m)) (refused BadHeader) (refused BadGraymapSize)
  bad-sizes e = ap (λ (b : Bool). cond (not (is_maximum deep m)) (refused BadHeader) (cond (not b) (refused BadGraymapSize) (pixels_of deep count w h m l))) e

  pub good-size : is_maximum deep m ≡ true → is_size w h ≡ true → sized_of deep count (header w h m l) ≡ pixels_of deep count w h m l
  good-size t e = good-maximum t ∙ ap (λ (b : Bool). cond (not b) (refused BadGraymapSize) (pixels_of deep count w h m l)) e

-- ---- numbers above the limit pass no test
much : (deep : Bool) (m : ℕ) → cut_at ≤ m → is_maximum deep m ≡ false
much true m h = ap (λ (b : Bool). leb 256 m && b) (lt-leb m 4095 (omega arith)) ∙ and-false (leb 256 m)
much false m h = ap (λ (b : Bool). leb 1 m && b) (lt-leb m 255 (omega arith)) ∙ and-false (leb 1 m)

wide : (w h : ℕ) → cut_at ≤ w → is_size w h ≡ false
wide w h g =
    ap (λ (b : Bool). leb 1 w && b && leb 1 h && leb h most) (lt-leb w most (omega arith))
    ∙ ap (λ (b : Bool). b && leb 1 h && leb h most) (and-false (leb 1 w))

high : (w h : ℕ) → cut_at ≤ h → is_size w h ≡ false
high w h g =
    ap (λ (b : Bool). leb 1 w && leb w most && leb 1 h && b) (lt-leb h most (omega arith))
    ∙ and-false (leb 1 w && leb w most && leb 1 h)

module _ (deep : Bool) (count : ℕ) (l : List ℕ) where
  maximum-free : (w h m : ℕ) → sized_of deep count (header w h (cut m) l) ≡ sized_of deep count (header w h m l)
  maximum-free w h m =
      ⊎_elim (λ g. ap (λ (k : ℕ). sized_of deep count (header w h k l)) (cut_below m g))
      (λ g. ap (λ (k : ℕ). sized_of deep count (header w h k l)) (cut-above m g) ∙ bad-maximum deep count w h cut_at l (much deep cut_at (omega arith)) ∙ sym (bad-maximum deep count w h m l (much deep m g)))
      (sides m cut_at)

  width-free : (w h m : ℕ) → sized_of deep count (header (cut w) h m l) ≡ sized_of deep count (header w h m l)
  width-free w h m =
      ⊎_elim (λ g. ap (λ (k : ℕ). sized_of deep count (header k h m l)) (cut_below w g))
      (λ g. ap (λ (k : ℕ). sized_of deep count (header k h m l)) (cut-above w g) ∙ bad-sizes deep count cut_at h m l (wide cut_at h (omega arith)) ∙ sym (bad-sizes deep count w h m l (wide w h g)))
      (sides w cut_at)

  height-free : (w h m : ℕ) → sized_of deep count (header w (cut h) m l) ≡ sized_of deep count (header w h m l)
  height-free w h m =
      ⊎_elim (λ g. ap (λ (k : ℕ). sized_of deep count (header w k m l)) (cut_below h g))
      (λ g. ap (λ (k : ℕ). sized_of deep count (header w k m l)) (cut-above h g) ∙ bad-sizes deep count w cut_at m l (high w cut_at (omega arith)) ∙ sym (bad-sizes deep count w h m l (high w h g)))
      (sides h cut_at)

  cut-free : (w h m : ℕ) → sized_of deep count (header (cut w) (cut h) (cut m) l) ≡ sized_of deep count (header w h m l)
  cut-free w h m = width-free w (cut h) (cut m) ∙ height-free w h (cut m) ∙ maximum-free w h m

-- ---- the whole call
module _ (deep : Bool) (file : List ℕ) where
  pub no-magic : has_magic file ≡ false → refused NoMagic ≡ read_of deep file
  unfolding read_of
  no-magic e = ap (magic_of deep (length file)) (sym (magic-none (magic_in file) e))

  module _ (e : has_magic file ≡ true) where
    behind : sized_of deep (length file) (header_in (drop 3 file)) ≡ read_of deep file
    unfolding read_of
    behind = ap (magic_of deep (length file)) (sym (magic-is file e).1)

    pub no-heading : header_in (drop 3 file) ≡ no_header → refused BadHeader ≡ read_of deep file
    no-heading n = ap (sized_of deep (length file)) (sym n) ∙ behind

    pub heading : (w h m start : ℕ) → Whole file (header_in (drop 3 file)) w h m start → sized_of deep (length file) (header w h m (drop start file)) ≡ read_of deep file
    heading w h m start t =
        ap (λ (k : ℕ). sized_of deep (length file) (header k h m (drop start file))) t.width-cut
        ∙ ap (λ (k : ℕ). sized_of deep (length file) (header (cut t.width) k m (drop start file))) t.height-cut
        ∙ ap (λ (k : ℕ). sized_of deep (length file) (header (cut t.width) (cut t.height) k (drop start file))) t.maximum-cut
        ∙ cut-free deep (length file) (drop start file) t.width t.height t.maximum
        ∙ ap (sized_of deep (length file)) (sym t.is)
        ∙ behind

-- ---- a maximum that passed fits the samples
abbrev pub most_of : Bool → ℕ
most_of deep = cond deep 4095 255

pub maximum-most : (deep : Bool) (m : ℕ) → is_maximum deep m ≡ true → m ≤ most_of deep
maximum-most true m e = leb-true m 4095 (second-of (leb 256 m) (leb m 4095) e)
maximum-most false m e = leb-true m 255 (second-of (leb 1 m) (leb m 255) e)

pub below-cut : (deep : Bool) (m : ℕ) → is_maximum deep m ≡ true → m < cut_at
below-cut deep m e = ⊎_elim (λ l. l) (λ g. absurd (false≢true (sym (much deep m g) ∙ e))) (sides m cut_at)

-- ---- the pixels
-- a part that runs to the end is all that is left, and where it begins
pub whole_part : (file : List ℕ) (start : ℕ) → take (length file - start) (drop start file) ≡ drop start file
whole_part file start = take_all (length file - start) (drop start file) (let n = length-drop start file in omega arith)

module _ (deep : Bool) (count w h m : ℕ) (left : List ℕ) (size : ℕ) (sizes : size ≡ bytes_of deep (w * h)) where
  abbrev first : ℕ
  first = first_above (sample_in deep left) m (w * h)

  abbrev judge : Bool → Bool → Bool → Reading
  judge short above over = cond short (refused TooShort) (cond above (above_at first) (cond over (refused LeftOver) (read w h m (count - length left))))

  -- the last test, by the size that was worked out
  over_by : (b : Bool) → ltb size (length left) ≡ b → b ≡ ltb (bytes_of deep (w * h)) (length left)
  over_by b o = sym o ∙ ap (λ (k : ℕ). ltb k (length left)) sizes

  module _ (long : size ≤ length left) where
    past-short : judge false (ltb first (w * h)) (ltb (bytes_of deep (w * h)) (length left)) ≡ pixels_of deep count w h m left
    past-short = ap (λ (b : Bool). judge b (ltb first (w * h)) (ltb (bytes_of deep (w * h)) (length left))) (sym (le-ltb _ _ (subst (λ (k : ℕ). k ≤ length left) sizes long)))

    module _ (k : ℕ) (e : k ≡ first) where
      above-by : (b : Bool) → ltb k (w * h) ≡ b → judge false b (ltb (bytes_of deep (w * h)) (length left)) ≡ pixels_of deep count w h m left
      above-by b g = ap (λ (b : Bool). judge false b (ltb (bytes_of deep (w * h)) (length left))) (sym g ∙ ap (λ (j : ℕ). ltb j (w * h)) e) ∙ past-short

      module _ (g : ltb k (w * h) ≡ false) where
        pub all_read : (start : ℕ) → start ≡ count - length left → ltb size (length left) ≡ false → read w h m start ≡ pixels_of deep count w h m left
        all_read start p o = ap (read w h m) p ∙ ap (λ (b : Bool). judge false false b) (over_by false o) ∙ above-by false g

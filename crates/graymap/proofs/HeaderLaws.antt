-- The magic; a number and where the next begins; the header number by number.
use mathlib.Core.Path.{◌≡◌, refl, sym, ap, ◌∙◌}
use mathlib.Core.Bool.{Bool, true, false, ◌&&◌, cond, false≢true}
use mathlib.Core.List.{List, [], ◌∷◌}
use Prim.Native.Nat.{ℕ, ◌-◌, ◌≤◌, ◌<◌}
use native.Mathlib.Omega.{arith}
use lib.Dec.{eqb}
use lib.ListN.{length, get_or, take, drop, length-drop, take-append-drop}
use Rattle.graymap.specs.declared.header.Found.{Found}
use Rattle.graymap.specs.declared.header.Heading.{Heading}
use Rattle.std.specs.Prelude.{Some, None}
use Rattle.graymap.specs.Grammar.{is_space, Number, missing, number, number_in, Magic, no_magic, magic, magic_in, Header, no_header, header, with_maximum, with_height, with_width, header_in}
use Rattle.graymap.specs.Steps.{is_magic, has_magic, cut, number_found, found_of, heading, heading_of}
use Rattle.graymap.proofs.TailLaws.{EndsIn, ends_on, ends_at, NumberEnds, number-ends, HeaderEnds, header-ends}

-- ---- the magic
pub magic-short : (l : List ℕ) → length l < 3 → false ≡ has_magic l
magic-short [] h = refl
magic-short (a ∷ []) h = refl
magic-short (a ∷ b ∷ []) h = refl
magic-short (a ∷ b ∷ c ∷ l) h = absurd (let z : ⊥ = omega arith in z)

pub magic-test : (l : List ℕ) → 3 ≤ length l → (eqb (get_or l 0 0) 80 && eqb (get_or l 1 0) 53 && is_space (get_or l 2 0)) ≡ has_magic l
magic-test [] h = absurd (let z : ⊥ = omega arith in z)
magic-test (a ∷ []) h = absurd (let z : ⊥ = omega arith in z)
magic-test (a ∷ b ∷ []) h = absurd (let z : ⊥ = omega arith in z)
magic-test (a ∷ b ∷ c ∷ l) h = by (eqb a 80 && eqb b 53 && is_space c)
  where
    by : (t : Bool) → t ≡ is_magic (cond t (magic l) no_magic)
    by true = refl
    by false = refl

pub magic-is : (l : List ℕ) → has_magic l ≡ true → (3 ≤ length l) × (magic_in l ≡ magic (drop 3 l))
magic-is [] e = absurd (false≢true e)
magic-is (a ∷ []) e = absurd (false≢true e)
magic-is (a ∷ b ∷ []) e = absurd (false≢true e)
magic-is (a ∷ b ∷ c ∷ l) e = (omega arith, by (eqb a 80 && eqb b 53 && is_space c) e)
  where
    by : (t : Bool) → is_magic (cond t (magic l) no_magic) ≡ true → cond t (magic l) no_magic ≡ magic l
    by true e = refl
    by false e = absurd (false≢true e)

pub magic-none : (m : Magic) → is_magic m ≡ false → m ≡ no_magic
magic-none no_magic e = refl
magic-none (magic l) e = absurd (false≢true (sym e))

-- ---- a number that was found: its value before the cut, and what is left behind it
pub record Next (file : List ℕ) (n : Number) (value next : ℕ) : Type 0 where
  pub exact : ℕ
  pub is : n ≡ number exact (drop next file)
  pub cuts : value ≡ cut exact
  pub within : next ≤ length file

-- what is left of a file at a place is what it ends with
pub left-ends : (file : List ℕ) (from : ℕ) → EndsIn (drop from file) file
left-ends file from = (take from file, sym (take-append-drop from file))

-- the place of what is left is where it begins
pub place_of : (file : List ℕ) (at : ℕ) → at ≤ length file → at ≡ length file - length (drop at file)
place_of file at h = let n = length-drop at file in omega arith

pub none_found : (count : ℕ) (n : Number) → None ≡ found_of count n → n ≡ missing
none_found count missing e = refl
none_found count (number v l) e = absurd (cc)

pub found : (file : List ℕ) (from value next : ℕ) → Some (number_found value next) ≡ found_of (length file) (number_in (drop from file)) → Next file (number_in (drop from file)) value next
found file from value next e = by (number_in (drop from file)) (number-ends (drop from file)) e
  where
    by : (n : Number) → NumberEnds n (drop from file) → Some (number_found value next) ≡ found_of (length file) n → Next file n value next
    by missing t e = absurd (cc)
    by (number v l) t e =
        let at = ends_at (ends_on t (left-ends file from)) in
        let same : number_found value next ≡ number_found (cut v) (length file - length l) = cc in
        let p = ap (λ (f : Found). f.next) same in
        record { exact = v; is = ap (number v) (sym at.1 ∙ ap (λ (k : ℕ). drop k file) (sym p)); cuts = ap (λ (f : Found). f.value) same; within = omega (arith, at.0) }

-- ---- the header, number by number
pub no-width : (count : ℕ) (l : List ℕ) → number_in l ≡ missing → None ≡ heading_of count (header_in l)
unfolding header_in
no-width count l e = ap (λ (n : Number). heading_of count (with_width n)) (sym e)

module _ (file : List ℕ) (from w at : ℕ) (a : Next file (number_in (drop from file)) w at) where
  behind-width : heading_of (length file) (header_in (drop from file)) ≡ heading_of (length file) (with_height a.exact (number_in (drop at file)))
  unfolding header_in
  behind-width = ap (λ (n : Number). heading_of (length file) (with_width n)) a.is

  pub no-height : number_in (drop at file) ≡ missing → None ≡ heading_of (length file) (header_in (drop from file))
  no-height e = sym (behind-width ∙ ap (λ (n : Number). heading_of (length file) (with_height a.exact n)) e)

  module _ (h to : ℕ) (b : Next file (number_in (drop at file)) h to) where
    behind-height : heading_of (length file) (header_in (drop from file)) ≡ heading_of (length file) (with_maximum a.exact b.exact (number_in (drop to file)))
    behind-height = behind-width ∙ ap (λ (n : Number). heading_of (length file) (with_height a.exact n)) b.is

    pub no-maximum : number_in (drop to file) ≡ missing → None ≡ heading_of (length file) (header_in (drop from file))
    no-maximum e = sym (behind-height ∙ ap (λ (n : Number). heading_of (length file) (with_maximum a.exact b.exact n)) e)

    pub whole_found : (m start : ℕ) → Next file (number_in (drop to file)) m start → Some (heading w h m start) ≡ heading_of (length file) (header_in (drop from file))
    whole_found m start c =
        ap (λ (k : ℕ). Some (heading k h m start)) a.cuts
        ∙ ap (λ (k : ℕ). Some (heading (cut a.exact) k m start)) b.cuts
        ∙ ap (λ (k : ℕ). Some (heading (cut a.exact) (cut b.exact) k start)) c.cuts
        ∙ ap (λ (k : ℕ). Some (heading (cut a.exact) (cut b.exact) (cut c.exact) k)) (place_of file start c.within)
        ∙ sym (behind-height ∙ ap (λ (n : Number). heading_of (length file) (with_maximum a.exact b.exact n)) c.is)

-- ---- the header that was found: its numbers before the cut, and what is left behind it
pub record Whole (file : List ℕ) (x : Header) (w h m start : ℕ) : Type 0 where
  pub width : ℕ
  pub height : ℕ
  pub maximum : ℕ
  pub is : x ≡ header width height maximum (drop start file)
  pub width-cut : w ≡ cut width
  pub height-cut : h ≡ cut height
  pub maximum-cut : m ≡ cut maximum
  pub within : start ≤ length file

pub none-given : (count : ℕ) (x : Header) → None ≡ heading_of count x → x ≡ no_header
none-given count no_header e = refl
none-given count (header w h m l) e = absurd (cc)

pub given : (file : List ℕ) (from w h m start : ℕ) → Some (heading w h m start) ≡ heading_of (length file) (header_in (drop from file)) → Whole file (header_in (drop from file)) w h m start
given file from w h m start e = by (header_in (drop from file)) (header-ends (drop from file)) e
  where
    by : (x : Header) → HeaderEnds x (drop from file) → Some (heading w h m start) ≡ heading_of (length file) x → Whole file x w h m start
    by no_header t e = absurd (cc)
    by (header w' h' m' l) t e =
        let at = ends_at (ends_on t (left-ends file from)) in
        let same : heading w h m start ≡ heading (cut w') (cut h') (cut m') (length file - length l) = cc in
        let p = ap (λ (x : Heading). x.start) same in
        record {
          width = w';
          height = h';
          maximum = m';
          is = ap (header w' h' m') (sym at.1 ∙ ap (λ (k : ℕ). drop k file) (sym p));
          width-cut = ap (λ (x : Heading). x.width) same;
          height-cut = ap (λ (x : Heading). x.height) same;
          maximum-cut = ap (λ (x : Heading). x.maximum) same;
          within = omega (arith, at.0);
        }

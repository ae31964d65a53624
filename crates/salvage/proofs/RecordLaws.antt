-- A record alone has the fault that it has in its file; how many records are kept and dropped, one after the other.
use mathlib.Core.Path.{◌≡◌, refl, sym, ap, ◌∙◌, subst}
use mathlib.Core.Logic.{⊎_elim}
use mathlib.Core.Bool.{Bool, true, false, not, ◌&&◌, cond}
use mathlib.Core.List.{List, [], ◌∷◌, ◌++◌}
use Prim.Native.Nat.{ℕ, zero, suc, ◌+◌, ◌*◌, ◌/◌, ◌%◌, ◌≤◌, ◌<◌}
use native.Mathlib.Nat.{add_assoc, le_refl, eq-or-lt_of_le, le_of_suc-le-suc}
use native.Mathlib.Numerals.{add-one}
use native.Mathlib.Omega.{arith}
use lib.Dec.{leb, ltb, eqb}
use borrow.Author.Tests.{ltb-true, ltb-false, eq-eqb, ne_eqb}
use lib.ListN.{length, get_or, drop, length-append, length-drop}
use lib.Seq.{length-take-le, get_or-take, get_or-drop}
use lib.Ieee.{Float, nan, inf, binary32, odd, of_fields, of_bits}
use lib.Ieee.Scale.{finite}
use Rattle.words.specs.Words.{joined, word_at}
use Rattle.words.proofs.WordLaws.{word-within}
use Rattle.std.specs.Prelude.{Option, Some, None, is_some}
use Rattle.salvage.specs.declared.faults.Fault.{Fault}
use Rattle.salvage.specs.declared.faults.Fault.TheVariants.{Cut, NotFinite, Outside}
use Rattle.salvage.specs.Faults.{code_of, told}
use Rattle.salvage.specs.Records.{within_axis, fault_of, kept_of, faults_of}
use Rattle.salvage.specs.Steps.{record_of, Counted}

-- ---- a record alone
pub length-record : (file : List ℕ) (i : ℕ) → 12 * i + 12 ≤ length file → length (record_of file i) ≡ 12
length-record file i h = length-take-le 12 (drop (12 * i) file) (simp length-drop (omega arith))

joined_same : {a b c d a' b' c' d' : ℕ} → a ≡ a' → b ≡ b' → c ≡ c' → d ≡ d' → joined a b c d ≡ joined a' b' c' d'
joined_same p q r s = λ i. joined (p i) (q i) (r i) (s i)

word-alone : (file : List ℕ) (i b : ℕ) → 12 * i + 12 ≤ length file → b + 4 ≤ 12 → word_at (record_of file i) b ≡ word_at file (12 * i + b)
word-alone file i b h l =
    sym (word-within (record_of file i) b (subst (λ (n : ℕ). b + 4 ≤ n) (sym (length-record file i h)) l))
    ∙ joined_same
    (get_or-take 12 (drop (12 * i) file) b 0 (omega arith) ∙ get_or-drop (12 * i) file b 0)
    (at 1 (omega arith))
    (at 2 (omega arith))
    (at 3 (omega arith))
    ∙ word-within file (12 * i + b) (omega arith)
  where
    at : (k : ℕ) → b + k < 12 → get_or (record_of file i) (b + k) 0 ≡ get_or file (12 * i + b + k) 0
    at k g = get_or-take 12 (drop (12 * i) file) (b + k) 0 g ∙ get_or-drop (12 * i) file (b + k) 0 ∙ ap (λ (m : ℕ). get_or file m 0) (sym (add_assoc (12 * i) b k))

abbrev val : ℕ → Float
val n = of_bits binary32 n

-- the fault by its three words
abbrev judged : ℕ → ℕ → ℕ → ℕ → ℕ → ℕ
judged w h x y s = cond (not (finite (val x) && finite (val y) && finite (val s))) 2 (cond (not (within_axis w (val x) && within_axis h (val y))) 3 0)

by-words : (w h : ℕ) (file : List ℕ) (i : ℕ) → fault_of w h file i ≡ judged w h (word_at file (12 * i + 0)) (word_at file (12 * i + 4)) (word_at file (12 * i + 8))
unfolding fault_of
by-words w h file i = refl

same-words : (w h : ℕ) {x y s x' y' s' : ℕ} → x ≡ x' → y ≡ y' → s ≡ s' → judged w h x y s ≡ judged w h x' y' s'
same-words w h p q r = λ i. judged w h (p i) (q i) (r i)

pub fault_alone : (w h : ℕ) (file : List ℕ) (i : ℕ) → 12 * i + 12 ≤ length file → fault_of w h (record_of file i) 0 ≡ fault_of w h file i
fault_alone w h file i l =
    by-words w h (record_of file i) 0
    ∙ same-words w h (word-alone file i 0 l (omega arith)) (word-alone file i 4 l (omega arith)) (word-alone file i 8 l (omega arith))
    ∙ sym (by-words w h file i)

-- ---- which patterns are finite numbers'
finite-odd : (d : ℕ) (s : Bool) (q k l : ℕ) → finite (odd d s q k l) ≡ true
unfolding odd
finite-odd d s zero k l = refl
finite-odd d s (suc q) k l = refl

finite-fields : (s : Bool) (x t : ℕ) → finite (of_fields binary32 s x t) ≡ not (eqb x 255)
unfolding of_fields
finite-fields s zero t = finite-odd 24 s t 0 149
finite-fields s (suc x) t = by (eqb (suc x) 255) (eqb t 0)
  where
    by : (b z : Bool) → finite (cond b (cond z (inf s) nan) (odd 24 s (8388608 + t) x 149)) ≡ not b
    by true true = refl
    by true false = refl
    by false z = finite-odd 24 s (8388608 + t) x 149

-- the exponent is all ones from here on
ones-from : (m : ℕ) → m < 2147483648 → not (eqb (m / 8388608) 255) ≡ ltb m 2139095040
ones-from m l = by (ltb m 2139095040) refl
  where
    by : (b : Bool) → ltb m 2139095040 ≡ b → not (eqb (m / 8388608) 255) ≡ b
    by true e = ap not (ne_eqb (m / 8388608) 255 (λ q. omega (arith, ltb-true m 2139095040 e)))
    by false e = ap not (eq-eqb (m / 8388608) 255 (omega (arith, ltb-false m 2139095040 e)))

pub finite_bits : (n : ℕ) → ltb (n % 2147483648) 2139095040 ≡ finite (of_bits binary32 n)
unfolding of_bits
finite_bits n = sym (finite-fields (leb 2147483648 n) (n % 2147483648 / 8388608) (n % 8388608) ∙ ones-from (n % 2147483648) (omega arith))

-- ---- a fault's number is not 0
pub some_fault : (f : Fault) → code_of f ≡ 0 → ⊥
some_fault Cut e = omega arith
some_fault NotFinite e = omega arith
some_fault Outside e = omega arith

-- ---- one record more
-- lists that grow do not become shorter
grows : (f g : ℕ → List ℕ) → ((n : ℕ) → f (suc n) ≡ f n ++ g n) → (m n : ℕ) → m ≤ n → length (f m) ≤ length (f n)
grows f g e m zero h = subst (λ (k : ℕ). length (f k) ≤ length (f 0)) (let z : 0 ≡ m = omega arith in z) (le_refl (length (f 0)))
grows f g e m (suc n) h =
    ⊎_elim
    (λ q. subst (λ (k : ℕ). length (f m) ≤ length (f k)) q (le_refl (length (f m))))
    (λ l. omega (arith, grows f g e m n (le_of_suc-le-suc l), ap length (e n) ∙ length-append (f n) (g n)))
    (eq-or-lt_of_le h)

module _ (w h : ℕ) (file : List ℕ) where
  kept-suc : (n : ℕ) → kept_of w h file (suc n) ≡ kept_of w h file n ++ cond (eqb (fault_of w h file n) 0) (record_of file n) []
  unfolding kept_of
  kept-suc n = refl

  faults-suc : (n : ℕ) → faults_of w h file (suc n) ≡ faults_of w h file n ++ cond (eqb (fault_of w h file n) 0) [] (n ∷ fault_of w h file n ∷ [])
  unfolding faults_of
  faults-suc n = refl

  pub kept-none : kept_of w h file 0 ≡ []
  unfolding kept_of
  kept-none = refl

  pub faults-none : faults_of w h file 0 ≡ []
  unfolding faults_of
  faults-none = refl

  pub kept-grows : (m n : ℕ) → m ≤ n → length (kept_of w h file m) ≤ length (kept_of w h file n)
  kept-grows = grows (kept_of w h file) (λ n. cond (eqb (fault_of w h file n) 0) (record_of file n) []) kept-suc

  pub faults-grow : (m n : ℕ) → m ≤ n → length (faults_of w h file m) ≤ length (faults_of w h file n)
  faults-grow = grows (faults_of w h file) (λ n. cond (eqb (fault_of w h file n) 0) [] (n ∷ fault_of w h file n ∷ [])) faults-suc

  -- by the test of the record that comes
  pub kept_more : (n : ℕ) (b : Bool) → eqb (fault_of w h file n) 0 ≡ b → kept_of w h file (n + 1) ≡ kept_of w h file n ++ cond b (record_of file n) []
  kept_more n b e = ap (kept_of w h file) (add-one n) ∙ kept-suc n ∙ ap (λ (t : Bool). kept_of w h file n ++ cond t (record_of file n) []) e

  pub faults-more : (n : ℕ) (b : Bool) → eqb (fault_of w h file n) 0 ≡ b → faults_of w h file (n + 1) ≡ faults_of w h file n ++ cond b [] (n ∷ fault_of w h file n ∷ [])
  faults-more n b e = ap (faults_of w h file) (add-one n) ∙ faults-suc n ∙ ap (λ (t : Bool). faults_of w h file n ++ cond t [] (n ∷ fault_of w h file n ∷ [])) e

  -- ---- how many are kept
  pub counted_none : Counted w h file 0 0
  counted_none = record { bytes = ap length kept-none; numbers = ap (λ (l : List ℕ). length l + 0) faults-none }

  counted-by : (n k : ℕ) → 12 * n + 12 ≤ length file → Counted w h file n k → (b : Bool) → eqb (fault_of w h file n) 0 ≡ b → Counted w h file (n + 1) (cond b (k + 1) k)
  counted-by n k l c true e = record {
    bytes = ap length (kept_more n true e) ∙ length-append (kept_of w h file n) (record_of file n) ∙ (omega (arith, c.bytes, length-record file n l));
    numbers = omega (arith, c.numbers, ap length (faults-more n true e) ∙ length-append (faults_of w h file n) []);
  }
  counted-by n k l c false e = record {
    bytes = ap length (kept_more n false e) ∙ length-append (kept_of w h file n) [] ∙ (omega (arith, c.bytes));
    numbers = omega (arith, c.numbers, ap length (faults-more n false e) ∙ length-append (faults_of w h file n) (n ∷ fault_of w h file n ∷ []));
  }

  -- by what the record alone was told to have
  pub counted_told : (n k : ℕ) (r : Option Fault) (b : Bool) → 12 * n + 12 ≤ length file → Counted w h file n k → told r ≡ fault_of w h file n → is_some r ≡ not b → Counted w h file (n + 1) (cond b (k + 1) k)
  counted_told n k None true l c e q = counted-by n k l c true (eq-eqb (fault_of w h file n) 0 (sym e))
  counted_told n k None false l c e q = absurd (cc)
  counted_told n k (Some f) true l c e q = absurd (cc)
  counted_told n k (Some f) false l c e q = counted-by n k l c false (ne_eqb (fault_of w h file n) 0 (λ z. some_fault f (e ∙ z)))

  pub counted_more : (n k : ℕ) → 12 * n + 12 ≤ length file → Counted w h file n k → Counted w h file (n + 1) (cond (eqb (fault_of w h file n) 0) (k + 1) k)
  counted_more n k l c = counted-by n k l c (eqb (fault_of w h file n) 0) refl

  pub some-kept : (n : ℕ) → 12 * n ≤ length file → (kept : ℕ) × Counted w h file n kept
  some-kept zero l = (0, counted_none)
  some-kept (suc n) l =
      let r = some-kept n (omega arith) in
      let k = cond (eqb (fault_of w h file n) 0) (r.0 + 1) r.0 in
      (k, subst (λ (m : ℕ). Counted w h file m k) (add-one n) (counted_more n r.0 (omega arith) r.1))

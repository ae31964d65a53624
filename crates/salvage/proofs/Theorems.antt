-- Kept and dropped together are all records; the call's own output is saved whole; so is a file with nothing wrong. In the words of specs/Claims.antt.
use mathlib.Core.Path.{◌≡◌, refl, sym, ap, ◌∙◌, subst}
use mathlib.Core.Logic.{⊎_elim}
use mathlib.Core.Bool.{Bool, true, false, cond}
use mathlib.Core.List.{List, [], ◌∷◌, ◌++◌, append-nil}
use Prim.Native.Nat.{ℕ, zero, suc, ◌+◌, ◌*◌, ◌/◌, ◌%◌, ◌≤◌, ◌<◌}
use native.Mathlib.Nat.{le_refl, eq-or-lt_of_le}
use native.Mathlib.Numerals.{add-one}
use native.Mathlib.Omega.{arith}
use lib.Dec.{eqb}
use lib.ListN.{length, take, drop, length-append}
use lib.Seq.{take-add, take_all, drop-append_seam, take-append-le, drop-append-le}
use borrow.Author.Tests.{eqb-true, eq-eqb, ltb-false, le-ltb}
use Rattle.salvage.specs.Records.{whole_of, is_cut, fault_of, kept_of, faults_of, dropped_of}
use Rattle.salvage.specs.Claims.{AllTold, SavedTwice, WholeStays}
use Rattle.salvage.specs.Steps.{record_of, Counted}
use Rattle.salvage.proofs.RecordLaws.{fault_alone, length-record, kept-none, faults-none, kept_more, faults-more, some-kept}
use Rattle.salvage.proofs.CallLaws.{dropped-long}

module _ (w h : ℕ) (file : List ℕ) where
  -- ---- records with nothing wrong
  module _ (good : (i : ℕ) → i < whole_of file → fault_of w h file i ≡ 0) where
    kept-all : (n : ℕ) → n ≤ whole_of file → kept_of w h file n ≡ take (12 * n) file
    kept-all zero l = kept-none w h file
    kept-all (suc n) l =
        ap (kept_of w h file) (sym (add-one n))
        ∙ kept_more w h file n true (eq-eqb (fault_of w h file n) 0 (good n l))
        ∙ ap (λ (k : List ℕ). k ++ record_of file n) (kept-all n (omega arith))
        ∙ sym (take-add (12 * n) 12 file)
        ∙ ap (λ (m : ℕ). take m file) (let e : 12 * n + 12 ≡ 12 * suc n = omega arith in e)

    no-faults : (n : ℕ) → n ≤ whole_of file → faults_of w h file n ≡ []
    no-faults zero l = faults-none w h file
    no-faults (suc n) l =
        ap (faults_of w h file) (sym (add-one n))
        ∙ faults-more w h file n true (eq-eqb (fault_of w h file n) 0 (good n l))
        ∙ append-nil (faults_of w h file n)
        ∙ no-faults n (omega arith)

    module _ (whole : is_cut file ≡ false) where
      stays : kept_of w h file (whole_of file) ≡ file
      stays = kept-all (whole_of file) (le_refl (whole_of file)) ∙ take_all (12 * whole_of file) file (omega (arith, ltb-false 0 (length file % 12) whole))

      drops-nothing : dropped_of w h file ≡ []
      drops-nothing = ap (λ (b : Bool). faults_of w h file (whole_of file) ++ cond b (whole_of file ∷ 1 ∷ []) []) whole ∙ append-nil (faults_of w h file (whole_of file)) ∙ no-faults (whole_of file) (le_refl (whole_of file))

-- ---- a record within the first part of a file, and the one behind that part
record-before : (a b : List ℕ) (i : ℕ) → 12 * i + 12 ≤ length a → record_of (a ++ b) i ≡ record_of a i
record-before a b i l =
    ap (take 12) (drop-append-le (12 * i) a b (omega arith))
    ∙ take-append-le 12 (drop (12 * i) a) b (omega (arith, lib.ListN.length-drop (12 * i) a))

record-behind : (a b : List ℕ) (i : ℕ) → length a ≡ 12 * i → length b ≡ 12 → record_of (a ++ b) i ≡ b
record-behind a b i l t =
    ap (λ (n : ℕ). take 12 (drop n (a ++ b))) (sym l)
    ∙ ap (take 12) (drop-append_seam a b)
    ∙ take_all 12 b (omega arith)

-- records of the same bytes have the same fault
same-fault : (w h : ℕ) (a b : List ℕ) (i j : ℕ) → 12 * i + 12 ≤ length a → 12 * j + 12 ≤ length b → record_of a i ≡ record_of b j → fault_of w h a i ≡ fault_of w h b j
same-fault w h a b i j l m e = sym (fault_alone w h a i l) ∙ ap (λ (r : List ℕ). fault_of w h r 0) e ∙ fault_alone w h b j m

-- ---- what was kept has nothing wrong
module _ (w h : ℕ) where
  abbrev Good : List ℕ → Type 0
  Good list = (i : ℕ) → 12 * i + 12 ≤ length list → fault_of w h list i ≡ 0

  module _ (file : List ℕ) (n : ℕ) (l : 12 * n + 12 ≤ length file) (good : Good (kept_of w h file n)) where
    good_more : eqb (fault_of w h file n) 0 ≡ true → Good (kept_of w h file n ++ record_of file n)
    good_more t i less =
        let a = kept_of w h file n in
        let b = record_of file n in
        let r = some-kept w h file n (omega arith) in
        let both : length (a ++ b) ≡ length a + 12 = length-append a b ∙ ap (λ (m : ℕ). length a + m) (length-record file n l) in
        let k : length a ≡ 12 * r.0 = r.1.bytes in
        ⊎_elim
        (λ q. same-fault w h (a ++ b) file i n less l (record-behind a b i (omega arith) (length-record file n l)) ∙ eqb-true (fault_of w h file n) 0 t)
        (λ m. same-fault w h (a ++ b) a i i less (omega arith) (record-before a b i (omega arith)) ∙ good i (omega arith))
        (eq-or-lt_of_le (let q : i ≤ r.0 = omega arith in q))

    good-by : (b : Bool) → eqb (fault_of w h file n) 0 ≡ b → Good (kept_of w h file n ++ cond b (record_of file n) [])
    good-by true t = good_more t
    good-by false t = subst Good (sym (append-nil (kept_of w h file n))) good

  kept-good : (file : List ℕ) (n : ℕ) → 12 * n ≤ length file → Good (kept_of w h file n)
  kept-good file zero l = subst Good (sym (kept-none w h file)) (λ i less. absurd (let z : ⊥ = omega arith in z))
  kept-good file (suc n) l =
      let b = eqb (fault_of w h file n) 0 in
      subst Good (sym (kept_more w h file n b refl) ∙ ap (kept_of w h file) (add-one n)) (good-by file n (omega arith) (kept-good file n (omega arith)) b refl)

-- ---- the claims
whole-fits : (file : List ℕ) → 12 * whole_of file ≤ length file
whole-fits file = omega arith

pub all_told : AllTold
all_told w h file =
    let r = some-kept w h file (whole_of file) (whole-fits file) in
    told (is_cut file) refl r.0 r.1
  where
    told : (b : Bool) → is_cut file ≡ b → (k : ℕ) → Counted w h file (whole_of file) k → length (kept_of w h file (whole_of file)) / 12 + length (dropped_of w h file) / 2 ≡ whole_of file + cond b 1 0
    told b e k c = omega (arith, c.bytes, c.numbers, dropped-long w h file c b e)

pub whole-stays : WholeStays
whole-stays w h file whole good = stays w h file good whole

pub saved-twice : SavedTwice
saved-twice w h file =
    let saved = kept_of w h file (whole_of file) in
    let r = some-kept w h file (whole_of file) (whole-fits file) in
    let good : (i : ℕ) → i < whole_of saved → fault_of w h saved i ≡ 0 = λ i less. kept-good w h file (whole_of file) (whole-fits file) i (omega arith) in
    let whole : is_cut saved ≡ false = le-ltb 0 (length saved % 12) (omega (arith, r.1.bytes)) in
    (drops-nothing w h saved good whole, stays w h saved good whole)

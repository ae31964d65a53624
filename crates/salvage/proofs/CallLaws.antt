-- The cut record behind the whole ones, and what was saved for who calls.
use mathlib.Core.Path.{◌≡◌, refl, sym, ap, ap₂, ◌∙◌}
use mathlib.Core.Bool.{Bool, true, false, ◌||◌, cond}
use mathlib.Core.List.{List, [], ◌∷◌, ◌++◌}
use Prim.Native.Nat.{ℕ, ◌+◌, ◌-◌, ◌*◌, ◌/◌, ◌≤◌}
use native.Mathlib.Omega.{arith}
use lib.Dec.{ltb}
use lib.ListN.{length, drop, length-append}
use borrow.Author.Tests.{le-ltb}
use Rattle.refusals.specs.declared.Refusal.{Refusal}
use Rattle.std.specs.Prelude.{Result, Ok}
use Rattle.salvage.specs.declared.Saved.{Saved}
use Rattle.salvage.specs.Records.{whole_of, is_cut, kept_of, faults_of, dropped_of}
use Rattle.salvage.specs.Call.{Way, refused, saved, way_of, answer_of, out_after, faults_after, Done}
use Rattle.salvage.specs.Steps.{Counted}
use Rattle.salvage.proofs.RecordLaws.{some-kept}

abbrev saving : ℕ → ℕ → Saved
saving k d = record { kept = k; dropped = d }

-- ---- with the cut record
module _ (w h : ℕ) (file : List ℕ) where
  abbrev whole : ℕ
  whole = whole_of file

  abbrev ending : Bool → List ℕ
  ending b = cond b (whole ∷ 1 ∷ []) []

  with-ending : (b : Bool) → is_cut file ≡ b → dropped_of w h file ≡ faults_of w h file whole ++ ending b
  with-ending b e = ap (λ (t : Bool). faults_of w h file whole ++ ending t) e

  at_most_one : (b : Bool) {cut : ℕ} → cut ≡ cond b 1 0 → cut ≤ 1
  at_most_one true e = omega arith
  at_most_one false e = omega arith

  module _ {kept : ℕ} (c : Counted w h file whole kept) where
    long-by : (b : Bool) → length (faults_of w h file whole ++ ending b) ≡ 2 * (whole - kept + cond b 1 0)
    long-by true = length-append (faults_of w h file whole) (whole ∷ 1 ∷ []) ∙ (omega (arith, c.numbers))
    long-by false = length-append (faults_of w h file whole) [] ∙ (omega (arith, c.numbers))

    pub dropped-long : (b : Bool) → is_cut file ≡ b → length (dropped_of w h file) ≡ 2 * (whole - kept + cond b 1 0)
    dropped-long b e = ap length (with-ending b e) ∙ long-by b

  -- outputs that hold any counts
  pub never-short : (out faults : ℕ) → 12 * whole ≤ out → 2 * whole + 2 ≤ faults → false ≡ (ltb out (length (kept_of w h file whole)) || ltb faults (length (dropped_of w h file)))
  never-short out faults a b =
      let r = some-kept w h file whole (omega arith) in
      sym (ap₂ (λ (s t : Bool). s || t)
      (le-ltb out (length (kept_of w h file whole)) (omega (arith, r.1.bytes, r.1.numbers)))
      (le-ltb faults (length (dropped_of w h file)) (omega (arith, dropped-long r.1 (is_cut file) refl, at_most_one (is_cut file) refl, r.1.numbers))))

-- ---- for who calls: what was saved lies within the outputs
within_by : (way : Way) (out faults : List ℕ) {kept dropped : ℕ} {out' faults' : List ℕ} → Ok (saving kept dropped) ≡ answer_of way → out' ≡ out_after out way → faults' ≡ faults_after faults way
    → (12 * kept ≤ length out') × (2 * dropped ≤ length faults')
within_by (refused r) out faults e p q = absurd (cc)
within_by (saved k d) out faults {kept} {dropped} e p q =
    let same : saving kept dropped ≡ saving (length k / 12) (length d / 2) = cc in
    let m = ap (λ (s : Saved). s.kept) same in
    let n = ap (λ (s : Saved). s.dropped) same in (
      omega (arith, ap length p ∙ length-append k (drop (length k) out)),
      omega (arith, ap length q ∙ length-append d (drop (length d) faults)),
    )

pub saved-within : {w h : ℕ} {file out faults : List ℕ} {answer : Result Saved Refusal} {out' faults' : List ℕ} {kept dropped : ℕ} → Done w h file out faults answer out' faults' → answer ≡ Ok (saving kept dropped)
    → (12 * kept ≤ length out') × (2 * dropped ≤ length faults')
saved-within {w} {h} {file} {out} {faults} t e = within_by (way_of w h file (length out) (length faults)) out faults (sym e ∙ t.answers) t.leaves-out t.leaves-faults

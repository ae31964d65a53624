-- What stands in the outputs, record by record.
use mathlib.Core.Path.{◌≡◌, refl, sym, ap, ◌∙◌, subst}
use mathlib.Core.Bool.{Bool, true, false, cond}
use mathlib.Core.List.{List, [], ◌∷◌, ◌++◌, append-nil, append_assoc}
use Prim.Native.Nat.{ℕ, ◌+◌, ◌-◌, ◌*◌, ◌≤◌, ◌<◌}
use native.Mathlib.Omega.{arith}
use lib.Dec.{eqb}
use lib.ListN.{length, take, drop, length-append, length-drop}
use lib.Seq.{take-append_seam, drop-append-add, drop-drop, sets, sets-eq}
use borrow.Rule.Slice.PartMut.{put_mid}
use Rattle.std.proofs.lemmas.Slice.{put_mid-paste}
use Rattle.std.proofs.lemmas.List.Edits.{paste_all}
use borrow.Author.Tests.{eq-eqb, ne_eqb}
use Rattle.salvage.specs.Records.{whole_of, fault_of, kept_of, faults_of}
use Rattle.salvage.specs.Steps.{record_of, fronted, Counted, WholeRoom, Writing, Before, Next}
use Rattle.salvage.proofs.RecordLaws.{length-record, kept-none, faults-none, kept-grows, faults-grow, kept_more, faults-more, counted_none, counted_more}

-- ---- a front that grows
pub length-fronted : (a old : List ℕ) → length a ≤ length old → length (fronted a old) ≡ length old
length-fronted a old h = simp (length-append, length-drop) (omega arith)

put_next : (a c old : List ℕ) → take (length a) (fronted a old) ++ c ++ drop (length a + length c) (fronted a old) ≡ fronted (a ++ c) old
put_next a c old =
    ap (λ (l : List ℕ). l ++ c ++ drop (length a + length c) (fronted a old)) (take-append_seam a (drop (length a) old))
    ∙ ap (λ (l : List ℕ). a ++ c ++ l) (drop-append-add a (drop (length a) old) (length c) ∙ drop-drop (length c) (length a) old ∙ ap (λ (n : ℕ). drop n old) (sym (length-append a c)))

-- entries stored behind a front make it longer
pub stored : (a c old : List ℕ) (at : ℕ) → length a ≡ at → at + length c ≤ length old → sets (fronted a old) at c ≡ fronted (a ++ c) old
stored a c old at e h =
    ap (λ (n : ℕ). sets (fronted a old) n c) (sym e)
    ∙ sets-eq c (fronted a old) (length a) (subst (λ (n : ℕ). length a + length c ≤ n) (sym (length-fronted a old (omega arith))) (omega arith))
    ∙ put_next a c old

-- ---- a record copied to its place
pub copied : (at : ℕ) (out bytes now : List ℕ) → now ≡ bytes → length bytes ≡ 12 → at + 12 ≤ length out → put_mid at (at + 12 - at) out now ≡ sets out at bytes
copied at out bytes now e long room =
    put_mid-paste at (at + 12 - at) out now bytes 12 e (omega arith) (sym long)
    ∙ paste_all out at bytes 12 (sym long)
    ∙ sym (append_assoc (take at out) bytes (drop (at + 12) out))
    ∙ ap (λ (n : ℕ). (take at out ++ bytes) ++ drop (at + n) out) (sym long)
    ∙ sym (sets-eq bytes out at (omega arith))

-- ---- record after record
module _ (w h : ℕ) (file out faults : List ℕ) (room : WholeRoom w h file (length out) (length faults)) where
  pub nothing_written : Writing w h file 0 out faults 0 out faults
  nothing_written = record {
    counts = counted_none w h file;
    leaves-out = sym (ap (λ (l : List ℕ). fronted l out) (kept-none w h file));
    leaves-faults = sym (ap (λ (l : List ℕ). fronted l faults) (faults-none w h file));
  }

  pub same_out : {n kept : ℕ} {out₁ faults₁ : List ℕ} → n ≤ whole_of file → Writing w h file n out faults kept out₁ faults₁ → length out₁ ≡ length out
  same_out {n} l t = ap length t.leaves-out ∙ length-fronted (kept_of w h file n) out (omega (arith, kept-grows w h file n (whole_of file) l, room.kept-fit))

  pub same_faults : {n kept : ℕ} {out₁ faults₁ : List ℕ} → n ≤ whole_of file → Writing w h file n out faults kept out₁ faults₁ → length faults₁ ≡ length faults
  same_faults {n} l t = ap length t.leaves-faults ∙ length-fronted (faults_of w h file n) faults (omega (arith, faults-grow w h file n (whole_of file) l, room.faults-fit))

  module _ (i kept : ℕ) (out₁ faults₁ : List ℕ) (l : i < whole_of file) (so_far : Writing w h file i out faults kept out₁ faults₁) where
    stands : 12 * i + 12 ≤ length file
    stands = omega (arith, l)

    fits : (b : Bool) → eqb (fault_of w h file i) 0 ≡ b → (12 * cond b (kept + 1) kept ≤ length out) × (2 * (i + 1 - cond b (kept + 1) kept) ≤ length faults)
    fits b e =
        let c : Counted w h file (i + 1) (cond b (kept + 1) kept) = subst (λ (t : Bool). Counted w h file (i + 1) (cond t (kept + 1) kept)) e (counted_more w h file i kept stands so_far.counts) in (
          omega (arith, c.bytes, kept-grows w h file (i + 1) (whole_of file) (omega (arith, l)), room.kept-fit),
          omega (arith, c.numbers, faults-grow w h file (i + 1) (whole_of file) (omega (arith, l)), room.faults-fit),
        )

    pub record_fits : Before file i (fault_of w h file i) kept (length out) (length faults)
    record_fits = record {
      whole = l;
      few = omega (arith, l, room.few);
      fewer = omega (arith, so_far.counts.numbers);
      kept-fits = λ e. omega (arith, (fits true (eq-eqb (fault_of w h file i) 0 e)).0);
      fault-fits = λ e. omega (arith, (fits false (ne_eqb (fault_of w h file i) 0 e)).1, so_far.counts.numbers);
    }

    kept-after : (b : Bool) → eqb (fault_of w h file i) 0 ≡ b → (out₂ : List ℕ) → out₂ ≡ cond b (sets out₁ (12 * kept) (record_of file i)) out₁ → out₂ ≡ fronted (kept_of w h file (i + 1)) out
    kept-after true e out₂ q =
        q
        ∙ ap (λ (o : List ℕ). sets o (12 * kept) (record_of file i)) so_far.leaves-out
        ∙ stored (kept_of w h file i) (record_of file i) out (12 * kept) so_far.counts.bytes (omega (arith, (fits true e).0, length-record file i stands))
        ∙ ap (λ (k : List ℕ). fronted k out) (sym (kept_more w h file i true e))
    kept-after false e out₂ q = q ∙ so_far.leaves-out ∙ ap (λ (k : List ℕ). fronted k out) (sym (kept_more w h file i false e ∙ append-nil (kept_of w h file i)))

    faults-after : (b : Bool) → eqb (fault_of w h file i) 0 ≡ b → (faults₂ : List ℕ) → faults₂ ≡ cond b faults₁ (sets faults₁ (2 * (i - kept)) (i ∷ fault_of w h file i ∷ []))
        → faults₂ ≡ fronted (faults_of w h file (i + 1)) faults
    faults-after true e faults₂ q = q ∙ so_far.leaves-faults ∙ ap (λ (d : List ℕ). fronted d faults) (sym (faults-more w h file i true e ∙ append-nil (faults_of w h file i)))
    faults-after false e faults₂ q =
        q
        ∙ ap (λ (d : List ℕ). sets d (2 * (i - kept)) (i ∷ fault_of w h file i ∷ [])) so_far.leaves-faults
        ∙ stored (faults_of w h file i) (i ∷ fault_of w h file i ∷ []) faults (2 * (i - kept)) (omega (arith, so_far.counts.numbers)) (omega (arith, (fits false e).1, so_far.counts.numbers))
        ∙ ap (λ (d : List ℕ). fronted d faults) (sym (faults-more w h file i false e))

    pub record_written : {kept₂ : ℕ} {out₂ faults₂ : List ℕ} → Next file i (fault_of w h file i) kept out₁ faults₁ kept₂ out₂ faults₂ → Writing w h file (i + 1) out faults kept₂ out₂ faults₂
    record_written {kept₂} {out₂} {faults₂} n = record {
      counts = subst (Counted w h file (i + 1)) (sym n.counts) (counted_more w h file i kept stands so_far.counts);
      leaves-out = kept-after (eqb (fault_of w h file i) 0) refl out₂ n.leaves-out;
      leaves-faults = faults-after (eqb (fault_of w h file i) 0) refl faults₂ n.leaves-faults;
    }

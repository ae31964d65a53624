-- What the steps of the call promise each other.
use Rattle.std.specs.Prelude.{◌≡◌, cond, List, [], ◌∷◌, ◌++◌, ℕ, ◌+◌, ◌-◌, ◌*◌, ◌/◌, ◌≤◌, ◌<◌, eqb, length, take, drop}
use Rattle.std.proofs.lemmas.List.Edits.{sets}
use Rattle.salvage.specs.declared.Saved.{Saved}
use Rattle.salvage.specs.Records.{whole_of, kept_of, faults_of, dropped_of}

-- the twelve bytes of record i
abbrev pub record_of : List ℕ → ℕ → List ℕ
record_of file i = take 12 (drop (12 * i) file)

-- a list whose first entries are those of another
abbrev pub fronted : List ℕ → List ℕ → List ℕ
fronted front old = front ++ drop (length front) old

-- of the first n records so many are kept
pub record Counted (width height : ℕ) (file : List ℕ) (n kept : ℕ) : Type 0 where
  pub bytes : length (kept_of width height file n) ≡ 12 * kept
  pub numbers : length (faults_of width height file n) + 2 * kept ≡ 2 * n

-- out and faults are as many bytes and numbers as there is room for: for all that goes in, and for what the whole records need
pub record Room (width height : ℕ) (file : List ℕ) (out faults : ℕ) : Type 0 where
  pub few : whole_of file ≤ 4096
  pub kept-fit : length (kept_of width height file (whole_of file)) ≤ out
  pub dropped-fit : length (dropped_of width height file) ≤ faults

pub record WholeRoom (width height : ℕ) (file : List ℕ) (out faults : ℕ) : Type 0 where
  pub few : whole_of file ≤ 4096
  pub kept-fit : length (kept_of width height file (whole_of file)) ≤ out
  pub faults-fit : length (faults_of width height file (whole_of file)) ≤ faults

pub record Saving (width height : ℕ) (file out faults : List ℕ) (answer : Saved) (out' faults' : List ℕ) : Type 0 where
  pub answers : answer ≡ record { kept = length (kept_of width height file (whole_of file)) / 12; dropped = length (dropped_of width height file) / 2 }
  pub leaves-out : out' ≡ fronted (kept_of width height file (whole_of file)) out
  pub leaves-faults : faults' ≡ fronted (dropped_of width height file) faults

-- the first n records are written, and `kept` of them were kept
pub record Writing (width height : ℕ) (file : List ℕ) (n : ℕ) (out faults : List ℕ) (kept : ℕ) (out' faults' : List ℕ) : Type 0 where
  pub counts : Counted width height file n kept
  pub leaves-out : out' ≡ fronted (kept_of width height file n) out
  pub leaves-faults : faults' ≡ fronted (faults_of width height file n) faults

-- there is room for record i where `kept` of those before it are kept
pub record Before (file : List ℕ) (i fault kept out faults : ℕ) : Type 0 where
  pub whole : i < whole_of file
  pub few : i < 4096
  pub fewer : kept ≤ i
  pub kept-fits : fault ≡ 0 → 12 * kept + 12 ≤ out
  pub fault-fits : (fault ≡ 0 → ⊥) → 2 * (i - kept) + 2 ≤ faults

pub record Next (file : List ℕ) (i fault kept : ℕ) (out faults : List ℕ) (kept' : ℕ) (out' faults' : List ℕ) : Type 0 where
  pub counts : kept' ≡ cond (eqb fault 0) (kept + 1) kept
  pub leaves-out : out' ≡ cond (eqb fault 0) (sets out (12 * kept) (record_of file i)) out
  pub leaves-faults : faults' ≡ cond (eqb fault 0) faults (sets faults (2 * (i - kept)) (i ∷ fault ∷ []))

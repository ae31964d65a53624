-- The public call: the tests in their order, the two counts, and what is left in the two lent outputs; what lies past stays. No refusal writes.
use Rattle.std.specs.Prelude.{◌≡◌, not, ◌||◌, cond, Result, Ok, Err, List, ◌++◌, ℕ, ◌/◌, ltb, length, drop}
use Rattle.imageview.specs.Image.{is_size}
use Rattle.refusals.specs.declared.Refusal.{Refusal}
use Rattle.refusals.specs.declared.Refusal.TheVariants.{BadImage, BadOut, TooMany}
use Rattle.refusals.specs.Numbers as Refusals
use Rattle.salvage.specs.declared.Saved.{Saved}
use Rattle.salvage.specs.Records.{whole_of, kept_of, dropped_of}

abbrev pub number_of : Result Saved Refusal → ℕ
number_of (Ok s) = 0
number_of (Err r) = Refusals.number_of r

pub data Way : Type 0 where
  refused : Refusal → Way
  saved : List ℕ → List ℕ → Way

-- out and faults are as many bytes and numbers as there is room for
unfoldable pub way_of : ℕ → ℕ → List ℕ → ℕ → ℕ → Way
way_of width height file out faults =
    let k = kept_of width height file (whole_of file) in
    let d = dropped_of width height file in
    cond (not (is_size width height)) (refused BadImage)
    (cond (ltb 4096 (whole_of file)) (refused TooMany)
    (cond (ltb out (length k) || ltb faults (length d)) (refused BadOut)
    (saved k d)))

abbrev pub answer_of : Way → Result Saved Refusal
answer_of (refused r) = Err r
answer_of (saved k d) = Ok (record { kept = length k / 12; dropped = length d / 2 })

abbrev pub out_after : List ℕ → Way → List ℕ
out_after old (refused r) = old
out_after old (saved k d) = k ++ drop (length k) old

abbrev pub faults_after : List ℕ → Way → List ℕ
faults_after old (refused r) = old
faults_after old (saved k d) = d ++ drop (length d) old

pub record Done (width height : ℕ) (file out faults : List ℕ) (answer : Result Saved Refusal) (out' faults' : List ℕ) : Type 0 where
  pub answers : answer ≡ answer_of (way_of width height file (length out) (length faults))
  pub leaves-out : out' ≡ out_after out (way_of width height file (length out) (length faults))
  pub leaves-faults : faults' ≡ faults_after faults (way_of width height file (length out) (length faults))

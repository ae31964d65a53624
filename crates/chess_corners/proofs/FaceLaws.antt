-- From what a wrapped call promises to what its exported function does, for whoever knows the call's answer: salvaging, the four calls of the coverage, the gradient.
use mathlib.Core.Path.{◌≡◌, refl, sym, ap, ◌∙◌}
use mathlib.Core.List.{List}
use Prim.Native.Nat.{ℕ}
use lib.Ieee.{Float}
use Rattle.std.specs.Prelude.{Result, Ok, Err}
use Rattle.refusals.specs.declared.Refusal.{Refusal}
use Rattle.salvage.specs.declared.Saved.{Saved}
use Rattle.salvage.specs.Call as S
use Rattle.coverage.specs.Call as C
use Rattle.gradient.specs.Call as D
use Rattle.chess_corners.specs.Told.{number_of, count_after}
use Rattle.chess_corners.specs.Face.{Salvaging, Covering, Grading, kept_after, dropped_after}

-- ---- the number of a call's answer is the one that is told of it
saved-number : (answer : Result Saved Refusal) → S.number_of answer ≡ number_of answer
saved-number (Ok s) = refl
saved-number (Err r) = refl

counted-number : (answer : Result ℕ Refusal) → C.number_of answer ≡ number_of answer
counted-number (Ok n) = refl
counted-number (Err r) = refl

added-number : (answer : Result Unit Refusal) → D.number_of answer ≡ number_of answer
added-number (Ok done) = refl
added-number (Err r) = refl

-- ---- what a call does whose answer is told
pub salvaging : {width height : ℕ} {file out faults : List ℕ} {answer : Result Saved Refusal} {out' faults' : List ℕ} (kept dropped : ℕ) (known : Result Saved Refusal) (n : ℕ)
    → n ≡ S.number_of known → answer ≡ known → S.Done width height file out faults answer out' faults' → Salvaging width height file out faults kept dropped n out' faults' (kept_after kept known) (dropped_after dropped known)
salvaging kept dropped known n q e d = record {
  says = q ∙ saved-number known ∙ ap number_of (sym e ∙ d.answers);
  leaves-out = d.leaves-out;
  leaves-faults = d.leaves-faults;
  keeps = ap (kept_after kept) (sym e ∙ d.answers);
  drops = ap (dropped_after dropped) (sym e ∙ d.answers);
}

pub covering : {way : C.Way} {list : List Float} {counts : List ℕ} {answer : Result ℕ Refusal} {list' : List Float} {counts' : List ℕ} (count : ℕ) (known : Result ℕ Refusal) (n : ℕ)
    → n ≡ C.number_of known → answer ≡ known → C.Done way list counts answer list' counts' → Covering way list counts count n list' counts' (count_after count known)
covering count known n q e d = record {
  says = q ∙ counted-number known ∙ ap number_of (sym e ∙ d.answers);
  leaves-list = d.leaves-list;
  leaves-counts = d.leaves-counts;
  holds = ap (count_after count) (sym e ∙ d.answers);
}

pub grading : {a : D.Asked} {grid : List Float} {answer : Result Unit Refusal} {grid' : List Float} (known : Result Unit Refusal) (n : ℕ) → n ≡ D.number_of known → answer ≡ known → D.Done a grid answer grid' → Grading a grid n grid'
grading known n q e d = record {
  says = q ∙ added-number known ∙ ap number_of (sym e ∙ d.answers);
  leaves = d.leaves;
}

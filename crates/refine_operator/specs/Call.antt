-- Building the operator: for a radius 0 to 7, or refusal 11. Arrays serve radius 7; a smaller square fills the front of the columns and leaves the rest.
-- Where there is no operator (radius 0) neither array is written.
use Rattle.std.specs.Prelude.{◌≡◌, ℕ, ◌*◌, cond, List, ◌++◌, drop, nat_le, Float, Result, Ok, Err}
use Rattle.refusals.specs.declared.Refusal.{Refusal}
use Rattle.refusals.specs.declared.Refusal.TheVariants.{BadRadius}
use Rattle.refusals.specs.Numbers as Refusals
use Rattle.refine_operator.specs.declared.OperatorError.{OperatorError}
use Rattle.refine_operator.specs.declared.OperatorError.TheVariants.{Singular, Refused}
use Rattle.refine_operator.specs.Basis.{samples}
use Rattle.refine_operator.specs.Inverse.{Reduced, singular, reduced, inverse_normal_matrix}
use Rattle.refine_operator.specs.Rows.{columns_of, overlap_of}

-- the number of each case; 0 is done, 3 is IllConditioned
abbrev pub number_of : Result Unit OperatorError → ℕ
number_of (Ok u) = 0
number_of (Err Singular) = 3
number_of (Err (Refused r)) = Refusals.number_of r

pub data Way : Type 0 where
  refused : Refusal → Way
  none : Way
  built : List Float → List Float → Way

abbrev pub way_from : ℕ → Reduced → Way
way_from radius singular = none
way_from radius (reduced m) = built (columns_of radius m) (overlap_of radius m)

unfoldable pub way_of : ℕ → Way
way_of radius = cond (nat_le radius 7) (way_from radius (inverse_normal_matrix radius)) (refused BadRadius)

abbrev pub answer_of : Way → Result Unit OperatorError
answer_of (refused r) = Err (Refused r)
answer_of none = Err Singular
answer_of (built columns overlap) = Ok tt

abbrev pub columns_after : ℕ → List Float → Way → List Float
columns_after radius old (refused r) = old
columns_after radius old none = old
columns_after radius old (built columns overlap) = columns ++ drop (5 * samples radius) old

abbrev pub overlap_after : List Float → Way → List Float
overlap_after old (refused r) = old
overlap_after old none = old
overlap_after old (built columns overlap) = overlap

pub record Done (radius : ℕ) (columns overlap : List Float) (answer : Result Unit OperatorError) (columns' overlap' : List Float) : Type 0 where
  pub answers : answer ≡ answer_of (way_of radius)
  pub leaves-columns : columns' ≡ columns_after radius columns (way_of radius)
  pub leaves-overlap : overlap' ≡ overlap_after overlap (way_of radius)

-- the columns alone
pub record ColumnsDone (radius : ℕ) (columns : List Float) (answer : Result Unit OperatorError) (columns' : List Float) : Type 0 where
  pub answers : answer ≡ answer_of (way_of radius)
  pub leaves : columns' ≡ columns_after radius columns (way_of radius)

-- the overlaps alone
pub record OverlapDone (radius : ℕ) (overlap : List Float) (answer : Result Unit OperatorError) (overlap' : List Float) : Type 0 where
  pub answers : answer ≡ answer_of (way_of radius)
  pub leaves : overlap' ≡ overlap_after overlap (way_of radius)

-- Laws of the call: which way it goes, and that each way ends as it should.
use Rattle.std.proofs.Common.{◌≡◌, ℕ, ◌*◌, ◌<◌, ◌≤◌, Bool, true, false, cond, leb, List, length, sym, refl, ap, ◌∙◌, subst, le-leb, Result, Ok, Err}
use lib.Ieee.{Float}
use borrow.Author.Tests.{lt-leb}
use Rattle.shapes.proofs.ListLaws.{length-tabulated}
use Rattle.shapes.specs.Lists.{overwritten}
use Rattle.refine_operator.specs.declared.NoInverse.{NoInverse}
use Rattle.refine_operator.specs.declared.OperatorError.{OperatorError}
use Rattle.refine_operator.specs.declared.OperatorError.TheVariants.{Singular, Refused}
use Rattle.refusals.specs.declared.Refusal.TheVariants.{BadRadius}
use Rattle.refine_operator.specs.Basis.{samples}
use Rattle.refine_operator.specs.Inverse.{Reduced, singular, reduced, reduce_from, normal_matrix, inverse_normal_matrix}
use Rattle.refine_operator.specs.Rows.{columns_of, overlap_of}
use Rattle.refine_operator.specs.Call.{Way, refused, none, built, way_from, way_of, answer_of, columns_after, overlap_after, Done, ColumnsDone, OverlapDone}
use Rattle.refine_operator.specs.Steps.{reduced_by, column_at}
use Rattle.refine_operator.proofs.InverseLaws.{first_of, second-of}

-- ---- the way
bad-way : (radius : ℕ) → 7 < radius → way_of radius ≡ refused BadRadius
unfolding way_of
bad-way radius h = second-of (leb radius 7) _ (refused BadRadius) (lt-leb radius 7 h)

way-is : (radius : ℕ) (m : List Float) (regular t : Result Unit NoInverse) → radius ≤ 7 → inverse_normal_matrix radius ≡ reduced_by regular m → regular ≡ t → way_of radius ≡ way_from radius (reduced_by t m)
unfolding way_of
way-is radius m regular t h r d =
    first_of (leb radius 7) _ (refused BadRadius) (le-leb radius 7 h)
    ∙ ap (λ (x : Reduced). way_from radius x) (r ∙ ap (λ (b : Result Unit NoInverse). reduced_by b m) d)

pub inverse-is : (radius : ℕ) (m m' : List Float) (regular : Result Unit NoInverse) → m ≡ normal_matrix radius → reduce_from 6 0 m ≡ reduced_by regular m' → inverse_normal_matrix radius ≡ reduced_by regular m'
unfolding inverse_normal_matrix
inverse-is radius m m' regular e r = ap (λ (l : List Float). reduce_from 6 0 l) (sym e) ∙ r

-- ---- the end of each way
columns-end : (radius : ℕ) (columns columns' : List Float) (w : Way) → way_of radius ≡ w → columns' ≡ columns_after radius columns w → ColumnsDone radius columns (answer_of w) columns'
columns-end radius columns columns' w e p =
    record { answers = ap answer_of (sym e); leaves = p ∙ ap (λ (v : Way). columns_after radius columns v) (sym e) }

overlap-end : (radius : ℕ) (overlap overlap' : List Float) (w : Way) → way_of radius ≡ w → overlap' ≡ overlap_after overlap w → OverlapDone radius overlap (answer_of w) overlap'
overlap-end radius overlap overlap' w e p = record { answers = ap answer_of (sym e); leaves = p ∙ ap (λ (v : Way). overlap_after overlap v) (sym e) }

pub columns-bad : (radius : ℕ) (columns : List Float) → 7 < radius → ColumnsDone radius columns (Err (Refused BadRadius)) columns
columns-bad radius columns h = columns-end radius columns columns (refused BadRadius) (bad-way radius h) refl

pub overlap-bad : (radius : ℕ) (overlap : List Float) → 7 < radius → OverlapDone radius overlap (Err (Refused BadRadius)) overlap
overlap-bad radius overlap h = overlap-end radius overlap overlap (refused BadRadius) (bad-way radius h) refl

module _ (radius : ℕ) (m' : List Float) (regular : Result Unit NoInverse) (h : radius ≤ 7) (r : inverse_normal_matrix radius ≡ reduced_by regular m') where
  pub columns-singular : (columns : List Float) (e : NoInverse) → regular ≡ Err e → ColumnsDone radius columns (Err Singular) columns
  columns-singular columns e d = columns-end radius columns columns none (way-is radius m' regular (Err e) h r d) refl

  pub overlap-singular : (overlap : List Float) (e : NoInverse) → regular ≡ Err e → OverlapDone radius overlap (Err Singular) overlap
  overlap-singular overlap e d = overlap-end radius overlap overlap none (way-is radius m' regular (Err e) h r d) refl

  pub columns-built : (columns columns' : List Float) → regular ≡ Ok tt → columns' ≡ overwritten (5 * samples radius) (column_at radius m') columns → ColumnsDone radius columns (Ok tt) columns'
  unfolding overwritten columns_of
  columns-built columns columns' d k =
      columns-end radius columns columns' (built (columns_of radius m') (overlap_of radius m')) (way-is radius m' regular (Ok tt) h r d) k

  pub overlap-built : (overlap overlap' : List Float) → regular ≡ Ok tt → overlap' ≡ overlap_of radius m' → OverlapDone radius overlap (Ok tt) overlap'
  overlap-built overlap overlap' d k =
      overlap-end radius overlap overlap' (built (columns_of radius m') (overlap_of radius m')) (way-is radius m' regular (Ok tt) h r d) k

-- both, one after the other
pub both : (radius : ℕ) (columns overlap columns' overlap' : List Float) (first second : Result Unit OperatorError) → ColumnsDone radius columns first columns' → OverlapDone radius overlap second overlap'
    → Done radius columns overlap second columns' overlap'
both radius columns overlap columns' overlap' first second c o = record { answers = o.answers; leaves-columns = c.leaves; leaves-overlap = o.leaves }

-- without columns there are no overlaps
unbuilt : (overlap : List Float) (w : Way) (answer : Result Unit OperatorError) → answer ≡ answer_of w → (answer ≡ Ok tt → ⊥) → overlap ≡ overlap_after overlap w
unbuilt overlap (refused r) answer e n = refl
unbuilt overlap none answer e n = refl
unbuilt overlap (built c o) answer e n = absurd (n e)

pub neither : (radius : ℕ) (columns overlap columns' : List Float) (first answer : Result Unit OperatorError) → ColumnsDone radius columns first columns' → first ≡ answer → (answer ≡ Ok tt → ⊥) → Done radius columns overlap answer columns' overlap
neither radius columns overlap columns' first answer c e n = record { answers = sym e ∙ c.answers; leaves-columns = c.leaves; leaves-overlap = unbuilt overlap (way_of radius) answer (sym e ∙ c.answers) n }

-- with the columns alone the overlaps may be thought of as built
pub with-overlap : (radius : ℕ) (columns overlap columns' : List Float) (answer : Result Unit OperatorError) → ColumnsDone radius columns answer columns'
    → Done radius columns overlap answer columns' (overlap_after overlap (way_of radius))
with-overlap radius columns overlap columns' answer c = record { answers = c.answers; leaves-columns = c.leaves; leaves-overlap = refl }

-- ---- the columns that are built are five a sample
abbrev is_built : Way → Type 0
is_built (refused r) = ⊥
is_built none = ⊥
is_built (built c o) = Unit

abbrev columns_in : List Float → Way → List Float
columns_in d (refused r) = d
columns_in d none = d
columns_in d (built c o) = c

length-by : (radius : ℕ) (b : Bool) (r : Reduced) (c o : List Float) → cond b (way_from radius r) (refused BadRadius) ≡ built c o → length c ≡ 5 * samples radius
unfolding columns_of
length-by radius true (reduced m) c o e = ap (λ (w : Way). length (columns_in c w)) (sym e) ∙ length-tabulated (5 * samples radius) _
length-by radius true singular c o e = absurd (subst is_built (sym e) tt)
length-by radius false r c o e = absurd (subst is_built (sym e) tt)

pub built-length : (radius : ℕ) (c o : List Float) → way_of radius ≡ built c o → length c ≡ 5 * samples radius
unfolding way_of
built-length radius c o e = length-by radius (leb radius 7) (inverse_normal_matrix radius) c o e

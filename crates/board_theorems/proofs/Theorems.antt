-- The claims of specs/Claims.antt, proved for every board, every list of places, every limit and every list of corners.
use mathlib.Core.Path.{◌≡◌, refl, sym, ap, ◌∙◌, subst}
use mathlib.Core.Bool.{Bool, true, false, not, cond, false≢true}
use mathlib.Core.List.{List, []}
use Prim.Native.Nat.{ℕ, ◌*◌, ◌<◌}
use native.Mathlib.Nat.{zero-add, not-suc-le-zero}
use native.Mathlib.Omega.{arith}
use lib.Dec.{eqb}
use lib.ListN.{length, get_or}
use lib.Seq.{ext_get_or}
use lib.Ieee.{Float, le}
use lib.Ieee.Scale.{finite}
use borrow.Author.Tests.{eq-eqb, eqb-true, not-false}
use Rattle.shapes.specs.Numbers.{plus_zero}
use Rattle.shapes.proofs.TestLaws.{first_of}
use Rattle.corners.specs.Corners.{whole, too_many}
use Rattle.refusals.specs.declared.Refusal.{Refusal}
use Rattle.refusals.specs.declared.Refusal.TheVariants.{BadBoard, BadPlaces, BadList}
use Rattle.board.specs.Call.{inner_corners, is_board, is_limit, all_finite, Way, refused, unmet, shared, tied, tie_from, way_of, answers_after}
use Rattle.board_theorems.specs.Claims.{Serves, Lacks, Assigned, Usable, AcceptedExactly, UnmetMeans, SharedMeans}
use Rattle.board_theorems.specs.Claims.{Refuses, unusable, lacking, sharing, NeverAnswered}
use Rattle.board_theorems.proofs.TieLaws.{Outcome, one-serves, outcome}

module _ (rows columns : ℕ) (places : List Float) (limit : Float) (list : List Float) (room : ℕ) where
  abbrev inner : ℕ
  inner = inner_corners rows columns

  abbrev way : Way
  way = way_of rows columns places limit list room

  abbrev CanUse : Type 0
  CanUse = Usable rows columns places limit list room

  bounded : is_limit limit ≡ true → finite limit ≡ true
  bounded e = first_of (finite limit) (le plus_zero limit) e

  -- no place has a corner yet
  started : Assigned places limit list 0 []
  started = record { each = refl; serves = λ k h. absurd (not-suc-le-zero h); own = λ k m h l e. absurd (not-suc-le-zero h) }

  -- ---- the tests one after the other
  data Tested : Way → Type 0 where
    stopped : (r : Refusal) → (CanUse → ⊥) → Tested (refused r)
    passed : (w : Way) → CanUse → Outcome places limit list inner w → Tested w

  -- a test that stops nothing that can be used
  test : (b : Bool) (r : Refusal) (rest : Way) → (CanUse → b ≡ false) → (b ≡ false → Tested rest) → Tested (cond b (refused r) rest)
  test true r rest h go = stopped r (λ u. false≢true (sym (h u)))
  test false r rest h go = go refl

  tested : Tested way
  unfolding way_of
  tested =
      test (not (is_board rows columns)) BadBoard _ (λ u. ap not u.board) (λ a.
      test (not (eqb (length places) (2 * inner))) BadBoard _ (λ u. ap not (eq-eqb (length places) (2 * inner) u.places-each)) (λ b.
      test (not (eqb room inner)) BadBoard _ (λ u. ap not (eq-eqb room inner u.answers-each)) (λ c.
      test (not (is_limit limit)) BadPlaces _ (λ u. ap not u.limited) (λ d.
      test (not (all_finite places)) BadPlaces _ (λ u. ap not u.predicted) (λ e.
      test (not (whole (length list))) BadList _ (λ u. ap not u.records) (λ f.
      test (too_many (length list)) BadList _ (λ u. u.few) (λ g.
      passed (tie_from places limit list inner [])
      (record {
        board = not-false (is_board rows columns) a;
        places-each = eqb-true (length places) (2 * inner) (not-false (eqb (length places) (2 * inner)) b);
        answers-each = eqb-true room inner (not-false (eqb room inner) c);
        limited = not-false (is_limit limit) d;
        predicted = not-false (all_finite places) e;
        records = not-false (whole (length list)) f;
        few = g;
      })
      (outcome places limit list (bounded (not-false (is_limit limit) d)) inner inner [] (zero-add inner) started))))))))

  -- ---- what the ways mean
  pub unmet-means : UnmetMeans rows columns places limit list room
  unmet-means k e = go (subst Tested e tested)
    where
      go : Tested (unmet k) → Outcome places limit list inner (unmet k)
      go (passed w u o) = o

  pub shared-means : SharedMeans rows columns places limit list room
  shared-means k e = go (subst Tested e tested)
    where
      go : Tested (shared k) → Outcome places limit list inner (shared k)
      go (passed w u o) = o

  -- ---- a place that has a corner does not lack one
  not-both : {k j : ℕ} → Lacks places limit list k → Serves places limit list k j → ⊥
  not-both {k} {j} n s = false≢true (sym (n j s.listed) ∙ s.within)

  -- ---- accepted exactly
  module _ (u : CanUse) (found : List ℕ) (b : Assigned places limit list inner found) where
    same : {k i : ℕ} → Serves places limit list k i → k < inner → i ≡ get_or found k 0
    same {k} s h = one-serves places limit list (bounded u.limited) s (b.serves k h)

    must-tie : (w : Way) → Outcome places limit list inner w → w ≡ tied found
    must-tie (refused r) o = absurd o
    must-tie (unmet k) (h, n, a) = absurd (not-both n (b.serves k h))
    must-tie (shared k) (h, (l, a, (m, p, s))) =
        let q : m < inner = omega arith in
        absurd (let z : ⊥ = omega (arith, b.own k m h q (sym (same s h) ∙ same (a.serves m p) q)) in z)
    must-tie (tied l) o = ap tied (ext_get_or 0 l found (o.each ∙ sym b.each) (λ i h. let m = subst (λ (n : ℕ). i < n) o.each h in same (o.serves i m) m))

  pub accepted-exactly : AcceptedExactly rows columns places limit list room
  accepted-exactly found = (λ e. go (subst Tested e tested), λ u b. back u b way tested)
    where
      go : Tested (tied found) → CanUse × Assigned places limit list inner found
      go (passed w u o) = (u, o)

      back : CanUse → Assigned places limit list inner found → (w : Way) → Tested w → w ≡ tied found
      back u b w (stopped r n) = absurd (n u)
      back u b w (passed v c o) = must-tie u found b v o

  -- ---- never answered
  module _ (k : ℕ) (answers : List ℕ) (h : k < inner) (n : Lacks places limit list k) where
    abbrev Unanswered : Way → Type 0
    Unanswered w = Refuses rows columns places limit list room k w × (answers_after answers w ≡ answers)

    -- the places before the one that is named have corners
    unanswered : (w : Way) → Outcome places limit list inner w → Unanswered w
    unanswered (refused r) o = absurd o
    unanswered (unmet m) (i, l, (found, a)) = let before : k < m → ⊥ = λ q. not-both n (a.serves k q) in (lacking m (omega arith), refl)
    unanswered (shared m) (i, (found, a, (j, p, s))) =
        let before : k < m → ⊥ = λ q. not-both n (a.serves k q) in
        let itself : m ≡ k → ⊥ = λ e. not-both n (subst (λ (z : ℕ). Serves places limit list z (get_or found j 0)) e s) in
        (sharing m (omega arith), refl)
    unanswered (tied l) o = absurd (not-both n (o.serves k h))

    by-test : (w : Way) → Tested w → Unanswered w
    by-test w (stopped r c) = (unusable r, refl)
    by-test w (passed v u o) = unanswered v o

  pub never-answered : NeverAnswered rows columns places limit list room
  never-answered k answers h n = by-test k answers h n way tested

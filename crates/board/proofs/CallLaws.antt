-- One place after the other: the known corners as the front of an array, what each test of a place says of the way, and the call's way by its tests.
use mathlib.Core.Path.{◌≡◌, refl, sym, ap, ◌∙◌}
use mathlib.Core.Bool.{Bool, true, false, not, cond, ◌&&◌}
use mathlib.Core.List.{List, [], ◌∷◌, ◌++◌}
use Prim.Native.Nat.{ℕ, zero, suc, ◌+◌, ◌-◌, ◌*◌, ◌/◌, ◌≤◌, ◌<◌}
use native.Mathlib.Nat.{le_of_lt}
use native.Mathlib.Numerals.{add-one}
use native.Mathlib.Omega.{arith}
use lib.ListN.{length, get_or, set, take}
use lib.Seq.{take-length, length-take-le, take-suc-set}
use lib.Ieee.{Float, le}
use Rattle.std.specs.List.{list_all}
use Rattle.std.specs.Prelude.{Err}
use Rattle.std.proofs.lemmas.List.Folds.{list_all_more}
use Rattle.shapes.specs.Numbers.{entry}
use Rattle.shapes.specs.Tests.{every}
use Rattle.board.specs.declared.Nearest.{Nearest}
use Rattle.board.specs.declared.Untied.{Untied}
use Rattle.board.specs.Nearest.{nearest_of}
use Rattle.board.specs.Call.{Way, refused, unmet, shared, tied, nearest_at, is_among, tie_from, answer_of, answers_after}

-- ---- a test of all entries, over the list itself
module _ {X : Type 0} (test : X → Bool) (list : List X) (d : X) where
  every_front : (n : ℕ) → n ≤ length list → every n (λ i. test (get_or list i d)) ≡ list_all test (take n list)
  unfolding every
  every_front zero h = refl
  every_front (suc n) h =
      ap (λ (b : Bool). b && test (get_or list n d)) (every_front n (omega arith))
      ∙ sym (list_all_more test list n d (omega arith))
      ∙ ap (λ (m : ℕ). list_all test (take m list)) (add-one n)

  pub every_entry : every (length list) (λ i. test (get_or list i d)) ≡ list_all test list
  every_entry = every_front (length list) (omega arith) ∙ ap (list_all test) (take-length list)

module _ (places : List Float) (limit : Float) (list : List Float) where
  -- what place k, with this nearest corner, makes of the way
  abbrev turned : ℕ → ℕ → Nearest → List ℕ → Way
  turned left k near known =
      cond (not (le near.distance limit)) (unmet k)
      (cond (is_among near.corner known) (shared k)
      (tie_from places limit list left (known ++ (near.corner ∷ []))))

  turn : (left : ℕ) (known : List ℕ) → tie_from places limit list (suc left) known ≡ turned left (length known) (nearest_at places list (length known)) known
  unfolding tie_from
  turn left known = refl

  at_place : (k : ℕ) → nearest_of list (entry places (2 * k)) (entry places (2 * k + 1)) (length list / 3) ≡ nearest_at places list k
  unfolding nearest_at
  at_place k = refl

  -- place k, where the first k entries of the array are the corners of those before
  module _ (n k : ℕ) (known : List ℕ) (h : k < n) (room : k < length known) (so_far : tie_from places limit list n [] ≡ tie_from places limit list (n - k) (take k known))
      (near : Nearest) (is : near ≡ nearest_of list (entry places (2 * k)) (entry places (2 * k + 1)) (length list / 3)) where
    abbrev rest : Way
    rest = tie_from places limit list (n - (k + 1)) (take k known ++ (near.corner ∷ []))

    by_tests : tie_from places limit list n [] ≡ turned (n - (k + 1)) k near (take k known)
    by_tests =
        let long : length (take k known) ≡ k = length-take-le k known (le_of_lt room) in
        so_far
        ∙ ap (λ (m : ℕ). tie_from places limit list m (take k known)) (let e : n - k ≡ suc (n - (k + 1)) = omega arith in e)
        ∙ turn (n - (k + 1)) (take k known)
        ∙ ap (λ (m : ℕ). turned (n - (k + 1)) m (nearest_at places list m) (take k known)) long
        ∙ ap (λ (b : Nearest). turned (n - (k + 1)) k b (take k known)) (sym (is ∙ at_place k))

    pub unmet_here : le near.distance limit ≡ false → tie_from places limit list n [] ≡ unmet k
    unmet_here e = by_tests ∙ ap (λ (b : Bool). cond (not b) (unmet k) (cond (is_among near.corner (take k known)) (shared k) rest)) e

    met : le near.distance limit ≡ true → tie_from places limit list n [] ≡ cond (is_among near.corner (take k known)) (shared k) rest
    met e = by_tests ∙ ap (λ (b : Bool). cond (not b) (unmet k) (cond (is_among near.corner (take k known)) (shared k) rest)) e

    pub shared_here : le near.distance limit ≡ true → is_among near.corner (take k known) ≡ true → tie_from places limit list n [] ≡ shared k
    shared_here e s = met e ∙ ap (λ (b : Bool). cond b (shared k) rest) s

    pub tied_here : le near.distance limit ≡ true → is_among near.corner (take k known) ≡ false
        → tie_from places limit list n [] ≡ tie_from places limit list (n - (k + 1)) (take (k + 1) (set known k near.corner))
    tied_here e s =
        met e
        ∙ ap (λ (b : Bool). cond b (shared k) rest) s
        ∙ ap (λ (l : List ℕ). tie_from places limit list (n - (k + 1)) l) (sym (take-suc-set known k near.corner room) ∙ ap (λ (m : ℕ). take m (set known k near.corner)) (sym (add-one k)))

  -- after the last place
  pub all_tied : (n : ℕ) (known : List ℕ) → tie_from places limit list n [] ≡ tie_from places limit list (n - n) (take n known) → tie_from places limit list n [] ≡ tied (take n known)
  unfolding tie_from
  all_tied n known e = e ∙ ap (λ (m : ℕ). tie_from places limit list m (take n known)) (let z : n - n ≡ 0 = omega arith in z)

-- a way that is refused leaves the answers
pub untied : (answers : List ℕ) (way : Way) {e : Untied} → Err e ≡ answer_of way → answers ≡ answers_after answers way
untied answers (refused r) h = refl
untied answers (unmet k) h = refl
untied answers (shared k) h = refl
untied answers (tied l) h = cc

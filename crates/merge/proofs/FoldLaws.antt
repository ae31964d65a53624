-- Placing a corner, by the number of its place.
use mathlib.Core.Path.{◌≡◌, refl, sym, ap, ◌∙◌}
use mathlib.Core.Logic.{inl, inr, ⊎_elim}
use mathlib.Core.Bool.{Bool, true, false, cond, false≢true}
use mathlib.Core.List.{List, [], ◌∷◌, ◌++◌}
use Prim.Native.Nat.{zero, suc, ◌≤◌, ◌<◌, zero-le, suc-le-suc}
use native.Mathlib.Nat.{not-suc-le-zero, le_of_suc-le-suc}
use lib.ListN.{length, set}
use Rattle.corners.specs.Corners.{corner_at}
use Rattle.corners.specs.declared.Corner.{Corner}
use Rattle.merge.specs.Fold.{stronger, after_corner, place_of}
use Rattle.merge.specs.Steps.{lowest_below}
use Rattle.merge.proofs.LowestLaws.{IsLowest, is-lowest}

module _ (meets : Corner → Corner → Bool) (c : Corner) where
  -- a corner that meets one goes to its place
  pub after-hit : (l : List Corner) → place_of meets c l < length l → after_corner meets c l ≡ set l (place_of meets c l) (stronger c (corner_at l (place_of meets c l)))
  unfolding after_corner place_of
  after-hit [] h = absurd (not-suc-le-zero h)
  after-hit (k ∷ l) h = go (after-hit l) (meets c k) h
    where
      go :
          (place_of meets c l < length l → after_corner meets c l ≡ set l (place_of meets c l) (stronger c (corner_at l (place_of meets c l)))) → (b : Bool)
          → cond b zero (suc (place_of meets c l)) < suc (length l)
          → cond b (stronger c k ∷ l) (k ∷ after_corner meets c l) ≡ set (k ∷ l) (cond b zero (suc (place_of meets c l))) (stronger c (corner_at (k ∷ l) (cond b zero (suc (place_of meets c l)))))
      go ih true h = refl
      go ih false h = ap (λ (t : List Corner). k ∷ t) (ih (le_of_suc-le-suc h))

  -- one that meets none goes behind the others
  pub after_none : (l : List Corner) → length l ≤ place_of meets c l → after_corner meets c l ≡ l ++ c ∷ []
  unfolding after_corner place_of
  after_none [] h = refl
  after_none (k ∷ l) h = go (after_none l) (meets c k) h
    where
      go :
          (length l ≤ place_of meets c l → after_corner meets c l ≡ l ++ c ∷ []) → (b : Bool)
          → suc (length l) ≤ cond b zero (suc (place_of meets c l)) → cond b (stronger c k ∷ l) (k ∷ after_corner meets c l) ≡ k ∷ (l ++ c ∷ [])
      go ih true h = absurd (not-suc-le-zero h)
      go ih false h = ap (λ (t : List Corner). k ∷ t) (ih (le_of_suc-le-suc h))

  place_is : (l : List Corner) → IsLowest (λ j. meets c (corner_at l j)) (length l) (length l) (place_of meets c l)
  unfolding place_of
  place_is [] = record { lower = zero-le; below = λ j h. absurd (not-suc-le-zero h); found = inl refl }
  place_is (k ∷ l) = go (meets c k) refl (place_is l)
    where
      go :
          (b : Bool) → meets c k ≡ b → IsLowest (λ j. meets c (corner_at l j)) (length l) (length l) (place_of meets c l)
          → IsLowest (λ j. meets c (corner_at (k ∷ l) j)) (suc (length l)) (suc (length l)) (cond b zero (suc (place_of meets c l)))
      go true e ih = record { lower = zero-le; below = λ j h t. zero-le; found = inr (suc-le-suc zero-le, e) }
      go false e ih =
          record {
            lower = suc-le-suc ih.lower;
            below = elim [ zero ↦ λ h t. absurd (false≢true (sym e ∙ t)) | suc j ↦ λ h t. suc-le-suc (ih.below j (le_of_suc-le-suc h) t) ];
            found = ⊎_elim (λ q. inl (ap suc q)) (λ w. inr (suc-le-suc w.0, w.1)) ih.found;
          }

  -- the place is the lowest number that is met
  pub place-lowest : (l : List Corner) → place_of meets c l ≡ lowest_below (λ j. meets c (corner_at l j)) (length l) (length l)
  place-lowest l = is-lowest (λ j. meets c (corner_at l j)) (length l) (length l) (place_of meets c l) (place_is l)

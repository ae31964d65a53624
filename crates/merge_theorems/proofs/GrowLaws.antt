-- What one corner does to the kept ones, and merging as it grows by one corner at the end of the list: the steps of Theorems.
use mathlib.Core.Path.{◌≡◌, refl, sym, ap, ap₂, ◌∙◌, subst, subst₂}
use mathlib.Core.Logic.{◌⊎◌, inl, inr}
use mathlib.Core.Bool.{Bool, true, false, cond, true≢false}
use mathlib.Core.List.{List, [], ◌∷◌, ◌++◌, append_assoc, append-nil}
use Prim.Native.Nat.{ℕ, zero, suc, ◌≤◌, ◌<◌, zero-le, suc-le-suc}
use native.Mathlib.Nat.{le_refl, le_of_suc-le-suc, not-suc-le-zero}
use lib.ListN.{length, get_or, get_or-append}
use lib.Seq.{get_or-append_seam}
use lib.Ieee.{Float, lt}
use Rattle.floats.proofs.OrderLaws.{lt_irrefl, lt_trans}
use Rattle.corners.specs.Corners.{nowhere, corner_at}
use Rattle.corners.specs.declared.Corner.{Corner}
use Rattle.merge.specs.Fold.{stronger, after_corner, merge_from, merged, place_of, places_from, places}
use Rattle.merge.specs.Claims.{place_at}

-- ---- lists that grow at the end
abbrev pub snoc : List Corner → Corner → List Corner
snoc l c = l ++ (c ∷ [])

-- what holds of no corners, and of one more wherever it holds, holds of every list
pub grow : (P : List Corner → Type 0) → P [] → ((l : List Corner) (c : Corner) → P l → P (snoc l c)) → (l : List Corner) → P l
grow P none more l = go [] l none
  where
    go : (done left : List Corner) → P done → P (done ++ left)
    go done [] h = subst P (sym (append-nil done)) h
    go done (c ∷ left) h = subst P (append_assoc done (c ∷ []) left) (go (snoc done c) left (more done c h))

pub at_old : (l : List Corner) (c : Corner) (i : ℕ) → i < length l → corner_at (snoc l c) i ≡ corner_at l i
at_old l c i h = get_or-append l (c ∷ []) nowhere i h

pub at_new : (l : List Corner) (c : Corner) → corner_at (snoc l c) (length l) ≡ c
at_new l c = get_or-append_seam l c [] nowhere

pub length-snoc : (l : List Corner) (c : Corner) → length (snoc l c) ≡ suc (length l)
length-snoc [] c = refl
length-snoc (k ∷ l) c = ap suc (length-snoc l c)

-- a number of the longer list is one of the shorter, or the new corner's
pub data Which (n i : ℕ) : Type 0 where
  old : i < n → Which n i
  new : i ≡ n → Which n i

pub which : (n i : ℕ) → i < suc n → Which n i
which zero zero h = new refl
which zero (suc i) h = absurd (not-suc-le-zero (le_of_suc-le-suc h))
which (suc n) zero h = old (suc-le-suc zero-le)
which (suc n) (suc i) h = up (which n i (le_of_suc-le-suc h))
  where
    up : Which n i → Which (suc n) (suc i)
    up (old k) = old (suc-le-suc k)
    up (new e) = new (ap suc e)

-- ---- one corner c and the kept ones: those before, those after, and the number p of its place
module _ (meets : Corner → Corner → Bool) (c : Corner) (before after : List Corner) (p : ℕ) where
  -- It met a kept corner, and the stronger of the two stands there; or it met none, and stands behind them all.
  pub data How : Type 0 where
    met : p < length before → meets c (corner_at before p) ≡ true → corner_at after p ≡ stronger c (corner_at before p) → How
    behind : p ≡ length before → corner_at after p ≡ c → How

  -- every place but its own is as it was
  pub data Stands (q : ℕ) : Type 0 where
    own : q ≡ p → Stands q
    still : q < length before → corner_at after q ≡ corner_at before q → Stands q

  pub record Step : Type 0 where
    pub how : How
    pub longer : length before ≤ length after
    pub there : p < length after
    pub each : (q : ℕ) → q < length after → Stands q

module _ (meets : Corner → Corner → Bool) (c : Corner) where
  later : (k : Corner) (l l' : List Corner) (p : ℕ) → Step meets c l l' p → Step meets c (k ∷ l) (k ∷ l') (suc p)
  later k l l' p s = record { how = so s.how; longer = suc-le-suc s.longer; there = suc-le-suc s.there; each = all }
    where
      so : How meets c l l' p → How meets c (k ∷ l) (k ∷ l') (suc p)
      so (met h m e) = met (suc-le-suc h) m e
      so (behind h e) = behind (ap suc h) e

      up : (q : ℕ) → Stands meets c l l' p q → Stands meets c (k ∷ l) (k ∷ l') (suc p) (suc q)
      up q (own e) = own (ap suc e)
      up q (still h e) = still (suc-le-suc h) e

      all : (q : ℕ) → q < suc (length l') → Stands meets c (k ∷ l) (k ∷ l') (suc p) q
      all zero h = still (suc-le-suc zero-le) refl
      all (suc q) h = up q (s.each q (le_of_suc-le-suc h))

  pub step : (kept : List Corner) → Step meets c kept (after_corner meets c kept) (place_of meets c kept)
  unfolding after_corner place_of
  step [] = record { how = behind refl refl; longer = zero-le; there = suc-le-suc zero-le; each = all }
    where
      all : (q : ℕ) → q < 1 → Stands meets c [] (c ∷ []) 0 q
      all zero h = own refl
      all (suc q) h = absurd (not-suc-le-zero (le_of_suc-le-suc h))
  step (k ∷ l) = go (meets c k) refl (step l)
    where
      all : (q : ℕ) → q < suc (length l) → Stands meets c (k ∷ l) (stronger c k ∷ l) 0 q
      all zero h = own refl
      all (suc q) h = still h refl

      go : (b : Bool) → meets c k ≡ b → Step meets c l (after_corner meets c l) (place_of meets c l) → Step meets c (k ∷ l) (cond b (stronger c k ∷ l) (k ∷ after_corner meets c l)) (cond b zero (suc (place_of meets c l)))
      go true e s = record { how = met (suc-le-suc zero-le) e refl; longer = le_refl (suc (length l)); there = suc-le-suc zero-le; each = all }
      go false e s = later k l (after_corner meets c l) (place_of meets c l) s

  -- a corner that meets none of the kept goes behind them
  pub after-behind : (kept : List Corner) → ((i : ℕ) → i < length kept → meets c (corner_at kept i) ≡ false) → after_corner meets c kept ≡ snoc kept c
  unfolding after_corner
  after-behind [] h = refl
  after-behind (k ∷ l) h = ap (λ (b : Bool). cond b (stronger c k ∷ l) (k ∷ after_corner meets c l)) (h 0 (suc-le-suc zero-le)) ∙ ap {B = List Corner} (λ r. k ∷ r) (after-behind l (λ i m. h (suc i) (suc-le-suc m)))

-- two rules that say the same of a corner and the kept ones place it alike
pub after-alike : (meets meets' : Corner → Corner → Bool) (c : Corner) (kept : List Corner)
    → ((i : ℕ) → i < length kept → meets c (corner_at kept i) ≡ meets' c (corner_at kept i)) → after_corner meets c kept ≡ after_corner meets' c kept
unfolding after_corner
after-alike meets meets' c [] h = refl
after-alike meets meets' c (k ∷ l) h =
    ap₂ (λ (b : Bool) (r : List Corner). cond b (stronger c k ∷ l) (k ∷ r)) (h 0 (suc-le-suc zero-le)) (after-alike meets meets' c l (λ i m. h (suc i) (suc-le-suc m)))

-- ---- merging, when one corner more comes at the end
module _ (meets : Corner → Corner → Bool) where
  merge_from-snoc : (kept l : List Corner) (c : Corner) → merge_from meets kept (snoc l c) ≡ after_corner meets c (merge_from meets kept l)
  unfolding merge_from
  merge_from-snoc kept [] c = refl
  merge_from-snoc kept (k ∷ l) c = merge_from-snoc (after_corner meets k kept) l c

  pub merged-snoc : (l : List Corner) (c : Corner) → merged meets (snoc l c) ≡ after_corner meets c (merged meets l)
  unfolding merged
  merged-snoc l c = merge_from-snoc [] l c

  places_from-old : (kept l : List Corner) (c : Corner) (i : ℕ) → i < length l → get_or (places_from meets kept (snoc l c)) i 0 ≡ get_or (places_from meets kept l) i 0
  unfolding places_from
  places_from-old kept [] c i h = absurd (not-suc-le-zero h)
  places_from-old kept (k ∷ l) c zero h = refl
  places_from-old kept (k ∷ l) c (suc i) h = places_from-old (after_corner meets k kept) l c i (le_of_suc-le-suc h)

  places_from-new : (kept l : List Corner) (c : Corner) → get_or (places_from meets kept (snoc l c)) (length l) 0 ≡ place_of meets c (merge_from meets kept l)
  unfolding places_from merge_from
  places_from-new kept [] c = refl
  places_from-new kept (k ∷ l) c = places_from-new (after_corner meets k kept) l c

  pub place-old : (l : List Corner) (c : Corner) (i : ℕ) → i < length l → place_at meets (snoc l c) i ≡ place_at meets l i
  unfolding places
  place-old l c i h = places_from-old [] l c i h

  pub place-new : (l : List Corner) (c : Corner) → place_at meets (snoc l c) (length l) ≡ place_of meets c (merged meets l)
  unfolding places merged
  place-new l c = places_from-new [] l c

  pub merged-step : (l : List Corner) (c : Corner) → Step meets c (merged meets l) (merged meets (snoc l c)) (place_at meets (snoc l c) (length l))
  merged-step l c = subst₂ (λ (a : List Corner) (p : ℕ). Step meets c (merged meets l) a p) (sym (merged-snoc l c)) (sym (place-new l c)) (step meets c (merged meets l))

-- ---- the stronger of two
pub either : (c k : Corner) → (stronger c k ≡ c) ⊎ (stronger c k ≡ k)
either c k = go (lt k.strength c.strength)
  where
    go : (b : Bool) → (cond b c k ≡ c) ⊎ (cond b c k ≡ k)
    go true = inl refl
    go false = inr refl

pub not-below-new : (c k : Corner) → lt (stronger c k).strength c.strength ≡ false
not-below-new c k = go (lt k.strength c.strength) refl
  where
    go : (b : Bool) → lt k.strength c.strength ≡ b → lt (cond b c k).strength c.strength ≡ false
    go true e = lt_irrefl c.strength
    go false e = e

pub not-below-old : (c k : Corner) (x : Float) → lt k.strength x ≡ false → lt (stronger c k).strength x ≡ false
not-below-old c k x h = go (lt k.strength c.strength) refl (lt c.strength x) refl
  where
    go : (b : Bool) → lt k.strength c.strength ≡ b → (d : Bool) → lt c.strength x ≡ d → lt (cond b c k).strength x ≡ false
    go true e true f = absurd (true≢false (sym (lt_trans k.strength c.strength x e f) ∙ h))
    go true e false f = f
    go false e d f = h

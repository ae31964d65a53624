-- The nearest of the first n corners, over any distances f: who it is after n turns, that no two are it, and what a limit says of it.
-- The type of the definition is its crate's own, so the laws name its two parts, the corner and its distance.
use mathlib.Core.Path.{◌≡◌, refl, sym, ◌∙◌, subst}
use mathlib.Core.Logic.{⊎_elim}
use mathlib.Core.Bool.{Bool, true, false, false≢true}
use mathlib.Core.List.{List}
use Prim.Native.Nat.{ℕ, zero, suc, ◌<◌}
use native.Mathlib.Nat.{le_refl, le_of_suc-le-suc, not-suc-le-zero, eq-or-lt_of_le}
use native.Mathlib.Omega.{arith}
use lib.Ieee.{Float, inf, lt, le}
use lib.Ieee.Scale.{finite}
use Rattle.floats.proofs.OrderLaws.{lt_irrefl, lt_trans, lt-le}
use Rattle.shapes.specs.Turns.{turns}
use Rattle.board.specs.Nearest.{nobody, nearer_of, distance_to, nearest_of}
use Rattle.board_theorems.proofs.OrderMore.{unless, le_lt_trans, not-le-lt, finite-below}

-- what holds of the numbers below n and of n
pub with-next : (P : ℕ → Type 0) {n : ℕ} → ((i : ℕ) → i < n → P i) → P n → (i : ℕ) → i < suc n → P i
with-next P h p i l = ⊎_elim (λ e. subst P (sym e) p) (h i) (eq-or-lt_of_le (le_of_suc-le-suc l))

module _ (f : ℕ → Float) where
  -- corner j is the nearest of the first n, the lowest on a tie
  pub record Leads (n j : ℕ) : Type 0 where
    pub listed : j < n
    pub near : lt (f j) (inf false) ≡ true
    pub least : (i : ℕ) → i < n → lt (f i) (f j) ≡ false
    pub lowest : (i : ℕ) → i < j → le (f i) (f j) ≡ false

  -- the nearest of the first n and its distance: nobody's where none is nearer than infinitely far
  pub data Found (n : ℕ) : ℕ → Float → Type 0 where
    far : ((i : ℕ) → i < n → lt (f i) (inf false) ≡ false) → Found n 0 (inf false)
    leads : (j : ℕ) → Leads n j → Found n j (f j)

  -- ---- turn by turn
  -- corner n comes, and is nearer than d, than which none before it is
  comes : (n : ℕ) (d : Float) → ((i : ℕ) → i < n → lt (f i) d ≡ false) → lt (f n) d ≡ true → lt (f n) (inf false) ≡ true → Leads (suc n) n
  comes n d h e k =
      record {
        listed = le_refl (suc n);
        near = k;
        least = with-next (λ i. lt (f i) (f n) ≡ false) (λ i l. unless (lt (f i) (f n)) (lt-le (f i) (f n)) (farther i l)) (lt_irrefl (f n));
        lowest = farther;
      }
    where
      farther : (i : ℕ) → i < n → le (f i) (f n) ≡ false
      farther i l = unless (le (f i) (f n)) (λ m. le_lt_trans (f i) (f n) d m e) (h i l)

  stays : {n j : ℕ} → Leads n j → lt (f n) (f j) ≡ false → Leads (suc n) j
  stays {n} {j} l e = record { listed = omega (arith, l.listed); near = l.near; least = with-next (λ i. lt (f i) (f j) ≡ false) l.least e; lowest = l.lowest }

  next : (n j : ℕ) (d : Float) → Found n j d
      → Found (suc n) (nearer_of n (f n) (record { corner = j; distance = d })).corner (nearer_of n (f n) (record { corner = j; distance = d })).distance
  next n j d (far h) = go (lt (f n) (inf false)) refl
    where
      go : (c : Bool) → lt (f n) (inf false) ≡ c → Found (suc n) (nearer_of n (f n) nobody).corner (nearer_of n (f n) nobody).distance
      go true e = rw e (leads n (comes n (inf false) h e e))
      go false e = rw e (far (with-next (λ i. lt (f i) (inf false) ≡ false) h e))
  next n j d (leads i l) = go (lt (f n) (f i)) refl
    where
      go : (c : Bool) → lt (f n) (f i) ≡ c
          → Found (suc n) (nearer_of n (f n) (record { corner = i; distance = f i })).corner (nearer_of n (f n) (record { corner = i; distance = f i })).distance
      go true e = rw e (leads n (comes n (f i) l.least e (lt_trans (f n) (f i) (inf false) e l.near)))
      go false e = rw e (leads i (stays l e))

  found : (n : ℕ) → Found n (turns n (λ j b. nearer_of j (f j) b) nobody).corner (turns n (λ j b. nearer_of j (f j) b) nobody).distance
  unfolding turns
  found zero = far (λ i h. absurd (not-suc-le-zero h))
  found (suc n) = let b = turns n (λ j b. nearer_of j (f j) b) nobody in next n b.corner b.distance (found n)

  -- ---- two that lead are one
  no_lower : {n i j : ℕ} → Leads n i → Leads n j → i < j → ⊥
  no_lower {i} {j} a b h = false≢true (sym (a.least j b.listed) ∙ not-le-lt (f i) (f j) a.near b.near (b.lowest i h))

  pub one-leads : {n i j : ℕ} → Leads n i → Leads n j → i ≡ j
  one-leads a b = let lower = no_lower a b in let higher = no_lower b a in omega arith

  -- ---- within a finite limit
  module _ (limit : Float) (bounded : finite limit ≡ true) where
    pub near-enough : (x : Float) → le x limit ≡ true → lt x (inf false) ≡ true
    near-enough x h = le_lt_trans x limit (inf false) h (finite-below limit bounded)

    -- the nearest is one of the corners
    pub within : {n j : ℕ} {d : Float} → Found n j d → le d limit ≡ true → Leads n j × (d ≡ f j)
    within (far h) e = absurd (false≢true (sym (lt_irrefl (inf false)) ∙ near-enough (inf false) e))
    within (leads j l) e = (l, refl)

    -- the nearest is too far, so each is
    pub beyond : {n j : ℕ} {d : Float} → Found n j d → le d limit ≡ false → (i : ℕ) → i < n → le (f i) limit ≡ false
    beyond (far h) e i l = unless (le (f i) limit) (near-enough (f i)) (h i l)
    beyond (leads j l) e i m =
        unless (le (f i) limit) (λ k. le_lt_trans (f i) limit (f j) k (not-le-lt (f j) limit l.near (finite-below limit bounded) e)) (l.least i m)

-- ---- of a place
module _ (list : List Float) (x y : Float) (n : ℕ) where
  pub nearest-found : Found (distance_to list x y) n (nearest_of list x y n).corner (nearest_of list x y n).distance
  unfolding nearest_of
  nearest-found = found (distance_to list x y) n

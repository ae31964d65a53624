-- What whoever relies on merging may claim of it, for any rule of meeting: the words of the theorems of the crate merge_theorems.
-- Corners are named by their numbers in the list, from 0; `places` (Fold) gives each the number of the place that it went to.
use Rattle.std.specs.Prelude.{◌≡◌, ◌⊎◌, Bool, true, false, List, ℕ, ◌/◌, ◌≤◌, ◌<◌, length, get_or, Float, Ok}
use Rattle.std.specs.Float.Ieee.{lt}
use Rattle.corners.specs.Corners.{corner_at}
use Rattle.corners.specs.declared.Corner.{Corner}
use Rattle.refusals.specs.declared.Refusal.{Refusal}
use Rattle.refusals.specs.declared.Refusal.TheVariants.{GridTooBig}
use Rattle.merge.specs.Call.{refused, way_of, heads_of}
use Rattle.merge.specs.Fold.{merged, places}

abbrev pub place_at : (Corner → Corner → Bool) → List Corner → ℕ → ℕ
place_at meets l i = get_or (places meets l) i 0

-- no corner of the list meets an earlier one
abbrev pub Separated : (Corner → Corner → Bool) → List Corner → Type 0
Separated meets l = (i j : ℕ) → i < j → j < length l → meets (corner_at l j) (corner_at l i) ≡ false

-- a chain of corners of the list, each meeting the next, whichever of the two comes first
pub data Joined (meets : Corner → Corner → Bool) (l : List Corner) : ℕ → ℕ → Type 0 where
  here : {i : ℕ} → Joined meets l i i
  next : {i k : ℕ} (j : ℕ) → j < length l → (meets (corner_at l i) (corner_at l j) ≡ true) ⊎ (meets (corner_at l j) (corner_at l i) ≡ true) → Joined meets l j k → Joined meets l i k

-- Separated corners stay.
abbrev pub Stays : (Corner → Corner → Bool) → List Corner → Type 0
Stays meets l = Separated meets l → merged meets l ≡ l

-- Merging is local: two corners in one place are joined by a chain of corners of the list.
abbrev pub Local : (Corner → Corner → Bool) → List Corner → Type 0
Local meets l = (i j : ℕ) → i < length l → j < length l → place_at meets l i ≡ place_at meets l j → Joined meets l i j

-- Nothing is invented: what is kept at a place is a corner of the list that went to that place, coordinates and strength together.
pub record Source (meets : Corner → Corner → Bool) (l kept : List Corner) (p : ℕ) : Type 0 where
  pub from : ℕ
  pub within : from < length l
  pub same : corner_at kept p ≡ corner_at l from
  pub went : place_at meets l from ≡ p

abbrev pub Uninvented : (Corner → Corner → Bool) → List Corner → Type 0
Uninvented meets l = (p : ℕ) → p < length (merged meets l) → Source meets l (merged meets l) p

-- Places keep the order of their first corner: a corner that went to a place has, for every lower place, an earlier corner that went there.
pub record Earlier (meets : Corner → Corner → Bool) (l : List Corner) (i p : ℕ) : Type 0 where
  pub who : ℕ
  pub before : who < i
  pub went : place_at meets l who ≡ p

abbrev pub Ordered : (Corner → Corner → Bool) → List Corner → Type 0
Ordered meets l = (i p : ℕ) → i < length l → p < place_at meets l i → Earlier meets l i p

-- Every corner's place is there at the end, and holds a corner that is not weaker. Where a strength is a NaN, neither is weaker than the other.
pub record Guarded (meets : Corner → Corner → Bool) (l kept : List Corner) (i : ℕ) : Type 0 where
  pub there : place_at meets l i < length kept
  pub strong : lt (corner_at kept (place_at meets l i)).strength (corner_at l i).strength ≡ false

abbrev pub StrongHeld : (Corner → Corner → Bool) → List Corner → Type 0
StrongHeld meets l = (i : ℕ) → i < length l → Guarded meets l (merged meets l) i

-- One rule stands in for another on a list where they say the same of every two corners.
abbrev pub Alike : (Corner → Corner → Bool) → (Corner → Corner → Bool) → List Corner → Type 0
Alike meets meets' l = (i j : ℕ) → i < length l → j < length l → meets (corner_at l i) (corner_at l j) ≡ meets' (corner_at l i) (corner_at l j)

-- As many heads as are wanted serve, and fewer do not, where there are links enough.
abbrev pub HeadsServe : Type 0
HeadsServe =
    (list : List Float) (radius : Float) (n heads links : ℕ) → heads_of list radius ≡ Ok n → length list / 3 ≤ links
    → (n ≤ heads → (r : Refusal) → way_of list radius heads links ≡ refused r → ⊥) × (heads < n → way_of list radius heads links ≡ refused GridTooBig)

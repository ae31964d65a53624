-- What whoever relies on tying corners to places may claim of the call, by the way that it went (`way_of`, which its contract answers by). Places are named by
-- their numbers by row, corners by their numbers in the list. The proofs are in proofs/Theorems.antt.
use Rattle.std.specs.Prelude.{◌≡◌, true, false, List, ℕ, ◌+◌, ◌*◌, ◌/◌, ◌≤◌, ◌<◌, length, get_or, Float}
use Rattle.std.specs.Float.Ieee.{lt, le}
use Rattle.shapes.specs.Numbers.{entry}
use Rattle.corners.specs.Corners.{whole, too_many}
use Rattle.refusals.specs.declared.Refusal.{Refusal}
use Rattle.board.specs.Nearest.{distance_to}
use Rattle.board.specs.Call.{inner_corners, is_board, is_limit, all_finite, Way, refused, unmet, shared, tied, way_of, answers_after}

-- ---- the words
abbrev pub corners : List Float → ℕ
corners list = length list / 3

-- the squared distance, in binary32, of place k and corner j
abbrev pub apart : List Float → List Float → ℕ → ℕ → Float
apart places list k j = distance_to list (entry places (2 * k)) (entry places (2 * k + 1)) j

-- Corner j is the nearest to place k, the lowest number on a tie, and within the limit.
pub record Serves (places : List Float) (limit : Float) (list : List Float) (k j : ℕ) : Type 0 where
  pub listed : j < corners list
  pub within : le (apart places list k j) limit ≡ true
  -- no corner is nearer
  pub least : (i : ℕ) → i < corners list → lt (apart places list k i) (apart places list k j) ≡ false
  -- a corner with a lower number is farther, or its distance is a NaN
  pub lowest : (i : ℕ) → i < j → le (apart places list k i) (apart places list k j) ≡ false

-- No corner of the list is within the limit of place k.
abbrev pub Lacks : List Float → Float → List Float → ℕ → Type 0
Lacks places limit list k = (j : ℕ) → j < corners list → le (apart places list k j) limit ≡ false

-- The first n places have the corners `found`, each its own.
pub record Assigned (places : List Float) (limit : Float) (list : List Float) (n : ℕ) (found : List ℕ) : Type 0 where
  pub each : length found ≡ n
  pub serves : (k : ℕ) → k < n → Serves places limit list k (get_or found k 0)
  pub own : (k m : ℕ) → k < n → m < n → get_or found k 0 ≡ get_or found m 0 → k ≡ m

-- What is lent can be used: no refusal from 30 to 32.
pub record Usable (rows columns : ℕ) (places : List Float) (limit : Float) (list : List Float) (room : ℕ) : Type 0 where
  pub board : is_board rows columns ≡ true
  pub places-each : length places ≡ 2 * inner_corners rows columns
  pub answers-each : room ≡ inner_corners rows columns
  pub limited : is_limit limit ≡ true
  pub predicted : all_finite places ≡ true
  pub records : whole (length list) ≡ true
  pub few : too_many (length list) ≡ false

-- ---- the claims
module _ (rows columns : ℕ) (places : List Float) (limit : Float) (list : List Float) (room : ℕ) where
  abbrev way : Way
  way = way_of rows columns places limit list room

  abbrev inner : ℕ
  inner = inner_corners rows columns

  -- The call is accepted exactly when what is lent can be used, every place has a nearest corner within the limit, and no two have the same.
  abbrev pub AcceptedExactly : Type 0
  AcceptedExactly =
      (found : List ℕ)
      → (way ≡ tied found → Usable rows columns places limit list room × Assigned places limit list inner found)
      × (Usable rows columns places limit list room → Assigned places limit list inner found → way ≡ tied found)

  -- A refusal with 33 names a place without a corner within the limit; the places before it have their own corners.
  abbrev pub UnmetMeans : Type 0
  UnmetMeans = (k : ℕ) → way ≡ unmet k → (k < inner) × Lacks places limit list k × ((found : List ℕ) × Assigned places limit list k found)

  -- A refusal with 34 names the later of two places with the same nearest corner; the places before it have their own corners.
  abbrev pub SharedMeans : Type 0
  SharedMeans =
      (k : ℕ) → way ≡ shared k
      → (k < inner)
      × ((found : List ℕ) × Assigned places limit list k found × ((m : ℕ) × (m < k) × Serves places limit list k (get_or found m 0)))

  -- The clinics' fault: where a place has no corner within the limit, as when its corner was merged away, the call never answers. It names that place or an
  -- earlier fault, and the lent answers stay as they were.
  pub data Refuses (k : ℕ) : Way → Type 0 where
    unusable : (r : Refusal) → Refuses k (refused r)
    lacking : (m : ℕ) → m ≤ k → Refuses k (unmet m)
    sharing : (m : ℕ) → m < k → Refuses k (shared m)

  abbrev pub NeverAnswered : Type 0
  NeverAnswered = (k : ℕ) (answers : List ℕ) → k < inner → Lacks places limit list k → Refuses k way × (answers_after answers way ≡ answers)

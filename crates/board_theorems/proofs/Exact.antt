-- The claim of specs/Exact.antt: what is within a finite limit has finite coordinates, and there exact_distance's law holds.
use mathlib.Core.Path.{◌≡◌, sym, subst}
use mathlib.Core.Bool.{true}
use mathlib.Core.List.{List}
use Prim.Native.Nat.{ℕ, ◌+◌, ◌*◌, ◌<◌}
use native.Mathlib.Omega.{arith}
use lib.Dec.{T}
use lib.ListN.{length, get_or}
use lib.Ieee.{Float, le}
use lib.Ieee.Scale.{finite}
use Rattle.shapes.specs.Numbers.{plus_zero, entry}
use Rattle.shapes.proofs.TestLaws.{first_of, every-at}
use Rattle.exact_distance.specs.Exact.{Number}
use Rattle.exact_distance.proofs.Distance.{distance-exact}
use Rattle.exact_distance.proofs.Finite.{finite-places}
use Rattle.corners.specs.Corners.{squared_distance}
use Rattle.board.specs.Nearest.{distance_to}
use Rattle.board.specs.Call.{inner_corners}
use Rattle.board_theorems.specs.Claims.{apart}
use Rattle.board_theorems.specs.Exact.{TiedExactly}
use Rattle.board_theorems.proofs.Theorems.{accepted-exactly}

-- the distance of a place and a corner, as a distance of numbers
plainly : (places : List Float) (limit : Float) (list : List Float) (k j : ℕ) → le (apart places list k j) limit ≡ true
    → le (squared_distance (entry places (2 * k)) (entry places (2 * k + 1)) (entry list (3 * j)) (entry list (3 * j + 1))) limit ≡ true
unfolding distance_to
plainly places limit list k j h = h

pub tied-exactly : (rows columns : ℕ) (places : List Float) (limit : Float) (list : List Float) (room : ℕ) → TiedExactly rows columns places limit list room
tied-exactly rows columns places limit list room found e heldPlaces heldList heldLimit from k h =
    let a = (accepted-exactly rows columns places limit list room found).0 e in
    let u = a.0 in
    let j = get_or found k 0 in
    let holds : (i : ℕ) → i < 2 * inner_corners rows columns → T (finite (entry places i)) =
    λ i l. subst T (sym (every-at (λ i. finite (entry places i)) (length places) i (subst (λ (n : ℕ). i < n) (sym u.places-each) l) u.predicted)) tt in
    let limited : T (finite limit) = subst T (sym (first_of (finite limit) (le plus_zero limit) u.limited)) tt in
    let px = holds (2 * k) (omega arith) in
    let py = holds (2 * k + 1) (omega arith) in
    let near = plainly places limit list k j (a.1.serves k h).within in
    let c = finite-places (entry places (2 * k)) (entry places (2 * k + 1)) (entry list (3 * j)) (entry list (3 * j + 1)) limit px py limited near in
    let x : Number (entry list (3 * j)) = (heldList (3 * j), c.0) in
    let y : Number (entry list (3 * j + 1)) = (heldList (3 * j + 1), c.1) in (
      x,
      y,
      distance-exact (entry places (2 * k)) (entry places (2 * k + 1)) (entry list (3 * j)) (entry list (3 * j + 1)) limit (heldPlaces (2 * k), px) (heldPlaces (2 * k + 1), py) x y (heldLimit, limited) from near,
    )

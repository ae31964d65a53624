-- Which corner of a list is nearest to a place: by the squared distance in binary32, the lowest number on a tie. A NaN distance is passed over.
use Rattle.std.specs.Prelude.{false, cond, List, ℕ, ◌+◌, ◌*◌, Float}
use Rattle.std.specs.Float.{inf}
use Rattle.std.specs.Float.Ieee.{lt}
use Rattle.shapes.specs.Numbers.{entry}
use Rattle.shapes.specs.Turns.{turns}
use Rattle.corners.specs.Corners.{squared_distance}
use Rattle.board.specs.declared.Nearest.{Nearest}

-- nobody yet: infinitely far, which is within no limit
abbrev pub nobody : Nearest
nobody = record { corner = 0; distance = inf false }

-- of the place (x, y) and corner j
unfoldable pub distance_to : List Float → Float → Float → ℕ → Float
unfolding squared_distance
distance_to list x y j = squared_distance x y (entry list (3 * j)) (entry list (3 * j + 1))

-- corner j comes, at the distance d: it is taken where it is nearer than the nearest before it
abbrev pub nearer_of : ℕ → Float → Nearest → Nearest
nearer_of j d b = cond (lt d b.distance) (record { corner = j; distance = d }) b

-- the nearest of the first n corners
unfoldable pub nearest_of : List Float → Float → Float → ℕ → Nearest
unfolding turns distance_to
nearest_of list x y n = turns n (λ j b. nearer_of j (distance_to list x y j) b) nobody

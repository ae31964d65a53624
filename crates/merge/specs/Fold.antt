-- Merging is a fold over the corners in order, whoever meets whom: each corner meets the lowest-numbered kept corner that it can, and takes
-- its place only if it is strictly stronger; a corner that meets none is kept behind the others.
use Rattle.std.specs.Prelude.{Bool, cond, List, [], ◌∷◌, ℕ, zero, suc}
use Rattle.std.specs.Float.Ieee.{lt}
use Rattle.corners.specs.declared.Corner.{Corner}

-- of a corner that comes and the one that is there
abbrev pub stronger : Corner → Corner → Corner
stronger c k = cond (lt k.strength c.strength) c k

-- the kept corners after one more came
unfoldable pub after_corner : (Corner → Corner → Bool) → Corner → List Corner → List Corner
after_corner meets c [] = c ∷ []
after_corner meets c (k ∷ l) = cond (meets c k) (stronger c k ∷ l) (k ∷ after_corner meets c l)

unfoldable pub merge_from : (Corner → Corner → Bool) → List Corner → List Corner → List Corner
unfolding after_corner
merge_from meets kept [] = kept
merge_from meets kept (c ∷ l) = merge_from meets (after_corner meets c kept) l

unfoldable pub merged : (Corner → Corner → Bool) → List Corner → List Corner
unfolding merge_from
merged meets l = merge_from meets [] l

-- the number of the place that a corner goes to
unfoldable pub place_of : (Corner → Corner → Bool) → Corner → List Corner → ℕ
place_of meets c [] = zero
place_of meets c (k ∷ l) = cond (meets c k) zero (suc (place_of meets c l))

-- the places of all corners, in order
unfoldable pub places_from : (Corner → Corner → Bool) → List Corner → List Corner → List ℕ
unfolding after_corner place_of
places_from meets kept [] = []
places_from meets kept (c ∷ l) = place_of meets c kept ∷ places_from meets (after_corner meets c kept) l

unfoldable pub places : (Corner → Corner → Bool) → List Corner → List ℕ
unfolding places_from
places meets l = places_from meets [] l

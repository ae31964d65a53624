-- The 21 places that the response at the cell (x, y) of a tile reads: the sixteen of the ring, then the five of the cross. A tile is side times side cells, row after row;
-- a ring is sixteen pairs (dx, dy), flat. No number wraps.
use Rattle.std.specs.Prelude.{Bool, ◌&&◌, List, [], ◌∷◌, ◌++◌, ℕ, suc, ◌+◌, ◌-◌, ◌*◌, leb, ltb, ℤ, pos, negsuc, get_or}
use Rattle.shapes.specs.Tests.{every}
use Rattle.response.specs.Region.{moved}

-- the pairs of the cell itself and of those above, below, right and left of it
abbrev pub cross_pairs : List ℤ
cross_pairs = pos 0 ∷ pos 0 ∷ pos 0 ∷ negsuc 0 ∷ pos 0 ∷ pos 1 ∷ pos 1 ∷ pos 0 ∷ negsuc 0 ∷ pos 0 ∷ []

-- component i of the 21 pairs
unfoldable pub component : List ℤ → ℕ → ℤ
component ring i = get_or (ring ++ cross_pairs) i (pos 0)

-- a coordinate moved by a component lies on the tile
abbrev pub stays_on : ℕ → ℕ → ℤ → Bool
stays_on side x (pos n) = ltb (x + n) side
stays_on side x (negsuc n) = leb (suc n) x && ltb (x - suc n) side

-- all 21 places lie on the tile
unfoldable pub stencil_stays : ℕ → List ℤ → ℕ → ℕ → Bool
unfolding every component
stencil_stays side ring x y = every 21 (λ k. stays_on side x (component ring (2 * k)) && stays_on side y (component ring (2 * k + 1)))

-- the cell of place k
unfoldable pub cell_of : ℕ → List ℤ → ℕ → ℕ → ℕ → ℕ
unfolding component
cell_of side ring x y k = moved y (component ring (2 * k + 1)) * side + moved x (component ring (2 * k))

-- the samples of the ring's places and of the cross's
unfoldable pub ring_of : List ℕ → ℕ → List ℤ → ℕ → ℕ → ℕ → ℕ
unfolding cell_of
ring_of tile side ring x y k = get_or tile (cell_of side ring x y k) 0

unfoldable pub cross_of : List ℕ → ℕ → List ℤ → ℕ → ℕ → ℕ → ℕ
unfolding cell_of
cross_of tile side ring x y k = get_or tile (cell_of side ring x y (16 + k)) 0

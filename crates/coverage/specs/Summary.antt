-- The summary of the first n corners of a list, worked out afresh: 65 counts, one a tile and one for corners that lie in none.
use Rattle.std.specs.Prelude.{cond, List, ℕ, zero, suc, ◌+◌, eqb, Float}
use Rattle.shapes.specs.Lists.{tabulated}
use Rattle.coverage.specs.Tiles.{tile_of, tile_at}

-- of the first n corners, how many lie in the tile t
unfoldable pub in_tile : (ℕ → ℕ) → ℕ → ℕ → ℕ
in_tile tile zero t = zero
in_tile tile (suc n) t = in_tile tile n t + cond (eqb (tile n) t) 1 0

unfoldable pub summary : ℕ → ℕ → List Float → ℕ → List ℕ
unfolding tabulated in_tile tile_of
summary width height list n = tabulated 65 (in_tile (tile_at width height list) n)

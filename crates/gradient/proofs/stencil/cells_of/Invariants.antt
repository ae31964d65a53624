-- The invariant: the first k places lie on the tile, and their cells are written.
use mathlib.Core.Path.{◌≡◌}
use lib.ListN.{length}
use Rattle.gradient.proofs.StencilLaws.{Upto}
use Rattle.gradient.proofs.stencil.cells_of.Given as goal

abbrev pub invariant-loop-k : goal.invariant-loop-k
invariant-loop-k l = (length l.cells ≡ 21) × Upto l.side l.ring l.x l.y l.k l.cells

-- Whether the corner was met so far.
use mathlib.Core.Path.{◌≡◌}
use lib.Dec.{eqb}
use lib.ListN.{get_or}
use Rattle.shapes.specs.Tests.{some}
use Rattle.board.proofs.places.is_among.Given as goal

abbrev pub invariant-loop-one : goal.invariant-loop-one
invariant-loop-one l = l.hit ≡ some l.one-index (λ i. eqb (get_or l.known i 0) l.corner)

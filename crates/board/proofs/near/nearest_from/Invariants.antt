-- Corner by corner.
use mathlib.Core.Path.{◌≡◌}
use Rattle.board.specs.Nearest.{nearest_of}
use Rattle.board.proofs.near.nearest_from.Given as goal

abbrev pub invariant-loop-j : goal.invariant-loop-j
invariant-loop-j l = l.near ≡ nearest_of l.list l.x l.y l.j

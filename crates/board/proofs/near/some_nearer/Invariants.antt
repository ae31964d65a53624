-- What was hit so far.
use mathlib.Core.Path.{◌≡◌}
use Prim.Native.Nat.{◌+◌}
use lib.Ieee.{lt}
use Rattle.shapes.specs.Tests.{some}
use Rattle.board.specs.Nearest.{distance_to}
use Rattle.board.proofs.near.some_nearer.Given as goal

abbrev pub invariant-loop-i : goal.invariant-loop-i
invariant-loop-i l = l.hit ≡ some l.i (λ k. lt (distance_to l.list l.x l.y (l.at + k)) l.bound)

-- Block by block.
use mathlib.Core.Path.{◌≡◌}
use Prim.Native.Nat.{◌*◌}
use Rattle.board.specs.Nearest.{nearest_of}
use Rattle.board.proofs.near.nearest.Given as goal

abbrev pub invariant-loop-block : goal.invariant-loop-block
invariant-loop-block l = l.best ≡ nearest_of l.list l.x l.y (32 * l.block)

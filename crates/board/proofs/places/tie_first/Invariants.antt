-- The way from here on is the way from the first place on.
use mathlib.Core.Path.{◌≡◌}
use mathlib.Core.List.{[]}
use Prim.Native.Nat.{◌-◌}
use lib.ListN.{length, take}
use Rattle.board.specs.Call.{tie_from}
use Rattle.board.proofs.places.tie_first.Given as goal

abbrev pub invariant-loop-k : goal.invariant-loop-k
invariant-loop-k l = record {
  long : length l.known ≡ 961;
  so_far : tie_from l.places l.limit l.list l.n [] ≡ tie_from l.places l.limit l.list (l.n - l.k) (take l.k l.known);
}

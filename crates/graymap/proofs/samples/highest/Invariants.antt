-- `graymap::samples::highest` meets its contract: the highest so far.
use mathlib.Core.Path.{◌≡◌}
use Prim.Native.Nat.{◌+◌}
use lib.ListN.{get_or}
use Rattle.graymap.specs.Steps.{highest_of}
use Rattle.graymap.proofs.samples.highest.Given as goal

abbrev pub invariant-loop-i : goal.invariant-loop-i
invariant-loop-i l = l.top ≡ highest_of (λ k. get_or l.samples (l.from + k) 0) l.i

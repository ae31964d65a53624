-- `graymap::samples::first_from` meets its contract: none of the samples passed is above the maximum.
use mathlib.Core.Path.{◌≡◌}
use lib.ListN.{get_or}
use Rattle.graymap.specs.Call.{first_above}
use Rattle.graymap.proofs.samples.first_from.Given as goal

abbrev pub invariant-loop-i : goal.invariant-loop-i
invariant-loop-i l = first_above (λ k. get_or l.samples k 0) l.maximum l.i ≡ l.i

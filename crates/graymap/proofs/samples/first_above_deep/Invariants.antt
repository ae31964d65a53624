-- `graymap::samples::first_above_deep` meets its contract: none of the samples passed is above the maximum.
use mathlib.Core.Path.{◌≡◌}
use mathlib.Core.Bool.{true}
use Rattle.graymap.specs.Call.{first_above, sample_in}
use Rattle.graymap.proofs.samples.first_above_deep.Given as goal

abbrev pub invariant-loop-i : goal.invariant-loop-i
invariant-loop-i l = first_above (sample_in true l.left) l.maximum l.i ≡ l.i

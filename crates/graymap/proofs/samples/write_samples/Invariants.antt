-- `graymap::samples::write_samples` meets its contract: after i turns i samples are written.
use mathlib.Core.Path.{◌≡◌}
use mathlib.Core.Bool.{true}
use Rattle.shapes.specs.Lists.{overwritten}
use Rattle.graymap.specs.Call.{sample_in}
use Rattle.graymap.proofs.samples.write_samples.Given as goal

abbrev pub invariant-loop-i : goal.invariant-loop-i
invariant-loop-i l = l.out ≡ overwritten l.i (sample_in true l.left) l.initial.out

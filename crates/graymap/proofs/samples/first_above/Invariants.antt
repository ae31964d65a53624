-- `graymap::samples::first_above` meets its contract: no sample of the blocks passed is above the maximum.
use mathlib.Core.Path.{◌≡◌}
use Prim.Native.Nat.{◌*◌}
use lib.ListN.{get_or}
use Rattle.graymap.specs.Call.{first_above}
use Rattle.graymap.proofs.samples.first_above.Given as goal

abbrev pub invariant-loop-block : goal.invariant-loop-block
invariant-loop-block l = first_above (λ k. get_or l.samples k 0) l.maximum (256 * l.block) ≡ 256 * l.block

-- `graymap::samples::first_from` meets its contract: the first one that is above the maximum.
use mathlib.Core.Path.{sym}
use native.Mathlib.Omega.{arith}
use lib.ListN.{get_or}
use Rattle.graymap.proofs.SampleLaws.{above_found}
use Rattle.graymap.proofs.samples.first_from.Goals as goal

pub returns-then-maximum-samples : goal.returns-then-maximum-samples
returns-then-maximum-samples c =
    let l = c.loop-i in
    let a = c.args in
    sym (above_found (λ k. get_or a.samples.now k 0) a.maximum a.n l.i l.invariant c.if-maximum-samples.true (omega arith))

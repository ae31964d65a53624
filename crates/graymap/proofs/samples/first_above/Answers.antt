-- `graymap::samples::first_above` meets its contract: no sample of the blocks passed is above the maximum.
use Rattle.std.proofs.Common.{◌≡◌}
use mathlib.Core.Path.{subst}
use Prim.Native.Nat.{ℕ, ◌+◌, ◌*◌}
use native.Mathlib.Omega.{arith}
use lib.ListN.{get_or}
use Rattle.graymap.specs.Call.{first_above}
use Rattle.graymap.proofs.SampleLaws.{above_block}
use Rattle.graymap.proofs.samples.first_above.Goals as goal

pub loop-block-preserved : goal.loop-block-preserved
loop-block-preserved c =
    let l = c.loop-block in
    let a = c.args in
    let next : 256 * l.block + 256 ≡ 256 * (l.block + 1) = omega arith in
    subst (λ (n : ℕ). first_above (λ k. get_or a.samples.now k 0) a.maximum n ≡ n) next
    (above_block (λ k. get_or a.samples.now k 0) a.maximum (256 * l.block) 256 c.highest.result l.invariant c.highest.ensures c.if-maximum-highest.false)

-- Each number on the way stands in the chain, and the last has no link above j.
use mathlib.Core.Path.{refl}
use Prim.Native.Nat.{◌-◌}
use lib.ListN.{length}
use native.Mathlib.Omega.{arith}
use Rattle.merge.proofs.ChainLaws.{top-hit, top-le, link_on}
use Rattle.merge.proofs.Chains.above.Goals as goal

pub loop-next-init : goal.loop-next-init
loop-next-init c = record { above = omega arith; below = omega arith; link = refl; on = λ most k cs nexts inside e. top-hit cs k (length cs) (c.args.from - 1) (omega arith) }

pub loop-next-preserved : goal.loop-next-preserved
loop-next-preserved c =
    let q = c.loop-next.q in
    let h = c.requires.falling.falls q (omega arith) (omega arith) in
    record {
      above = omega arith;
      below = omega arith;
      link = refl;
      on = λ most k cs nexts inside e.
          link_on most k cs c.args.self.now.links.now q (c.loop-next.next - 1) nexts inside (omega (arith, top-le cs k (length cs))) (c.loop-next.invariant.on most k cs nexts inside e) (omega arith);
    }

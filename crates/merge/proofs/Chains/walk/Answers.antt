-- `merge::chains::walk` meets its contract: the chain from `p` on finds what the whole chain would.
use mathlib.Core.Path.{ap, ◌∙◌}
use Prim.Native.Nat.{ℕ, ◌-◌, ◌≤◌}
use native.Mathlib.Nat.{le_refl}
use lib.ListN.{length, get_or}
use Rattle.merge.specs.Steps.{lowest_below, in_cell, within}
use Rattle.merge.proofs.ChainLaws.{top-le, walk_start, walk_turn, walk_end}
use native.Mathlib.Omega.{arith}
use native.Mathlib.Omega.{arith}
use Rattle.merge.proofs.Chains.walk.Goals as goal

pub loop-p-init : goal.loop-p-init
loop-p-init c =
    let a = c.args in
    (le_refl a.from, λ most k cs nexts inside e. walk_start cs k (within a.disc a.corners.now) (length cs) a.from a.best e)

pub loop-p-preserved : goal.loop-p-preserved
loop-p-preserved c =
    let a = c.args in
    let p = c.loop-p.p in
    let h : get_or a.self.now.links.now (p - 1) 0 ≤ p - 1 = c.requires.falling.falls (p - 1) (omega arith) (omega arith) in (
      omega arith,
      λ most k cs nexts inside e.
          let i = c.loop-p.invariant.1 most k cs nexts inside e in
          let t = walk_turn most k cs a.self.now.links.now (within a.disc a.corners.now) (p - 1) p c.loop-p.found nexts inside (omega arith) i.0 (omega (arith, top-le cs k (length cs))) in
          (t.0, ap (λ (b : ℕ). lowest_below (in_cell cs k (within a.disc a.corners.now)) (get_or a.self.now.links.now (p - 1) 0) b) c.lower-found.ensures ∙ t.1 ∙ i.1),
    )

pub returns : goal.returns
returns c =
    λ most k cs nexts inside e.
    let l = c.loop-p in
    let a = c.args in
    walk_end (in_cell cs k (within a.disc a.corners.now)) l.p l.found c.loop-p-test.false ∙ (l.invariant.1 most k cs nexts inside e).1

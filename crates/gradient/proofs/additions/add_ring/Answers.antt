-- `gradient::additions::add_ring` meets its contract: one turn more.
use mathlib.Core.Path.{ap, ◌∙◌}
use lib.IntN.{ℤ}
use lib.Ieee.{binary32, of_int}
use mir.Syntax.{w32}
use mir.Val.{to_z, of_z}
use mir.ValLaws.{to_z-of_z}
use Rattle.pixel_response.specs.Steps.{listed}
use Rattle.gradient.proofs.AdditionLaws.{ring_turned}
use Rattle.gradient.proofs.additions.add_ring.Goals as goal

pub loop-k-preserved : goal.loop-k-preserved
loop-k-preserved c =
    let a = c.args in
    let l = c.loop-k in
    let r = c.ring_coefficient-c in
    (c.add_at.auto.grid ∙ l.invariant.0, ring_turned (listed a.samples.now) (to_z w32 (of_z w32 a.mean)) (listed a.cells.now) a.scale l.k _ a.grid.now l.grid c.add_at.new.grid l.invariant.1 (ap (λ (z : ℤ). of_int binary32 z) (to_z-of_z w32 r.result (record { sfits = r.type_inv }) ∙ r.ensures.coefficient)) c.add_at.ensures)

-- `gradient::additions::add_cross` meets its contract: one turn more.
use mathlib.Core.Path.{◌∙◌}
use lib.Ieee.{of_bits}
use mir.Syntax.{w32}
use mir.Val.{to_z, of_z}
use Rattle.pixel_response.specs.Steps.{listed}
use Rattle.gradient.proofs.AdditionLaws.{cross_turned}
use Rattle.gradient.proofs.additions.add_cross.Goals as goal

pub loop-k-preserved : goal.loop-k-preserved
unfolding of_bits
loop-k-preserved c =
    let a = c.args in
    let l = c.loop-k in
    (c.add_at.auto.grid ∙ l.invariant.0, cross_turned (to_z w32 (of_z w32 a.mean)) (listed a.cells.now) a.scale l.k a.grid.now l.grid c.add_at.new.grid l.invariant.1 c.add_at.ensures)

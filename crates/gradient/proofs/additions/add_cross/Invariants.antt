-- `gradient::additions::add_cross` meets its contract. The invariant: the grid is what k turns leave.
use mathlib.Core.Path.{◌≡◌}
use lib.ListN.{length}
use Rattle.shapes.specs.Turns.{turns}
use Rattle.pixel_response.specs.Steps.{listed}
use Rattle.gradient.specs.Steps.{cross_step}
use Rattle.gradient.proofs.additions.add_cross.Given as goal

abbrev pub invariant-loop-k : goal.invariant-loop-k
invariant-loop-k l = (length l.grid ≡ length l.initial.grid) × (l.grid ≡ turns l.k (cross_step l.mean (listed l.cells) l.scale) l.initial.grid)

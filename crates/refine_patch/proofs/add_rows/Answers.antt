-- `refine_patch::add_rows` meets its contract: the sums keep their four lanes.
use mathlib.Core.Path.{ap}
use lib.ListN.{length}
use Rattle.refine_patch.proofs.LaneLaws.{row-lanes}
use Rattle.refine_patch.proofs.add_rows.Goals as goal

pub add_sample-sums-requires-clause-four_lanes : goal.add_sample-sums-requires-clause-four_lanes
add_sample-sums-requires-clause-four_lanes c =
    let a = c.args in
    let l = c.loop-i in
    (row-lanes a.columns.now.numbers.now a.row.now a.centre a.from l.i a.s l.sums c.requires.four_lanes.0 l.invariant, ap length c.levelled.ensures)

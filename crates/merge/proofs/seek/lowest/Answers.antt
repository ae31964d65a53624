-- `merge::seek::lowest` meets its contract: three rows of three cells are noted, and what is noted is walked.
use Rattle.merge.proofs.GridLaws.{down_room}
use Rattle.merge.proofs.NoteLaws.{nine-noted}
use native.Mathlib.Omega.{arith}
use Rattle.merge.proofs.seek.lowest.Goals as goal

pub note_three-b-requires : goal.note_three-b-requires
note_three-b-requires c = record { roomy = c.requires.chained.roomy; column_in_grid = c.requires.column_in_grid; noted = c.note_three-a.ensures.noted; room_for_three = omega arith }

pub overflow_add-row-2 : goal.overflow_add-row-2
overflow_add-row-2 c = omega (arith, down_room c.args.cells c.requires.chained.roomy)

pub note_three-n-requires : goal.note_three-n-requires
note_three-n-requires c = record { roomy = c.requires.chained.roomy; column_in_grid = c.requires.column_in_grid; noted = c.note_three-b.ensures.noted; room_for_three = omega arith }

pub walk_noted-requires : goal.walk_noted-requires
walk_noted-requires c = (c.args.cells, c.args.count, c.requires.chained, c.note_three-n.ensures.noted)

pub returns : goal.returns
returns c =
    let a = c.args in
    nine-noted a.cells a.corners.now a.count a.chains.now.heads.now a.chains.now.links.now c.requires.chained a.disc a.count a.column a.row c.walk_noted.result c.note_three-a.ensures c.note_three-b.ensures c.note_three-n.ensures c.walk_noted.ensures

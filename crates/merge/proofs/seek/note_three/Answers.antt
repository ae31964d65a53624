-- `merge::seek::note_three` meets its contract: beyond the grid there is nothing to note, and inside three cells are gone through.
use Rattle.merge.proofs.GridLaws.{across_room}
use Rattle.merge.proofs.NoteLaws.{note-no-row, note-past-row, note-three}
use native.Mathlib.Omega.{arith}
use Rattle.merge.proofs.seek.note_three.Goals as goal

pub returns-then-row-eq0 : goal.returns-then-row-eq0
returns-then-row-eq0 c =
    let a = c.args in
    note-no-row a.cells a.heads.now a.notes.now a.k c.requires.noted a.column a.row c.if-row-eq0.true

pub returns-then-cells-row : goal.returns-then-cells-row
returns-then-cells-row c =
    let a = c.args in
    note-past-row a.cells a.heads.now a.notes.now a.k c.requires.noted a.column a.row c.if-cells-row.true

pub note_one-a-requires : goal.note_one-a-requires
note_one-a-requires c = record { roomy = c.requires.roomy; row_in_grid = omega arith; noted = c.requires.noted; room_for_one = omega arith }

pub note_one-b-requires : goal.note_one-b-requires
note_one-b-requires c = record { roomy = c.requires.roomy; row_in_grid = omega arith; noted = c.note_one-a.ensures.noted; room_for_one = omega arith }

pub overflow_add-column-2 : goal.overflow_add-column-2
overflow_add-column-2 c = omega (arith, across_room c.args.cells c.requires.roomy)

pub note_one-requires : goal.note_one-requires
note_one-requires c = record { roomy = c.requires.roomy; row_in_grid = omega arith; noted = c.note_one-b.ensures.noted; room_for_one = omega arith }

pub returns : goal.returns
returns c =
    let a = c.args in
    note-three a.cells a.heads.now a.column a.row (omega arith) c.note_one-a.ensures c.note_one-b.ensures c.note_one.ensures

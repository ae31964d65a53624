-- `merge::seek::note_one` meets its contract: beyond the grid there is nothing to note, and inside the note stays where the cell has a chain.
use Prim.Native.Nat.{◌-◌}
use Rattle.merge.proofs.GridLaws.{cell_room}
use Rattle.merge.proofs.NoteLaws.{note-no-column, note-past-column, note-empty, note-full}
use native.Mathlib.Omega.{arith}
use Rattle.merge.proofs.seek.note_one.Goals as goal

pub returns-then-column-eq0 : goal.returns-then-column-eq0
returns-then-column-eq0 c =
    let a = c.args in
    note-no-column a.cells a.heads.now a.notes.now a.k c.requires.noted a.column a.row c.if-column-eq0.true

pub returns-then-cells-column : goal.returns-then-cells-column
returns-then-cells-column c =
    let a = c.args in
    note-past-column a.cells a.heads.now a.notes.now a.k c.requires.noted a.column a.row c.if-cells-column.true

pub bounds-heads-c : goal.bounds-heads-c
bounds-heads-c c =
    let a = c.args in
    let h = cell_room a.cells c.requires.roomy a.row (a.column - 1) c.requires.row_in_grid (omega arith) in
    omega arith

pub returns-then-heads-c-eq0 : goal.returns-then-heads-c-eq0
returns-then-heads-c-eq0 c =
    let a = c.args in
    rw c.cell-c.ensures
    (note-empty a.cells a.heads.now a.notes.now a.k c.requires.noted a.column a.row (omega arith) (omega arith) c.requires.row_in_grid c.requires.room_for_one (rw c.cell-c.ensures at c.if-heads-c-eq0.true))

pub returns : goal.returns
returns c =
    let a = c.args in
    rw c.cell-c.ensures
    (note-full a.cells a.heads.now a.notes.now a.k c.requires.noted a.column a.row (omega arith) (omega arith) c.requires.row_in_grid c.requires.room_for_one)

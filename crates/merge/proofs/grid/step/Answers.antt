-- The lowest corner met in the nine cells, or none, decides.
use mathlib.Core.Path.{◌≡◌, ◌∙◌}
use native.Mathlib.Omega.{arith}
use lib.Ieee.{nan}
use Rattle.corners.specs.Corners.{corners_of}
use Rattle.merge.specs.Steps.{cell_in, meets_in}
use Rattle.merge.proofs.StepLaws.{replaces, stays, adds}
use Rattle.merge.proofs.GridLaws.{cell_of, cell_inside, nine_meets, new_joins, joined_new}
use Rattle.merge.proofs.grid.step.Goals as goal

pub returns-then-corners-met-clause-stepped : goal.returns-then-corners-met-clause-stepped
returns-then-corners-met-clause-stepped c =
    let a = c.args in
    let p = c.requires in
    let new = c.corner-new.result in
    let found = nine_meets a.cells a.corners.now new a.r2 a.count c.column-column.result c.row-row.result c.lowest-met.result c.column-column.ensures c.row-row.ensures c.lowest-met.ensures in
    replaces (meets_in a.cells a.r2) a.corners.now a.i a.count c.lowest-met.result nan new c.corner-new.ensures p.ordered p.in_list found c.if-met-count.true c.if-corners-met.true (corners_of c.replace.new.corners) c.replace.ensures.corners_after

pub returns-then-corners-met-clause-chained : goal.returns-then-corners-met-clause-chained
returns-then-corners-met-clause-chained c =
    let a = c.args in
    let p = c.requires in
    c.replace.ensures.chained a.count p.chained c.if-met-count.true

pub returns-else-corners-met-clause-stepped : goal.returns-else-corners-met-clause-stepped
returns-else-corners-met-clause-stepped c =
    let a = c.args in
    let p = c.requires in
    let new = c.corner-new.result in
    let found = nine_meets a.cells a.corners.now new a.r2 a.count c.column-column.result c.row-row.result c.lowest-met.result c.column-column.ensures c.row-row.ensures c.lowest-met.ensures in
    stays (meets_in a.cells a.r2) a.corners.now a.i a.count c.lowest-met.result nan new c.corner-new.ensures p.ordered p.in_list found c.if-met-count.true c.if-corners-met.false

pub join-requires-clause-joinable : goal.join-requires-clause-joinable
join-requires-clause-joinable c =
    let a = c.args in
    let k = c.requires.chained in
    let linked = c.requires.linked in
    let lies : c.cell-cell.result ≡ cell_in a.cells c.corner-new.result = c.cell-cell.ensures ∙ cell_of a.cells c.corner-new.result c.column-column.result c.row-row.result c.column-column.ensures c.row-row.ensures in
    new_joins k (omega arith) (omega arith) c.cell-cell.result (cell_inside a.cells k.roomy c.corner-new.result c.cell-cell.result lies)

pub returns-clause-stepped : goal.returns-clause-stepped
returns-clause-stepped c =
    let a = c.args in
    let p = c.requires in
    let new = c.corner-new.result in
    let found = nine_meets a.cells a.corners.now new a.r2 a.count c.column-column.result c.row-row.result c.lowest-met.result c.column-column.ensures c.row-row.ensures c.lowest-met.ensures in
    adds (meets_in a.cells a.r2) a.corners.now a.i a.count c.lowest-met.result nan new c.corner-new.ensures p.ordered p.in_list found c.if-met-count.false (corners_of c.join.new.corners) c.join.ensures.corners_after

pub returns-clause-chained : goal.returns-clause-chained
returns-clause-chained c =
    let a = c.args in
    let p = c.requires in
    let new = c.corner-new.result in
    let lies : c.cell-cell.result ≡ cell_in a.cells new = c.cell-cell.ensures ∙ cell_of a.cells new c.column-column.result c.row-row.result c.column-column.ensures c.row-row.ensures in
    joined_new p.chained new c.cell-cell.result lies c.join.new.chains.heads.now c.join.new.chains.links.now c.join.new.corners
    c.join.ensures.lent.as_many_heads c.join.ensures.lent.as_many_links c.join.auto.corners (omega arith) (omega arith) c.join.ensures.corners_after c.join.ensures.linked

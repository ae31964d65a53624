-- The corner stands in the chain of the cell that it lies in.
use mathlib.Core.Path.{◌≡◌, ap, ◌∙◌}
use Rattle.corners.specs.Corners.{corners_of, corner_at}
use Rattle.merge.specs.Steps.{cell_in}
use Rattle.merge.proofs.GridLaws.{cell_of, kept_member, kept_leaves}
use Rattle.merge.proofs.grid.leave.Goals as goal

pub unlink-requires : goal.unlink-requires
unlink-requires c =
    let a = c.args in
    let lies : c.cell-cell.result ≡ cell_in a.cells (corner_at (corners_of a.corners.now) a.j) = c.cell-cell.ensures ∙ cell_of a.cells c.corner-old.result c.column.result c.row.result c.column.ensures c.row.ensures ∙ ap (cell_in a.cells) c.corner-old.ensures in
    kept_member c.requires.1 a.j c.requires.2 c.cell-cell.result lies

pub returns-clause-left : goal.returns-clause-left
returns-clause-left c =
    λ n k h.
    let a = c.args in
    let lies : c.cell-cell.result ≡ cell_in a.cells (corner_at (corners_of a.corners.now) a.j) = c.cell-cell.ensures ∙ cell_of a.cells c.corner-old.result c.column.result c.row.result c.column.ensures c.row.ensures ∙ ap (cell_in a.cells) c.corner-old.ensures in
    kept_leaves k a.j h c.cell-cell.result lies c.unlink.new.self.heads.now c.unlink.new.self.links.now c.unlink.ensures.unlinked

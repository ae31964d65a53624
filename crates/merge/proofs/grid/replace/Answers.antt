-- A corner that left its chain joins the one of its new cell.
use mathlib.Core.Path.{◌∙◌}
use Rattle.merge.proofs.GridLaws.{cell_inside, left_joins, joined_again}
use Rattle.merge.proofs.grid.replace.Goals as goal

pub join-requires-clause-joinable : goal.join-requires-clause-joinable
join-requires-clause-joinable c =
    let a = c.args in
    let k = c.requires.kept.1 in
    let h = c.requires.kept.2 in
    let inside = cell_inside a.cells k.roomy a.new a.cell c.requires.in_cell in
    left_joins k a.j h c.requires.small a.cell inside c.leave.new.chains.heads.now c.leave.new.chains.links.now c.leave.ensures.lent.as_many_heads c.leave.ensures.lent.as_many_links (c.leave.ensures.left c.requires.kept.0 k h)

pub returns-clause-chained : goal.returns-clause-chained
returns-clause-chained c =
    λ n k h.
    let a = c.args in
    joined_again k a.j h a.new a.cell c.requires.in_cell
    c.leave.new.chains.heads.now c.leave.new.chains.links.now c.join.new.chains.heads.now c.join.new.chains.links.now c.join.new.corners
    (c.join.ensures.lent.as_many_heads ∙ c.leave.ensures.lent.as_many_heads) (c.join.ensures.lent.as_many_links ∙ c.leave.ensures.lent.as_many_links) c.join.auto.corners
    c.join.ensures.corners_after (c.leave.ensures.left n k h) c.join.ensures.linked

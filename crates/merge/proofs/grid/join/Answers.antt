-- A corner written in the flat list is one of the corners in it.
use mathlib.Core.Path.{ap, ◌∙◌}
use Rattle.corners.specs.Corners.{corners_of}
use Rattle.corners.proofs.CornerLaws.{corners-recorded}
use Rattle.merge.proofs.grid.join.Goals as goal

pub returns-clause-corners_after : goal.returns-clause-corners_after
returns-clause-corners_after c =
    let a = c.args in
    ap corners_of c.put.ensures ∙ corners-recorded a.corners.now a.j a.new c.requires.in_list

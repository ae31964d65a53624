-- `merge::list::near` meets its contract: the two floats that it reads are the corner's.
use mathlib.Core.Path.{sym, ap, ◌∙◌}
use lib.Ieee.{Float, nan, le}
use Rattle.corners.specs.declared.Corner.{Corner}
use Rattle.corners.proofs.CornerLaws.{corner-at}
use Rattle.merge.specs.Meets.{near}
use Rattle.merge.specs.Steps.{point, within}
use Rattle.merge.proofs.list.near.Goals as goal

pub returns : goal.returns
unfolding near within
returns c =
    let a = c.args in
    ap (λ (d : Float). le d a.disc.r2) c.squared_distance.ensures
    ∙ ap (λ (k : Corner). near a.disc.r2 (point a.disc.x a.disc.y) k) (sym (corner-at a.corners.now a.j nan c.requires))

-- The three floats that are read are the corner's.
use mathlib.Core.Path.{sym}
use lib.Ieee.{nan}
use Rattle.corners.proofs.CornerLaws.{corner-at}
use Rattle.merge.proofs.list.corner.Goals as goal

pub returns : goal.returns
returns c = let a = c.args in sym (corner-at a.corners.now a.j nan c.requires)

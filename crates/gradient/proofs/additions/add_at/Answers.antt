-- `gradient::additions::add_at` meets its contract: the two numbers are two places.
use Rattle.gradient.specs.Call.{added_at}
use Rattle.gradient.proofs.AdditionLaws.{added-both}
use Rattle.gradient.proofs.additions.add_at.Goals as goal

pub returns : goal.returns
unfolding added_at
returns c = let a = c.args in added-both a.grid.now a.cell _ a.scale.y a.c

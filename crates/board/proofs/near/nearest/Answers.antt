-- Nobody yet is infinitely far.
use lib.Ieee.{of_bits}
use Rattle.board.proofs.NearestLaws.{nearest_none}
use Rattle.board.proofs.near.nearest.Goals as goal

pub loop-block-init : goal.loop-block-init
unfolding of_bits
loop-block-init c = let a = c.args in nearest_none a.list.now a.x a.y

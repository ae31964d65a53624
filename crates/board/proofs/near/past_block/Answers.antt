-- Where no corner of the block is nearer, the nearest stays.
use mathlib.Core.Path.{sym, ◌∙◌}
use Rattle.board.proofs.NearestLaws.{nearest_passed}
use Rattle.board.proofs.near.past_block.Goals as goal

pub returns : goal.returns
returns c =
    let a = c.args in
    nearest_passed a.list.now a.x a.y a.at 32 a.best c.requires.nearest_before (sym c.some_nearer.ensures ∙ c.if-some_nearer.false)

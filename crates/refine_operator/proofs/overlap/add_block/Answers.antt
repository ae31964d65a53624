-- `refine_operator::overlap::add_block` meets its contract. After r turns the products of the first r rows are added.
use Rattle.std.proofs.Common.{arith}
use Rattle.shapes.proofs.ListLaws.{overwritten-none}
use Rattle.refine_operator.specs.Steps.{product_added}
use Rattle.refine_operator.proofs.OverlapLaws.{block-all}
use Rattle.refine_operator.proofs.overlap.add_block.Goals as goal

pub loop-r-init : goal.loop-r-init
loop-r-init c =
    let a = c.args in
    overwritten-none (product_added a.sums.now a.here.now a.there.now) a.sums.now

pub returns : goal.returns
returns c =
    let l = c.loop-r in
    let a = c.args in
    block-all l.r a.here.now a.there.now a.sums.now l.sums c.requires (omega arith) l.invariant

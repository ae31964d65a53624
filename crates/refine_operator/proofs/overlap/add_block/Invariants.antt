-- `refine_operator::overlap::add_block` meets its contract. After r turns the products of the first r rows are added.
use Rattle.std.proofs.Common.{◌≡◌, ◌*◌}
use Rattle.shapes.specs.Lists.{overwritten}
use Rattle.refine_operator.specs.Steps.{product_added}
use Rattle.refine_operator.proofs.overlap.add_block.Given as goal

abbrev pub invariant-loop-r : goal.invariant-loop-r
invariant-loop-r l = l.sums ≡ overwritten (5 * l.r) (product_added l.initial.sums l.here l.there) l.initial.sums

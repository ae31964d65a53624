-- `refine_operator::overlap::fill_shift` meets its contract. After y turns the sums have y rows.
use Rattle.std.proofs.Common.{arith}
use lib.Ieee.{of_bits}
use Rattle.shapes.specs.Lists.{tabulated}
use Rattle.shapes.specs.Turns.{turns}
use Rattle.refine_operator.specs.Steps.{sums_at}
use Rattle.refine_operator.proofs.OverlapLaws.{sums_none, shift-put}
use Rattle.refine_operator.proofs.overlap.fill_shift.Goals as goal

pub loop-y-init : goal.loop-y-init
unfolding of_bits sums_at tabulated turns
loop-y-init c = let a = c.args in sums_none a.radius a.m.now a.d

pub returns : goal.returns
returns c =
    let l = c.loop-y in
    let a = c.args in
    shift-put a.radius a.m.now a.d l.y l.sums a.overlap.now _ (omega arith) l.invariant c.put.ensures

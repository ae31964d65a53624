-- `response::row::block` meets its contract. After k turns the sums have the first k quarters.
use Rattle.std.proofs.Common.{◌+◌, length, arith}
use Rattle.shapes.specs.Numbers.{plus_zero}
use Rattle.response.specs.StepsStarts.{value_at}
use Rattle.response.proofs.PassLaws.{wrote-cong}
use Rattle.response.proofs.RowLaws.{sums_none, sums-more, sums-all, spare}
use Rattle.response.proofs.row.block.Goals as goal

pub loop-k-init : goal.loop-k-init
loop-k-init g c =
    let a = c.args in
    sums_none 4096 (g.S.Sample.levels a.img.now) a.starts.now a.at (length a.out.now) c.requires.few

pub quarter-requires : goal.quarter-requires
quarter-requires g c =
    let a = c.args in
    record {
      which = c.loop-k-test.true;
      few = c.requires.few;
      reach = c.requires.reach;
      below = c.requires.below;
      spare = spare 4096 (g.S.Sample.levels a.img.now) a.starts.now a.at (length a.out.now) c.loop-k.k c.loop-k.square c.loop-k.edge c.loop-k.sum c.loop-k-test.true c.loop-k.invariant;
    }

pub loop-k-preserved : goal.loop-k-preserved
loop-k-preserved g c =
    let a = c.args in
    sums-more 4096 (g.S.Sample.levels a.img.now) a.starts.now a.at (length a.out.now) c.loop-k.k c.loop-k.square c.loop-k.edge c.loop-k.sum _ _ _ c.loop-k.invariant c.quarter.ensures

pub returns : goal.returns
returns g c =
    let a = c.args in
    let levels = g.S.Sample.levels a.img.now in
    wrote-cong plus_zero (length a.out.now) 0 _ (λ i. value_at levels a.starts.now (a.at + i)) a.out.now c.write_values.new.out
    (sums-all 4096 levels a.starts.now a.at (length a.out.now) c.loop-k.k c.loop-k.square c.loop-k.edge c.loop-k.sum _ c.cross.new.five (omega arith) c.loop-k.invariant c.cross.ensures)
    c.write_values.ensures

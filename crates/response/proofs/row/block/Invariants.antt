-- After k turns the sums have the first k quarters.
use Rattle.response.proofs.RowLaws.{Sums}
use Rattle.response.proofs.row.block.Given as goal

abbrev pub invariant-loop-k : goal.invariant-loop-k
invariant-loop-k g l = Sums 4096 (g.S.Sample.levels l.img) l.starts l.at l.n l.k l.square l.edge l.sum

-- No byte is above the greatest sample.
use Rattle.std.proofs.Common.{sym, arith}
use Rattle.imageview.proofs.LevelLaws.{row_low-of}
use Rattle.imageview.proofs.samples.U8Sample.are_low.Goals as goal

pub returns-clause-answer : goal.returns-clause-answer
returns-clause-answer c = sym (row_low-of c.args._row.now _ (λ i h. omega (arith, c.type_inv._row i)))

-- `peaks::window::Response::positive_run` meets its contract.
use Rattle.std.proofs.Common.{sym, arith}
use Rattle.std.specs.Float.Ieee.{lt, of_bits}
use Rattle.shapes.specs.Numbers.{plus_zero}
use Rattle.peaks.specs.Steps.{run_at}
use Rattle.peaks.proofs.CountLaws.{count_none, count-more-by, count_most}
use Rattle.peaks.proofs.ListLaws.{bit-most}
use Rattle.peaks.proofs.Response.positive_run.Goals as goal

pub loop-i-init : goal.loop-i-init
loop-i-init c = sym (count_none (λ i. lt plus_zero (run_at c.args.self.now.values.now c.args.start i)))

pub overflow_add-sum : goal.overflow_add-sum
unfolding of_bits
overflow_add-sum c = omega (arith, c.loop-i.invariant, count_most c.loop-i.i (λ i. lt plus_zero (run_at c.args.self.now.values.now c.args.start i)), c.from-sum.ensures, c.loop-i-test.true, c.requires.few, bit-most (lt plus_zero (run_at c.args.self.now.values.now c.args.start c.loop-i.i)))

pub loop-i-preserved : goal.loop-i-preserved
unfolding of_bits
loop-i-preserved c = count-more-by (λ i. lt plus_zero (run_at c.args.self.now.values.now c.args.start i)) c.loop-i.i c.loop-i.invariant c.from-sum.ensures

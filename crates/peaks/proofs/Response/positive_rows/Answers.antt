-- `peaks::window::Response::positive_rows` meets its contract.
use Rattle.std.proofs.Common.{sym, ap, ◌∙◌, ℕ, ◌+◌, ◌*◌, arith}
use Rattle.std.specs.Float.Ieee.{lt}
use Rattle.shapes.specs.Numbers.{plus_zero}
use Rattle.peaks.specs.Peak.{side}
use Rattle.peaks.specs.Steps.{scan_of, run_at, block_at}
use Rattle.peaks.proofs.CountLaws.{count_most}
use Rattle.peaks.proofs.BlockLaws.{no-count, count-row, few}
use Rattle.peaks.proofs.Response.positive_rows.Goals as goal

pub loop-r-init : goal.loop-r-init
loop-r-init c = let s = c.args.self.now in sym (no-count s.values.now c.args.start s.width (side (scan_of s)) (λ w. lt plus_zero w))

pub overflow_add-sum : goal.overflow_add-sum
overflow_add-sum c =
    let s = c.args.self.now in
    let l = c.loop-r in
    let small = s.sound.window-most in
    omega (
      arith,
      l.invariant,
      count_most (l.r * side (scan_of s)) (λ j. lt plus_zero (block_at s.values.now c.args.start s.width (side (scan_of s)) j)),
      few l.r s.window (side (scan_of s)) (omega (arith, c.loop-r-test.true)) (omega arith) (omega arith),
      c.positive_run-sum.ensures,
      count_most (side (scan_of s)) (λ i. lt plus_zero (run_at s.values.now (c.args.start + l.r * s.width) i)),
    )

pub loop-r-preserved : goal.loop-r-preserved
loop-r-preserved c =
    let s = c.args.self.now in
    let l = c.loop-r in
    ap (λ (z : ℕ). l.sum + z) c.positive_run-sum.ensures ∙ count-row s.values.now c.args.start s.width (side (scan_of s)) (λ w. lt plus_zero w) l.r l.sum l.invariant

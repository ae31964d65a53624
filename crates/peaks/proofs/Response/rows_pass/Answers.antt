-- `peaks::window::Response::rows_pass` meets its contract.
use Rattle.std.proofs.Common.{◌≡◌, sym, ap, ◌∙◌, ℕ, ◌*◌, arith}
use Rattle.shapes.specs.Tests.{every}
use Rattle.peaks.specs.Peak.{side}
use Rattle.peaks.specs.Steps.{scan_of, block_at}
use Rattle.peaks.proofs.BlockLaws.{no_row, row-passes, row-fails}
use Rattle.peaks.proofs.Response.rows_pass.Goals as goal

pub loop-r-init : goal.loop-r-init
loop-r-init g c = let s = c.args.self.now in λ p t. no_row s.values.now c.args.start s.width (side (scan_of s)) p

pub returns-then-not-run_passes : goal.returns-then-not-run_passes
returns-then-not-run_passes g c =
    let l = c.loop-r in
    let s = c.args.self.now in
    λ p t. sym (row-fails s.values.now c.args.start s.width (side (scan_of s)) p l.r s.window c.loop-r-test.true (l.invariant p t) (sym (c.run_passes.ensures p (λ w r e. t w r e)) ∙ c.if-not-run_passes.true))

pub loop-r-preserved : goal.loop-r-preserved
loop-r-preserved g c =
    let l = c.loop-r in
    let s = c.args.self.now in
    λ p t. row-passes s.values.now c.args.start s.width (side (scan_of s)) p l.r (l.invariant p t) (sym (c.run_passes.ensures p (λ w r e. t w r e)) ∙ c.if-not-run_passes.false)

pub returns : goal.returns
returns g c =
    let l = c.loop-r in
    let s = c.args.self.now in
    λ p t. sym (ap (λ (n : ℕ). every (n * side (scan_of s)) (λ j. p (block_at s.values.now c.args.start s.width (side (scan_of s)) j))) (let e : s.window ≡ l.r = omega (arith, l.auto.r-end, c.loop-r-test.false) in e) ∙ l.invariant p t)

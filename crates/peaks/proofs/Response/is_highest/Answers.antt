-- `peaks::window::Response::is_highest` meets its contract: the pixel beats its window when it beats the four pieces.
use Rattle.std.proofs.Common.{rules, sym, ◌∙◌, ◌+◌, ◌*◌, get_or}
use Rattle.std.specs.Float.{nan}
use Rattle.std.specs.Prelude.{true, false}
use Rattle.peaks.specs.Peak.{beats_at}
use Rattle.peaks.specs.Steps.{scan_of}
use Rattle.peaks.proofs.WindowLaws.{lost-left, lost-above, won-by-below}
use Rattle.peaks.proofs.FrameLaws.{below-fits}
use Rattle.peaks.proofs.Response.is_highest.Goals as goal

pub returns-then-not-run_passes : goal.returns-then-not-run_passes
returns-then-not-run_passes c =
    let a = c.args in
    let s = scan_of a.self.now in
    let p = c.requires.window_inside in
    let v = get_or s.values (a.y * s.width + a.x) nan in
    lost-left s a.x a.y p.left p.above (sym (c.run_passes.ensures (beats_at true v) (λ w r e. search rules)) ∙ c.if-not-run_passes.true)

pub returns-then-not-rows_pass : goal.returns-then-not-rows_pass
returns-then-not-rows_pass c =
    let a = c.args in
    let s = scan_of a.self.now in
    let p = c.requires.window_inside in
    let v = get_or s.values (a.y * s.width + a.x) nan in
    lost-above s a.x a.y p.left p.above (sym (c.rows_pass.ensures (beats_at true v) (λ w r e. search rules)) ∙ c.if-not-rows_pass.true)

pub rows_pass-requires-2-clause-rows_inside : goal.rows_pass-requires-2-clause-rows_inside
rows_pass-requires-2-clause-rows_inside c = let a = c.args in below-fits (scan_of a.self.now) a.x a.y c.requires.window_inside

pub returns : goal.returns
returns c =
    let a = c.args in
    let s = scan_of a.self.now in
    let p = c.requires.window_inside in
    let v = get_or s.values (a.y * s.width + a.x) nan in
    c.rows_pass-2.ensures (beats_at false v) (λ w r e. search rules)
    ∙ won-by-below s a.x a.y p.left p.above c.requires.right_beaten
    (sym (c.run_passes.ensures (beats_at true v) (λ w r e. search rules)) ∙ c.if-not-run_passes.false) (sym (c.rows_pass.ensures (beats_at true v) (λ w r e. search rules)) ∙ c.if-not-rows_pass.false)

-- `peaks::scan::Response::is_peak` meets its contract: each return is one law of the rule.
use Rattle.std.proofs.Common.{rules, sym, ap, ◌∙◌, ◌+◌, ◌*◌, get_or}
use Rattle.std.specs.Prelude.{false, Float}
use Rattle.std.specs.Float.{nan}
use Rattle.std.specs.Float.Ieee.{lt}
use Rattle.peaks.specs.Peak.{beats_at}
use Rattle.peaks.specs.Steps.{scan_of}
use Rattle.peaks.proofs.PeakLaws.{peak-by, not-highest, not-above}
use Rattle.peaks.proofs.WindowLaws.{lost-right}
use Rattle.peaks.proofs.Response.is_peak.Goals as goal

pub returns-then-not-run_passes : goal.returns-then-not-run_passes
returns-then-not-run_passes c =
    let a = c.args in
    let s = scan_of a.self.now in
    let f = c.requires.framed in
    let v = get_or s.values (a.y * s.width + a.x) nan in
    not-highest s a.x a.y (sym (lost-right s a.x a.y f.left f.above (sym (c.run_passes.ensures (beats_at false v) (λ w r e. search rules)) ∙ c.if-not-run_passes.true)))

pub returns-then-not-floor-v : goal.returns-then-not-floor-v
returns-then-not-floor-v c =
    let a = c.args in
    let s = scan_of a.self.now in
    let v = get_or s.values (a.y * s.width + a.x) nan in
    not-above s a.x a.y (ap (λ (z : Float). lt z v) (sym c.floor.ensures) ∙ c.if-not-floor-v.true)

pub is_highest-requires-clause-right_beaten : goal.is_highest-requires-clause-right_beaten
is_highest-requires-clause-right_beaten c =
    let a = c.args in
    let s = scan_of a.self.now in
    let v = get_or s.values (a.y * s.width + a.x) nan in
    sym (c.run_passes.ensures (beats_at false v) (λ w r e. search rules)) ∙ c.if-not-run_passes.false

pub returns-then-not-is_highest : goal.returns-then-not-is_highest
returns-then-not-is_highest c =
    let a = c.args in
    not-highest (scan_of a.self.now) a.x a.y (sym c.is_highest.ensures ∙ c.if-not-is_highest.true)

pub returns : goal.returns
returns c =
    let a = c.args in
    let s = scan_of a.self.now in
    let v = get_or s.values (a.y * s.width + a.x) nan in
    c.has_cluster.ensures
    ∙ peak-by s a.x a.y c.requires.inner (ap (λ (z : Float). lt z v) (sym c.floor.ensures) ∙ c.if-not-floor-v.false) (sym c.is_highest.ensures ∙ c.if-not-is_highest.false)

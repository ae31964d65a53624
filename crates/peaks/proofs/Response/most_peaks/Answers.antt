-- `peaks::scan::Response::most_peaks` meets its contract: the product is the one that the laws bound the peaks by.
use Rattle.std.proofs.Common.{ap, ◌∙◌, ℕ, ◌+◌, ◌*◌, ◌/◌}
use Rattle.peaks.specs.Peak.{border}
use Rattle.peaks.specs.Steps.{scan_of, covers}
use Rattle.peaks.proofs.BoundLaws.{rounded-up}
use Rattle.peaks.proofs.Response.most_peaks.Goals as goal

pub returns : goal.returns
returns c =
    let s = scan_of c.args.self.now in
    let w = s.window in
    let down = c.div_ceil-down.result in
    ap (λ (z : ℕ). z * down) (c.div_ceil-across.ensures ∙ rounded-up c.inner.result w ∙ ap (λ (z : ℕ). (z + w) / (w + 1)) c.inner.ensures)
    ∙ ap (λ (z : ℕ). covers s.width (border s) w * z) (c.div_ceil-down.ensures ∙ rounded-up c.inner-2.result w ∙ ap (λ (z : ℕ). (z + w) / (w + 1)) c.inner-2.ensures)

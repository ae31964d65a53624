-- `peaks::detect_peaks_from_response_with_refine_radius` meets its contract: what it has tested makes the response sound.
use Rattle.std.proofs.Common.{sym, ◌∙◌}
use Rattle.peaks.specs.Sound.{scan_for}
use Rattle.peaks.proofs.CallLaws.{sound}
use Rattle.peaks.proofs.detect_peaks_from_response_with_refine_radius.Goals as goal

pub invariant_of-response : goal.invariant_of-response
invariant_of-response c =
    let a = c.args in
    record {
      sound =
          sound (scan_for a.response.now a.width a.height a.ring_radius a.window_radius a.refine_radius a.threshold a.min_cluster_size)
          (sym c.fits.ensures ∙ c.if-not-fits.false) (sym c.radii_fit.ensures ∙ c.if-not-radii_fit.false);
    }

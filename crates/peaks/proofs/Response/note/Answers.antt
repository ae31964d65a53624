-- `peaks::scan::Response::note` meets its contract.
use Rattle.std.proofs.Common.{arith}
use Rattle.peaks.specs.Steps.{scan_of}
use Rattle.peaks.proofs.ChosenLaws.{noted-first, noted-next}
use Rattle.peaks.proofs.Response.note.Goals as goal

pub loop-at-init : goal.loop-at-init
loop-at-init c = noted-first (scan_of c.args.self.now) c.requires

pub loop-at-preserved : goal.loop-at-preserved
loop-at-preserved c = noted-next (scan_of c.args.self.now) c.list_from-at.ensures c.loop-at.invariant (omega (arith, c.len.ensures))

-- `merge::scan::merge` meets its contract: what the pass kept, then zeros.
use Rattle.merge.proofs.StepLaws.{fill_kept}
use Rattle.merge.proofs.scan.merge.Goals as goal

pub returns : goal.returns
returns c = fill_kept c.pass-count.ensures c.pass-count.auto.corners c.zero_from.ensures

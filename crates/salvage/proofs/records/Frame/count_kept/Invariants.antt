-- `salvage::records::Frame::count_kept` meets its contract: of the first i records so many are kept.
use Rattle.salvage.specs.Steps.{Counted}
use Rattle.salvage.proofs.records.Frame.count_kept.Given as goal

abbrev pub invariant-loop-i : goal.invariant-loop-i
invariant-loop-i l = Counted l.self.width l.self.height l.file l.i l.kept

-- `salvage::writing::write_whole` meets its contract: the first i records are written.
use Rattle.salvage.specs.Steps.{Writing}
use Rattle.salvage.proofs.writing.write_whole.Given as goal

abbrev pub invariant-loop-i : goal.invariant-loop-i
invariant-loop-i l = Writing l.frame.width l.frame.height l.file l.i l.initial.out l.initial.faults l.kept l.out l.faults

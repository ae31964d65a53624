-- `past` ends since each read that finds a byte brings the length nearer to the limit.
use Rattle.std.proofs.Common.{◌-◌}
use Rattle.merge_print.specs.declared.TheConstants.{MOST}
use Rattle.merge_print.proofs.length_past.Given as goal

abbrev pub decreases-loop-length : goal.decreases-loop-length
decreases-loop-length g l = MOST - l.length

-- Each seed leaves the case as it was.
use Rattle.std.proofs.Common.{◌≡◌}
use Rattle.replay_seeds.proofs.every.Given as goal

abbrev pub invariant-loop-i : goal.invariant-loop-i
invariant-loop-i l = l.case ≡ l.initial.case

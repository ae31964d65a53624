-- The theorem.
use Rattle.merge_theorems.proofs.Theorems.{twice-as-once-anew}
use Rattle.merge_theorems.proofs.twice_as_once.Goals as goal

pub returns : goal.returns
returns c = twice-as-once-anew

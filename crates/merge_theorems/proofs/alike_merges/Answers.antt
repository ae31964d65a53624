-- The theorem.
use Rattle.merge_theorems.proofs.Theorems.{alike-merges}
use Rattle.merge_theorems.proofs.alike_merges.Goals as goal

pub returns : goal.returns
returns c = alike-merges

-- The theorem.
use Rattle.merge_theorems.proofs.Theorems.{merging-is-local}
use Rattle.merge_theorems.proofs.merging_is_local.Goals as goal

pub returns : goal.returns
returns c = merging-is-local

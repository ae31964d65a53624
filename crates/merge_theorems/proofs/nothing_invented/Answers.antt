-- The theorem.
use Rattle.merge_theorems.proofs.Theorems.{nothing-invented}
use Rattle.merge_theorems.proofs.nothing_invented.Goals as goal

pub returns : goal.returns
returns c = nothing-invented

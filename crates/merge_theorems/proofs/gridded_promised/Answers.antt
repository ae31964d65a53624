-- The theorem.
use Rattle.merge_theorems.proofs.Clinics.{gridded-promised}
use Rattle.merge_theorems.proofs.gridded_promised.Goals as goal

pub returns : goal.returns
returns c = gridded-promised

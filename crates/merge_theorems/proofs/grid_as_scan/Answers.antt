-- The theorem.
use Rattle.merge_theorems.proofs.Theorems.{grid-as-scan}
use Rattle.merge_theorems.proofs.grid_as_scan.Goals as goal

pub returns : goal.returns
returns c = grid-as-scan

-- The theorem.
use Rattle.board_theorems.proofs.Theorems.{shared-means}
use Rattle.board_theorems.proofs.shared_means.Goals as goal

pub returns : goal.returns
returns c = shared-means

-- The theorem.
use Rattle.board_theorems.proofs.Theorems.{unmet-means}
use Rattle.board_theorems.proofs.unmet_means.Goals as goal

pub returns : goal.returns
returns c = unmet-means

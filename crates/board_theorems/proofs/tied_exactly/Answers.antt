-- The theorem.
use Rattle.board_theorems.proofs.Exact.{tied-exactly}
use Rattle.board_theorems.proofs.tied_exactly.Goals as goal

pub returns : goal.returns
returns c = tied-exactly

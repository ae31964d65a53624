-- The theorem.
use Rattle.board_theorems.proofs.Theorems.{accepted-exactly}
use Rattle.board_theorems.proofs.accepted_exactly.Goals as goal

pub returns : goal.returns
returns c = accepted-exactly

-- The theorem.
use Rattle.board_theorems.proofs.Theorems.{never-answered}
use Rattle.board_theorems.proofs.never_answered.Goals as goal

pub returns : goal.returns
returns c = never-answered

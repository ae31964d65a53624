-- The theorem.
use Rattle.merge_theorems.proofs.Theorems.{strong-held}
use Rattle.merge_theorems.proofs.strong_held.Goals as goal

pub returns : goal.returns
returns c = strong-held

-- The theorem.
use Rattle.merge_theorems.proofs.Theorems.{separated-stay}
use Rattle.merge_theorems.proofs.separated_stay.Goals as goal

pub returns : goal.returns
returns c = separated-stay

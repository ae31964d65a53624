-- The theorem.
use Rattle.merge_theorems.proofs.Apart.{far-never-meet}
use Rattle.merge_theorems.proofs.far_never_meet.Goals as goal

pub returns : goal.returns
returns c = far-never-meet

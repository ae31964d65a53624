-- The theorem.
use Rattle.merge_theorems.proofs.Clinics.{scanned-promised}
use Rattle.merge_theorems.proofs.scanned_promised.Goals as goal

pub returns : goal.returns
returns c = scanned-promised

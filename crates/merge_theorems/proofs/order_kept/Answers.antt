-- The theorem.
use Rattle.merge_theorems.proofs.Theorems.{order-kept}
use Rattle.merge_theorems.proofs.order_kept.Goals as goal

pub returns : goal.returns
returns c = order-kept

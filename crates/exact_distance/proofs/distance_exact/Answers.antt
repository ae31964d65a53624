-- The theorem.
use Rattle.exact_distance.proofs.Distance.{distance-exact}
use Rattle.exact_distance.proofs.distance_exact.Goals as goal

pub returns : goal.returns
returns c = distance-exact

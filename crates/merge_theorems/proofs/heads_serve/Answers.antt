-- The theorem.
use Rattle.merge.proofs.HeadsLaws.{heads-serve}
use Rattle.merge_theorems.proofs.heads_serve.Goals as goal

pub returns : goal.returns
returns c = heads-serve

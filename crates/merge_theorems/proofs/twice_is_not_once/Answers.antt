-- Both are closed cases.
use Rattle.merge_theorems.proofs.Cases.{called-once, called-twice}
use Rattle.merge_theorems.proofs.twice_is_not_once.Goals as goal

pub returns : goal.returns
returns c = record { once = called-once; again = called-twice }

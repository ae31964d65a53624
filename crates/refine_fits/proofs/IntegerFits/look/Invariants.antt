-- Four look-ups, each in the cache that the one before left.
use Rattle.refine_fits.proofs.CacheLaws.{Looking}
use Rattle.refine_fits.proofs.IntegerFits.look.Given as goal

abbrev pub invariant-loop-k : goal.invariant-loop-k
invariant-loop-k g l = Looking l.image l.columns.numbers.now l.columns.radius l.x l.y l.self l.fits l.k

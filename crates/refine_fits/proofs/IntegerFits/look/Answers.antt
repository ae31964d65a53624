-- `refine_fits::IntegerFits::look` meets its contract: four look-ups, each in the cache that the one before left.
use native.Mathlib.Omega.{arith}
use Rattle.refine_fits.proofs.CacheLaws.{looked, look-next}
use Rattle.refine_fits.proofs.IntegerFits.look.Goals as goal

pub loop-k-preserved : goal.loop-k-preserved
loop-k-preserved g c =
    let a = c.args in
    let l = c.loop-k in
    look-next a.image.now a.columns.now.numbers.now a.columns.now.radius a.x a.y l.self l.fits l.k c.find.result c.find.new.self l.invariant c.loop-k-test.true c.find.ensures.coefs c.find.ensures.kept

pub returns-clause-corners : goal.returns-clause-corners
returns-clause-corners g c =
    let a = c.args in
    let are = c.loop-k.invariant.are in
    let end = c.loop-k-test.false in
    looked a.image.now a.columns.now.numbers.now a.columns.now.radius a.x a.y _ _ _ _ c.requires.within (are 0 (omega (arith, end))) (are 1 (omega (arith, end))) (are 2 (omega (arith, end))) (are 3 (omega (arith, end)))

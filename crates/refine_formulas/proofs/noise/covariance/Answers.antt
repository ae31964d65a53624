-- `refine_formulas::noise::covariance` meets its contract: what each call ensures, put into the next.
use lib.Ieee.{of_bits}
use Rattle.refine_formulas.proofs.KernelLaws.{covariance_is}
use Rattle.refine_formulas.proofs.noise.covariance.Goals as goal

pub returns : goal.returns
unfolding of_bits
returns c =
    let a = c.args in
    covariance_is a.overlap.now a.tx a.ty a.j a.m _ _ _ _ c.pair_weights-weights.ensures c.kernel-k.ensures c.gain-a.ensures c.gain-b.ensures c.spread.ensures

-- `gradient::tests::is_double` meets its contract.
use native.Mathlib.Omega.{arith}
use Prim.Native.Nat.{◌<◌}
use Rattle.gradient.proofs.SizeLaws.{is-product}
use Rattle.gradient.proofs.tests.is_double.Goals as goal

pub returns : goal.returns
returns c = is-product c.args.n 2 c.args.m (let h : 0 < 2 = omega arith in h)

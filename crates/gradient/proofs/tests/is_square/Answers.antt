-- `gradient::tests::is_square` meets its contract: a side of 0 has no cell, any other divides.
use mathlib.Core.Path.{ap, sym}
use Prim.Native.Nat.{ℕ, ◌*◌}
use native.Mathlib.Omega.{arith}
use lib.Dec.{eqb}
use Rattle.gradient.proofs.SizeLaws.{is-product}
use Rattle.gradient.proofs.tests.is_square.Goals as goal

pub returns-then-side-eq0 : goal.returns-then-side-eq0
returns-then-side-eq0 c = ap (λ (s : ℕ). eqb c.args.n (s * s)) (sym c.if-side-eq0.true)

pub returns : goal.returns
returns c = is-product c.args.n c.args.side c.args.side (omega (arith, c.if-side-eq0.false))

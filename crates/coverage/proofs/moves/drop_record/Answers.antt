-- `coverage::moves::drop_record` meets its contract: moved down, then cleared.
use mathlib.Core.Path.{ap, ◌∙◌}
use mathlib.Core.List.{List}
use Prim.Native.Nat.{◌-◌}
use native.Mathlib.Omega.{arith}
use lib.Ieee.{Float, of_bits}
use Rattle.corners.specs.Corners.{nowhere, recorded}
use Rattle.coverage.proofs.MoveLaws.{dropped_by}
use Rattle.coverage.proofs.moves.drop_record.Goals as goal

pub returns : goal.returns
unfolding of_bits
returns c =
    let a = c.args in
    c.put.ensures
    ∙ ap (λ (l : List Float). recorded l (a.n - 1) nowhere) c.copy_within.ensures.after
    ∙ dropped_by a.list.now a.n a.k c.requires.listed (omega (arith, c.requires.few, c.requires.whole))

-- `gradient::additions::samples_of` meets its contract. The invariant: the first k samples are those of their cells.
use native.Mathlib.Omega.{arith}
use Rattle.gradient.proofs.AdditionLaws.{more-written}
use mathlib.Core.Path.{◌∙◌}
use lib.ListN.{get_or, length-set}
use Rattle.gradient.proofs.additions.samples_of.Goals as goal

pub loop-k-preserved : goal.loop-k-preserved
loop-k-preserved c =
    let l = c.loop-k in
    let a = c.args in
    (length-set l.samples l.k _ ∙ l.invariant.0, more-written (λ j. get_or a.tile.now (get_or a.cells.now j 0) 0) l.k l.samples (omega (arith, l.invariant.0)) l.invariant.1)

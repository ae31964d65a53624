-- `refine_patch::gather_rows` meets its contract. After j turns the row has j rows of each patch.
use mathlib.Core.Path.{subst}
use Prim.Native.Nat.{◌*◌}
use native.Mathlib.Omega.{arith}
use Rattle.refine_operator.specs.Basis as Basis
use Rattle.refine_patch.specs.declared.Firsts.{Firsts}
use Rattle.refine_patch.specs.StepsFour.{Gathered}
use Rattle.refine_patch.proofs.RowLaws.{rows_more, wide-least}
use Rattle.refine_patch.proofs.gather_rows.Goals as goal

pub loop-j-preserved : goal.loop-j-preserved
loop-j-preserved g c =
    let a = c.args in
    let l = c.loop-j in
    let list = (g.S.Sample.levels a.view.data.now) in
    let row = c.gather.new.row in
    let n = c.wide_of in
    let to = 4 * (l.j * Basis.side a.radius) in
    let read = subst (λ (m : Firsts). Gathered list m n.result to l.row row) c.moved.ensures c.gather.ensures in
    rows_more list a.view.pitch (Basis.side a.radius) a.at n.result l.j l.row row (omega (arith, n.ensures, wide-least a.radius c.requires.row_len.1)) l.invariant read

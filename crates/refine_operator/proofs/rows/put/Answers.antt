-- `refine_operator::rows::put` meets its contract. After c turns the first c entries of the column are written.
use Rattle.std.proofs.Common.{◌*◌}
use Rattle.refine_operator.specs.Steps.{column_at}
use Rattle.refine_operator.proofs.RowLaws.{column-entry}
use Rattle.refine_operator.proofs.WrittenLaws.{continued-next}
use Rattle.refine_operator.proofs.rows.put.Goals as goal

pub loop-c-preserved : goal.loop-c-preserved
loop-c-preserved c =
    let l = c.loop-c in
    let a = c.args in
    let f = c.five_of-five in
    continued-next (5 * a.k) l.c (column_at a.radius a.m.now) a.columns.now l.columns c.f64_to_f32.result l.invariant (column-entry a.radius a.m.now a.x a.y a.k l.c f.result c.f64_to_f32.result c.requires.1 c.requires.3 c.loop-c-test.true f.ensures c.f64_to_f32.ensures)

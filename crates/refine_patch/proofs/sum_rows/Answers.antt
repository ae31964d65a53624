-- `refine_patch::sum_rows` meets its contract. After some rows the sums have these rows' samples.
use mathlib.Core.Path.{◌≡◌, refl, sym, ap, subst}
use Prim.Native.Nat.{◌+◌, ◌-◌, ◌*◌, ◌≤◌}
use native.Mathlib.Omega.{arith}
use lib.ListN.{length}
use Rattle.refine_operator.specs.Basis as Basis
use Rattle.refine_patch.specs.declared.Firsts.{Firsts}
use Rattle.refine_patch.specs.StepsFour.{RowsReach, Rows}
use Rattle.refine_patch.proofs.RowLaws.{sums_none, rows-done, all-rows, rows-reach, rows_few, rows-numbered, row-begins, row_below, lesser-of}
use Rattle.refine_patch.proofs.LaneLaws.{lanes-after}
use Rattle.refine_patch.proofs.sum_rows.Goals as goal

pub loop-j-init : goal.loop-j-init
loop-j-init g c =
    let a = c.args in
    (omega arith, refl, sums_none (g.S.Sample.levels a.view.data.now) a.view.pitch a.columns.now.numbers.now a.columns.now.radius a.at c.no_sums-sums.result c.no_sums-sums.ensures)

pub moved-requires : goal.moved-requires
moved-requires g c =
    let a = c.args in
    let n = length a.view.data.now in
    let k = a.columns.now in
    let begun = row-begins n a.view.pitch k.radius c.loop-j.j a.at c.requires.patches_inside.small (row_below n a.view.pitch k.radius c.loop-j.j a.at c.requires.reaches c.loop-j-test.true) in
    record { first = omega (arith, begun.first); second = omega (arith, begun.second); third = omega (arith, begun.third); fourth = omega (arith, begun.fourth) }

pub gather_rows-requires-clause-rows_reach : goal.gather_rows-requires-clause-rows_reach
gather_rows-requires-clause-rows_reach g c =
    let a = c.args in
    let k = a.columns.now in
    let n = c.min-rows in
    let j = c.loop-j.j in
    let few = lesser-of c.rows_of-most.result (Basis.side k.radius - j) n.result n.ensures in
    subst (λ (m : Firsts). RowsReach (length a.view.data.now) a.view.pitch k.radius m n.result) (sym c.moved.ensures)
    (rows-reach (length a.view.data.now) a.view.pitch k.radius j n.result a.at c.requires.reaches (omega (arith, few, c.loop-j-test.true)))

pub add_rows-sums-requires : goal.add_rows-sums-requires
add_rows-sums-requires g c =
    let k = c.args.columns.now in
    let n = c.min-rows in
    let j = c.loop-j.j in
    let few = lesser-of c.rows_of-most.result (Basis.side k.radius - j) n.result n.ensures in
    let within : j + n.result ≤ Basis.side k.radius = omega (arith, few, c.loop-j-test.true) in
    record {
      in_columns = (rows_few k.radius n.result c.requires.patches_inside.small (omega (arith, few, c.rows_of-most.ensures)), rows-numbered k.radius j n.result 7 c.requires.patches_inside.small within, λ e. rows-numbered k.radius j n.result 2 (k.repeats.few e) within);
      four_lanes = (lanes-after (g.S.Sample.levels c.args.view.data.now) c.args.view.pitch k.numbers.now k.radius c.args.at (j * Basis.side k.radius) c.loop-j.sums c.loop-j.invariant.2, ap length c.requires.of_centres);
    }

pub loop-j-preserved : goal.loop-j-preserved
loop-j-preserved g c =
    let a = c.args in
    let k = a.columns.now in
    let list = g.S.Sample.levels a.view.data.now in
    let l = c.loop-j in
    let n = c.min-rows in
    let few = lesser-of c.rows_of-most.result (Basis.side k.radius - l.j) n.result n.ensures in
    let row = c.gather_rows.new.row in
    let read = subst (λ (m : Firsts). Rows list a.view.pitch (Basis.side k.radius) m n.result row) c.moved.ensures c.gather_rows.ensures in (
      omega (arith, few, c.loop-j-test.true),
      c.gather_rows.ensures.long,
      rows-done list a.view.pitch k.numbers.now k.radius a.at row a.centre l.j n.result l.sums c.add_rows-sums.result l.invariant.2 read c.requires.of_centres c.add_rows-sums.ensures,
    )

pub returns : goal.returns
returns g c =
    let a = c.args in
    let l = c.loop-j in
    let e : l.j ≡ 2 * a.columns.now.radius + 1 = omega arith in
    all-rows (g.S.Sample.levels a.view.data.now) a.view.pitch a.columns.now.numbers.now a.columns.now.radius a.at l.j l.sums e l.invariant.2

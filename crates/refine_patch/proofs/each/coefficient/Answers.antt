-- `refine_patch::each::coefficient` meets its contract. After k turns the sum has k samples.
use mathlib.Core.Path.{◌≡◌}
use native.Mathlib.Omega.{arith}
use lib.ListN.{length}
use lib.Ieee.{of_bits}
use Rattle.refine_operator.specs.Basis as Basis
use Rattle.refine_patch.proofs.RowLaws.{sample-inside, samples-most, terms-none, term-more, terms-all}
use Rattle.refine_patch.proofs.each.coefficient.Goals as goal

pub loop-k-init : goal.loop-k-init
unfolding of_bits
loop-k-init g c =
    let a = c.args in
    terms-none (g.S.Sample.levels a.view.data.now) a.view.pitch a.columns.now.numbers.now a.columns.now.radius a.first a.c

pub level_at-requires : goal.level_at-requires
level_at-requires g c =
    let a = c.args in
    let k = a.columns.now in
    sample-inside (length a.view.data.now) a.view.pitch k.radius a.first c.loop-k.k c.loop-k-test.true c.requires.2

pub bounds-columns-k : goal.bounds-columns-k
bounds-columns-k g c = omega (arith, samples-most c.args.columns.now.radius c.requires.0, c.requires.1, c.loop-k-test.true)

pub loop-k-preserved : goal.loop-k-preserved
loop-k-preserved g c =
    let a = c.args in
    let k = a.columns.now in
    let l = c.loop-k in
    term-more (g.S.Sample.levels a.view.data.now) a.view.pitch k.numbers.now k.radius a.first a.c l.k c.level_at.result c.level_at-centre.result l.sum l.invariant c.level_at.ensures c.level_at-centre.ensures

pub returns : goal.returns
returns g c =
    let a = c.args in
    let l = c.loop-k in
    let e : l.k ≡ Basis.samples a.columns.now.radius = omega arith in
    terms-all (g.S.Sample.levels a.view.data.now) a.view.pitch a.columns.now.numbers.now a.columns.now.radius a.first a.c l.k l.sum e l.invariant

pub overflow_add-first-in-loop-k : goal.overflow_add-first-in-loop-k
overflow_add-first-in-loop-k g c =
    let a = c.args in
    omega (arith, sample-inside (length a.view.data.now) a.view.pitch a.columns.now.radius a.first c.loop-k.k c.loop-k-test.true c.requires.2)

pub overflow_add-first-in-loop-k-2 : goal.overflow_add-first-in-loop-k-2
overflow_add-first-in-loop-k-2 g c =
    let a = c.args in
    omega (arith, sample-inside (length a.view.data.now) a.view.pitch a.columns.now.radius a.first c.loop-k.k c.loop-k-test.true c.requires.2)

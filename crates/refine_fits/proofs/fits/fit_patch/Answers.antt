-- `refine_fits::fits::fit_patch` meets its contract. After some rows the sums have these rows' samples.
use mathlib.Core.Path.{◌≡◌, ap, ◌∙◌}
use mathlib.Core.List.{List}
use Prim.Native.Nat.{ℕ, ◌+◌, ◌*◌}
use native.Mathlib.Omega.{arith}
use lib.IntN.{pos}
use lib.Ieee.{of_bits, of_int, binary32}
use Rattle.refine_operator.specs.Basis as Basis
use Rattle.refine_patch.proofs.RowLaws.{numbered}
use Rattle.refine_fits.specs.StepsAdding.{row_added}
use Rattle.refine_fits.proofs.FitLaws.{sums_none, row_done, all-rows, centre-sample, row_within, centre-within}
use Rattle.refine_fits.proofs.fits.fit_patch.Goals as goal

pub sample-centre-requires : goal.sample-centre-requires
sample-centre-requires g c = let a = c.args in centre-within a.image.now a.columns.now.radius a.x a.y c.requires

pub loop-row-init : goal.loop-row-init
unfolding of_bits
loop-row-init g c = let a = c.args in sums_none a.image.now a.columns.now.numbers.now a.columns.now.radius a.x a.y

pub overflow_mul-row : goal.overflow_mul-row
overflow_mul-row g c = omega (arith, numbered c.args.columns.now.radius c.loop-row.row c.requires.sound.small c.loop-row-test.true)

pub patch_row-samples-requires : goal.patch_row-samples-requires
patch_row-samples-requires g c = let a = c.args in row_within a.image.now a.columns.now.radius a.x a.y c.loop-row.row c.requires c.loop-row-test.true

pub add_row-sums-requires : goal.add_row-sums-requires
add_row-sums-requires g c = omega (arith, c.patch_row-samples.ensures.side, numbered c.args.columns.now.radius c.loop-row.row c.requires.sound.small c.loop-row-test.true)

pub loop-row-preserved : goal.loop-row-preserved
loop-row-preserved g c =
    let a = c.args in
    let l = c.loop-row in
    let r = a.columns.now.radius in
    let p = c.patch_row-samples in
    row_done a.image.now a.columns.now.numbers.now r a.x a.y l.row _ l.sums c.add_row-sums.result l.invariant (ap (λ (v : ℕ). of_int binary32 (pos v)) c.sample-centre.ensures ∙ centre-sample a.image.now r a.x a.y c.requires.left c.requires.above)
    (c.add_row-sums.ensures
    ∙ ap (λ (n : ℕ). row_added a.columns.now.numbers.now (g.S.Sample.levels p.result.now) (of_int binary32 (pos c.sample-centre.result)) (l.row * Basis.side r) n l.sums) p.ensures.side
    ∙ ap (λ (v : List ℕ). row_added a.columns.now.numbers.now v (of_int binary32 (pos c.sample-centre.result)) (l.row * Basis.side r) (Basis.side r) l.sums) p.ensures.levels)

pub returns : goal.returns
returns g c =
    let a = c.args in
    let l = c.loop-row in
    all-rows a.image.now a.columns.now.numbers.now a.columns.now.radius a.x a.y l.row l.sums (let e : l.row ≡ 2 * a.columns.now.radius + 1 = omega arith in e) l.invariant

-- `refine_patch::gather` meets its contract. After i turns the row has i samples of each patch.
use mathlib.Core.Path.{ap, ◌∙◌}
use Prim.Native.Nat.{ℕ}
use native.Mathlib.Omega.{arith}
use mathlib.Core.List.{List}
use Rattle.refine_patch.specs.StepsFour.{sample_in, four_set, four_at}
use Rattle.refine_patch.proofs.FourLaws.{gathered_none, gathered-more}
use Rattle.refine_patch.proofs.gather.Goals as goal

pub loop-i-init : goal.loop-i-init
loop-i-init g c =
    let a = c.args in
    (omega arith, gathered_none (g.S.Sample.levels a.samples.now) a.at a.to a.row.now c.requires.row_len.0)

pub put_four-requires : goal.put_four-requires
put_four-requires g c = omega (arith, c.loop-i.invariant.0, c.loop-i.invariant.1.long)

pub loop-i-preserved : goal.loop-i-preserved
loop-i-preserved g c =
    let l = c.loop-i in
    let a = c.args in
    let list = g.S.Sample.levels a.samples.now in (
      omega (arith, l.invariant.0),
      gathered-more list a.at l.i a.to a.row.now l.row c.put_four.new.row (omega arith) l.invariant.1 (c.put_four.ensures ∙ ap (λ (v : List ℕ). four_set l.row l.n (sample_in v)) c.read_four.ensures ∙ ap (λ (n : ℕ). four_set l.row n (sample_in (four_at list a.at l.i))) l.invariant.0),
    )

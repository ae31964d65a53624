-- `response::row::write_cross` meets its contract. After i turns the first i pixels have their cross.
use Rattle.std.proofs.Common.{length, ◌∙◌, arith}
use Rattle.pixel_response.specs.Steps.{listed, cross_of}
use Rattle.response.proofs.PassLaws.{wrote-more}
use Rattle.response.proofs.RowLaws.{low-at, levels-low, levels-read, cross-read}
use Rattle.response.proofs.row.write_cross.Goals as goal

pub loop-i-preserved : goal.loop-i-preserved
loop-i-preserved g c =
    let a = c.args in
    let i = c.loop-i.i in
    let n = length a.a.now in
    let levels = g.S.Sample.levels in
    let count = g.met.S.Sample.length_levels in
    let h = c.requires.abreast in
    let l = c.requires.low in
    let low = levels-low _ _ _ _ n i (l.0, l.1, l.2, l.3) (count a.a.now) (count a.b.now ∙ h.second) (count a.c.now ∙ h.third) (count a.d.now ∙ h.fourth) (omega arith) in
    let read = levels-read _ _ _ _ _ _ _ _ c.level_at-p.ensures c.level_at-q.ensures c.level_at-r.ensures c.level_at-s.ensures low in
    let fifth = low-at _ n i l.4 (count a.e.now ∙ c.requires.fifth) (omega arith) in
    let five = c.cross_of.ensures 4095 (omega arith) read (omega (arith, c.level_at-t.ensures, fifth)) in
    wrote-more 0 i (λ j. cross_of (listed (levels a.a.now) j) (listed (levels a.b.now) j) (listed (levels a.c.now) j) (listed (levels a.d.now) j) (listed (levels a.e.now) j)) a.five.now c.loop-i.five c.cross_of.result
    (omega arith) c.loop-i.invariant
    (five.is ∙ cross-read _ _ _ _ _ _ _ _ _ _ c.level_at-p.ensures c.level_at-q.ensures c.level_at-r.ensures c.level_at-s.ensures c.level_at-t.ensures)

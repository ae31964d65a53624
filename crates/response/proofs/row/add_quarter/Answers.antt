-- `response::row::add_quarter` meets its contract. After i turns the first i pixels have it.
use Rattle.std.proofs.Common.{◌≡◌, ℕ, length, ◌∙◌, subst, arith}
use Rattle.pixel_response.specs.Steps.{listed, square_of, sum_of, AddedQuarter}
use Rattle.response.proofs.PassLaws.{quarter-none, quarter-more}
use Rattle.response.proofs.RowLaws.{levels-low, levels-read, same-four}
use Rattle.response.proofs.row.add_quarter.Goals as goal

pub loop-i-init : goal.loop-i-init
loop-i-init g c =
    let a = c.args in
    let levels = g.S.Sample.levels in
    quarter-none 4096 (listed (levels a.a.now)) (listed (levels a.b.now)) (listed (levels a.c.now)) (listed (levels a.d.now)) a.square.now a.edge.now a.sum.now

pub overflow_add-square : goal.overflow_add-square
overflow_add-square g c =
    let a = c.args in
    let count = g.met.S.Sample.length_levels in
    let h = c.requires.abreast in
    let low = levels-low _ _ _ _ (length a.a.now) c.loop-i.i c.requires.low (count a.a.now) (count a.b.now ∙ h.second) (count a.c.now ∙ h.third) (count a.d.now ∙ h.fourth) (omega arith) in
    let read = levels-read _ _ _ _ _ _ _ _ c.level_at-p.ensures c.level_at-q.ensures c.level_at-r.ensures c.level_at-s.ensures low in
    omega (arith, c.loop-i.invariant.squares.past c.loop-i.i (omega arith), c.requires.spare.squares.most c.loop-i.i (omega arith), (c.square_of.ensures 4095 (omega arith) read).most)

pub overflow_add-edge : goal.overflow_add-edge
overflow_add-edge g c = omega (arith, c.loop-i.invariant.edges.past c.loop-i.i (omega arith), c.requires.spare.edges.most c.loop-i.i (omega arith), c.edges_at.ensures.most)

pub overflow_add-sum : goal.overflow_add-sum
overflow_add-sum g c =
    let a = c.args in
    let count = g.met.S.Sample.length_levels in
    let h = c.requires.abreast in
    let low = levels-low _ _ _ _ (length a.a.now) c.loop-i.i c.requires.low (count a.a.now) (count a.b.now ∙ h.second) (count a.c.now ∙ h.third) (count a.d.now ∙ h.fourth) (omega arith) in
    let read = levels-read _ _ _ _ _ _ _ _ c.level_at-p.ensures c.level_at-q.ensures c.level_at-r.ensures c.level_at-s.ensures low in
    omega (arith, c.loop-i.invariant.sums.past c.loop-i.i (omega arith), c.requires.spare.sums.most c.loop-i.i (omega arith), (c.sum_of.ensures 4095 (omega arith) read).most)

pub loop-i-preserved : goal.loop-i-preserved
loop-i-preserved g c =
    let a = c.args in
    let i = c.loop-i.i in
    let levels = g.S.Sample.levels in
    let count = g.met.S.Sample.length_levels in
    let h = c.requires.abreast in
    let low = levels-low _ _ _ _ (length a.a.now) c.loop-i.i c.requires.low (count a.a.now) (count a.b.now ∙ h.second) (count a.c.now ∙ h.third) (count a.d.now ∙ h.fourth) (omega arith) in
    let read = levels-read _ _ _ _ _ _ _ _ c.level_at-p.ensures c.level_at-q.ensures c.level_at-r.ensures c.level_at-s.ensures low in
    quarter-more 4096 i (listed (levels a.a.now)) (listed (levels a.b.now)) (listed (levels a.c.now)) (listed (levels a.d.now)) a.square.now a.edge.now a.sum.now c.loop-i.square c.loop-i.edge c.loop-i.sum
    c.square_of.result c.edges_at.result c.sum_of.result (omega arith) (omega arith) (omega arith) c.loop-i.invariant
    (same-four 8190 square_of _ _ _ _ _ _ _ _ _ c.level_at-p.ensures c.level_at-q.ensures c.level_at-r.ensures c.level_at-s.ensures (c.square_of.ensures 4095 (omega arith) read))
    c.edges_at.ensures
    (same-four 16380 sum_of _ _ _ _ _ _ _ _ _ c.level_at-p.ensures c.level_at-q.ensures c.level_at-r.ensures c.level_at-s.ensures (c.sum_of.ensures 4095 (omega arith) read))

pub returns : goal.returns
returns g c =
    let a = c.args in
    let levels = g.S.Sample.levels in
    let e : c.loop-i.i ≡ length a.a.now = omega arith in
    subst (λ (n : ℕ). AddedQuarter 4096 n (listed (levels a.a.now)) (listed (levels a.b.now)) (listed (levels a.c.now)) (listed (levels a.d.now)) a.square.now a.edge.now a.sum.now c.loop-i.square c.loop-i.edge c.loop-i.sum) e c.loop-i.invariant

-- Both distances are at most the greatest sample.
use Rattle.std.proofs.Common.{◌≡◌, ℕ, ◌≤◌, length, ◌∙◌, arith}
use Rattle.std.specs.Int.{abs_diff}
use Rattle.pixel_response.specs.Samples.{apart}
use Rattle.pixel_response.proofs.PixelLaws.{edges-from, edges_most}
use Rattle.response.proofs.RowLaws.{levels-low}
use Rattle.response.proofs.row.edges_at.Goals as goal

-- whichever two samples are taken apart
near : (x y r : ℕ) → r ≡ abs_diff x y → x ≤ 4095 → y ≤ 4095 → r ≤ 4095
near x y r e p q = omega arith

pub overflow_add-result : goal.overflow_add-result
overflow_add-result g c =
    let a = c.args in
    let count = g.met.S.Sample.length_levels in
    let h = c.requires.abreast in
    let low = levels-low _ _ _ _ (length a.a.now) a.i c.requires.low (count a.a.now) (count a.b.now ∙ h.second) (count a.c.now ∙ h.third) (count a.d.now ∙ h.fourth) c.requires.within in
    let first = near _ _ c.apart_at.result c.apart_at.ensures (omega (arith, low.first, low.second, low.third, low.fourth)) (omega (arith, low.first, low.second, low.third, low.fourth)) in
    let second = near _ _ c.apart_at-2.result c.apart_at-2.ensures (omega (arith, low.first, low.second, low.third, low.fourth)) (omega (arith, low.first, low.second, low.third, low.fourth)) in
    omega (arith, first, second)

pub returns : goal.returns
unfolding apart
returns g c =
    let a = c.args in
    let count = g.met.S.Sample.length_levels in
    let h = c.requires.abreast in
    let low = levels-low _ _ _ _ (length a.a.now) a.i c.requires.low (count a.a.now) (count a.b.now ∙ h.second) (count a.c.now ∙ h.third) (count a.d.now ∙ h.fourth) c.requires.within in
    record {
      is = edges-from _ _ _ _ c.apart_at.result c.apart_at-2.result c.apart_at.ensures c.apart_at-2.ensures;
      most = edges_most 4095 _ _ _ _ c.apart_at.result c.apart_at-2.result low.first low.second low.third low.fourth c.apart_at.ensures c.apart_at-2.ensures;
    }

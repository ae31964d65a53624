-- After i turns the first i pixels have it.
use Rattle.pixel_response.specs.Steps.{listed, AddedQuarter}
use Rattle.response.proofs.row.add_quarter.Given as goal

abbrev pub invariant-loop-i : goal.invariant-loop-i
invariant-loop-i g l =
    let levels = g.S.Sample.levels in
    AddedQuarter 4096 l.i (listed (levels l.a)) (listed (levels l.b)) (listed (levels l.c)) (listed (levels l.d)) l.initial.square l.initial.edge l.initial.sum l.square l.edge l.sum

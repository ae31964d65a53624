-- After i turns the first i pixels have it.
use Rattle.pixel_response.specs.Steps.{listed, cross_of, Wrote}
use Rattle.response.proofs.row.write_cross.Given as goal

abbrev pub invariant-loop-i : goal.invariant-loop-i
invariant-loop-i g l =
    let levels = g.S.Sample.levels in
    Wrote 0 l.i 0 (λ j. cross_of (listed (levels l.a) j) (listed (levels l.b) j) (listed (levels l.c) j) (listed (levels l.d) j) (listed (levels l.e) j)) l.initial.five l.five

-- After i turns the first i values are written.
use Rattle.shapes.specs.Numbers.{plus_zero}
use Rattle.pixel_response.specs.Samples.{value_of}
use Rattle.pixel_response.specs.Steps.{listed, Wrote}
use Rattle.response.proofs.row.write_values.Given as goal

abbrev pub invariant-loop-i : goal.invariant-loop-i
invariant-loop-i l = Wrote plus_zero l.i 0 (λ j. value_of (listed l.square j) (listed l.edge j) (listed l.sum j) (listed l.cross j)) l.initial.out l.out

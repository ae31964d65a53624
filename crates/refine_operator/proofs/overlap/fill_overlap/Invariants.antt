-- `refine_operator::overlap::fill_overlap` meets its contract. After d turns the overlaps of d shifts are written; the others are copies.
use Rattle.std.proofs.Common.{◌*◌}
use Rattle.refine_operator.specs.Steps.{Continued, overlap_at}
use Rattle.refine_operator.proofs.overlap.fill_overlap.Given as goal

abbrev pub invariant-loop-d : goal.invariant-loop-d
invariant-loop-d l = Continued 0 (25 * l.d) (overlap_at l.radius l.m) l.initial.overlap l.overlap

-- `refine_fallback::walk::refine_both`: records and bytes of the seeds so far stand in the front of their outputs, and the first fits that are held are those of their group.
use Rattle.std.proofs.Common.{ℕ}
use Rattle.refine_list.specs.Seeds.{lent_spot, Holds}
use Rattle.refine_list.specs.Steps.{Going}
use Rattle.refine_fallback.specs.Call.{either}
use Rattle.refine_fallback.specs.Steps.{Marking}
use Rattle.refine_fallback.proofs.walk.refine_both.Given as goal

abbrev pub invariant-loop-i : goal.invariant-loop-i
invariant-loop-i g l = record {
  going : Going (λ (k : ℕ). either (lent_spot l.image l.first k) (lent_spot l.image l.second k)) l.first.corners.now l.initial.out l.i l.written l.out;
  marking : Marking (lent_spot l.image l.first) (lent_spot l.image l.second) l.initial.passes l.i l.count l.passes;
  first_held : Holds l.image l.first l.first_fits;
  second_held : Holds l.image l.second l.second_fits;
}

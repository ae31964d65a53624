-- `refine_list::list::refine_all`: the records of the seeds so far stand in the front of the output, and the first fits that are held are those of their group.
use Rattle.refine_list.specs.Refining.{spot_for}
use Rattle.refine_list.specs.Seeds.{Holds}
use Rattle.refine_list.specs.Steps.{Going}
use Rattle.refine_list.proofs.list.refine_all.Given as goal

abbrev pub invariant-loop-i : goal.invariant-loop-i
invariant-loop-i g l = record { going : Going (spot_for l.image l.seeds.cfg l.seeds.corners.now) l.seeds.corners.now l.initial.out l.i l.written l.out; held : Holds l.image l.seeds l.held }

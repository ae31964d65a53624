-- `refine_list::list::refine_list` meets its contract: the operator that was built is usable, and without one no seed is accepted.
use mathlib.Core.Bool.{false}
use mathlib.Core.List.{[]}
use Rattle.refine_operator.proofs.CallLaws.{with-overlap}
use Rattle.refine_seed.proofs.LentLaws.{none_unbuilt}
use Rattle.refine_list.specs.Refining.{spot_for}
use Rattle.refine_list.proofs.ListLaws.{empty, nowhere}
use Rattle.refine_list.proofs.RepeatLaws.{usable}
use Rattle.refine_list.proofs.list.refine_list.Goals as goal

pub refine_all-requires-clause-usable : goal.refine_all-requires-clause-usable
refine_all-requires-clause-usable g c = usable c.args.cfg _ _ c.build.ensures c.in-Ok.is

pub returns-in-Err : goal.returns-in-Err
returns-in-Err g c =
    let a = c.args in
    let img = a.image.now in
    empty (spot_for img a.cfg a.corners.now) a.corners.now a.out.now (nowhere img a.cfg a.corners.now (λ x y. none_unbuilt img a.cfg x y false _ [] _ _ _ (with-overlap a.cfg.radius _ [] _ _ c.build.ensures.done) _ c.in-Err.is))

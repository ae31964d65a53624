-- `refine_fallback::walk::build` meets its contract: columns that were built serve with their settings, and else those of radius 0 do.
use Rattle.refine_fallback.proofs.OperatorLaws.{serves-built, serves-unbuilt, zero-repeats}
use Rattle.refine_fallback.proofs.walk.build.Goals as goal

pub returns-in-Ok : goal.returns-in-Ok
returns-in-Ok c =
    let a = c.args in
    record { serves = serves-built a.cfg _ _ _ c.build.ensures.done c.in-Ok.is; repeats = c.build.ensures.repeats }

pub returns-in-Err : goal.returns-in-Err
returns-in-Err c =
    let a = c.args in
    record { serves = serves-unbuilt a.cfg _ _ _ c.build.ensures.done _ c.in-Err.is _ c.at_zero.ensures; repeats = zero-repeats a.cfg _ _ c.at_zero.ensures c.build.ensures.repeats }

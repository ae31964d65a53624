-- No corner is kept at first, and the pass keeps what is to be kept.
use Rattle.merge.proofs.StepLaws.{fill_kept}
use Rattle.merge.proofs.GridLaws.{none_chained}
use Rattle.merge.proofs.CallLaws.{cleared_roomy, cleared_zero}
use Rattle.merge.proofs.grid.merge.Goals as goal

pub pass-count-requires-clause-none_kept : goal.pass-count-requires-clause-none_kept
pass-count-requires-clause-none_kept c =
    let r = c.requires.roomy in
    let z = c.fill.ensures.after (λ y h. h) in
    none_chained (cleared_roomy r z) (cleared_zero r z)

pub returns-clause-packed : goal.returns-clause-packed
returns-clause-packed c = fill_kept c.pass-count.ensures.passed c.pass-count.auto.corners c.zero_from.ensures

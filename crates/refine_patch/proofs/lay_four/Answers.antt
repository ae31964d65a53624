-- `refine_patch::lay_four` meets its contract.
use mathlib.Core.Path.{ap, ◌∙◌}
use Rattle.refine_patch.specs.declared.Sums.{Sums}
use Rattle.refine_patch.specs.StepsFour.{blocks, sum_in, side_by_side}
use Rattle.refine_patch.proofs.FourLaws.{blocks-written}
use Rattle.refine_patch.proofs.lay_four.Goals as goal

pub returns : goal.returns
returns c =
    let a = c.args in
    c.store.ensures ∙ ap (λ (s : Sums). blocks 5 (sum_in s) a.to a.out.now) c.side_by_side.ensures ∙ blocks-written (sum_in (side_by_side a.fits)) a.to a.out.now c.requires.0 c.requires.1

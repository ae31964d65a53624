-- `refine_operator::basis::offset_of` meets its contract: what is converted is the difference.
use Rattle.std.proofs.Common.{ℤ, ap, ◌∙◌, w32}
use lib.Ieee.{binary32, of_int}
use mir.ValLaws.{to_z-of_z}
use Rattle.refine_operator.proofs.BasisLaws.{difference, difference-fits}
use Rattle.refine_operator.proofs.basis.offset_of.Goals as goal

pub overflow_sub-i : goal.overflow_sub-i
overflow_sub-i c = difference-fits c.args.i c.args.radius c.requires.0 c.requires.1

pub returns : goal.returns
returns c =
    let i = c.args.i in
    let radius = c.args.radius in
    c.nearest_i32_to_f32.ensures
    ∙ ap (λ (z : ℤ). of_int binary32 z) (to_z-of_z w32 _ (difference-fits i radius c.requires.0 c.requires.1) ∙ difference i radius c.requires.0 c.requires.1)

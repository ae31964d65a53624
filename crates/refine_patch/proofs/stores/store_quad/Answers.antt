-- `refine_patch::stores::store_quad` meets its contract: the four lanes are the four entries.
use mathlib.Core.Path.{ap, ◌∙◌}
use Prim.Native.Nat.{◌+◌, ◌-◌}
use native.Mathlib.Omega.{arith}
use lib.ListN.{length}
use lib.Ieee.{nan}
use Rattle.refine_patch.specs.StepsFour.{lane_in}
use Rattle.refine_patch.proofs.FourLaws.{length-four}
use Rattle.refine_patch.proofs.LaneLaws.{lanes-written}
use Rattle.refine_patch.proofs.stores.store_quad.Goals as goal

pub returns : goal.returns
returns c =
    let a = c.args in
    let is = lanes-written a.out.now a.at (a.at + 4 - a.at) a.v nan (omega arith) (omega arith) c.requires.2 in
    (is, ap length is ∙ length-four nan a.out.now a.at (lane_in a.v) ∙ c.requires.0)

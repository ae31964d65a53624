-- `refine_patch::levelled` meets its contract: lane by lane.
use Prim.Native.Nat.{◌+◌, ◌-◌}
use native.Mathlib.Omega.{arith}
use Rattle.refine_patch.proofs.LaneLaws.{level-is}
use Rattle.refine_patch.proofs.levelled.Goals as goal

pub returns : goal.returns
returns c =
    let a = c.args in
    level-is a.row.now a.n (a.n + 4 - a.n) a.centre (omega arith) (omega arith) c.requires.1

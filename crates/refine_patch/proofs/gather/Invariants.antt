-- `refine_patch::gather` meets its contract. After i turns the row has i samples of each patch.
use mathlib.Core.Path.{◌≡◌}
use Prim.Native.Nat.{◌+◌, ◌*◌}
use Rattle.refine_patch.specs.StepsFour.{Gathered}
use Rattle.refine_patch.proofs.gather.Given as goal

abbrev pub invariant-loop-i : goal.invariant-loop-i
invariant-loop-i g l = (l.n ≡ l.to + 4 * l.i) × Gathered (g.S.Sample.levels l.samples) l.at l.i l.to l.initial.row l.row

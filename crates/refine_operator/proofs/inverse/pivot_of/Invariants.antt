-- `refine_operator::inverse::pivot_of` meets its contract. The rows that are left lead from the best so far to the pivot.
use Rattle.std.proofs.Common.{◌≡◌, ◌-◌, ◌<◌}
use Rattle.refine_operator.specs.Inverse.{pivot_from, pivot_of}
use Rattle.refine_operator.proofs.inverse.pivot_of.Given as goal

abbrev pub invariant-loop-p : goal.invariant-loop-p
invariant-loop-p l = (l.best < 6) × (pivot_from (6 - l.p) l.m l.col l.best l.p ≡ pivot_of l.m l.col)

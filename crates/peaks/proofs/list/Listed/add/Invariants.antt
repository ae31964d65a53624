-- `peaks::list::Listed::add`: of the numbers passed, those that have p were added.
use Rattle.std.proofs.Common.{◌≡◌, Bool, ◌++◌, ℕ, ◌+◌, ◌≤◌, take}
use Rattle.peaks.specs.Listed.{between, Tells}
use Rattle.peaks.proofs.list.Listed.add.Given as goal

abbrev pub invariant-loop-i : goal.invariant-loop-i
invariant-loop-i g l = record {
  few : l.len ≤ l.initial.len + l.i;
  added : (p : ℕ → Bool) → Tells (goal.F-post g l.passes) p l.from l.n → take l.len l.self-inside.numbers ≡ take l.initial.self-inside.len l.initial.self-inside.numbers ++ between l.from l.i p;
}

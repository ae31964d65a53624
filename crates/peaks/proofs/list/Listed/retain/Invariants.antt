-- `peaks::list::Listed::retain`: of the numbers passed, those that have p were kept, and those to come are as they were.
use Rattle.std.proofs.Common.{◌≡◌, Bool, ◌++◌, ℕ, ◌≤◌, take, drop}
use Rattle.peaks.specs.Listed.{picked, TellsListed}
use Rattle.peaks.proofs.list.Listed.retain.Given as goal

abbrev pub invariant-loop-i : goal.invariant-loop-i
invariant-loop-i g l =
    let old = take l.initial.self-inside.len l.initial.self-inside.numbers in
    record {
      few : l.len ≤ l.i;
      to_come : drop l.i l.self-inside.numbers ≡ drop l.i l.initial.self-inside.numbers;
      kept : (p : ℕ → Bool) → TellsListed (goal.F-post g l.passes) p old l.first → take l.len l.self-inside.numbers ≡ take l.first old ++ picked (drop l.first (take l.i old)) p;
    }

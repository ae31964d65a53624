-- `peaks::gather::Response::gather`: the groups that have a value above the floor are listed, and the pixels that stand out of those passed.
use Rattle.std.proofs.Common.{◌≡◌, ◌++◌, ◌/◌, take}
use Rattle.peaks.specs.Listed.{between}
use Rattle.peaks.specs.Steps.{any_above, gathered}
use Rattle.peaks.proofs.Response.gather.Given as goal

abbrev pub invariant-loop-j : goal.invariant-loop-j
invariant-loop-j l = record {
  groups : l.groups ≡ between 0 (l.n / 8) (any_above l.self.values.now l.floor l.from);
  listed : l.list ≡ l.initial.list ++ gathered l.self.values.now l.floor l.from (take l.j l.groups);
}

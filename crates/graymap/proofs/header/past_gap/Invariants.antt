-- `graymap::header::past_gap` meets its contract: the gap from here on is the gap from the start.
use mathlib.Core.Path.{◌≡◌}
use mathlib.Core.Bool.{false}
use lib.ListN.{drop}
use Rattle.graymap.specs.Grammar.{gap}
use Rattle.graymap.proofs.header.past_gap.Given as goal

abbrev pub invariant-loop-i : goal.invariant-loop-i
invariant-loop-i l = gap l.hidden (drop l.i l.file) ≡ gap false (drop l.from l.file)

-- After i turns the first i numbers are those of the file.
use Rattle.std.proofs.Common.{◌≡◌}
use Rattle.shapes.specs.Lists.{overwritten}
use Rattle.merge_text.specs.Text.{number_at}
use Rattle.merge_text.proofs.read_numbers.Given as goal

abbrev pub invariant-loop-i : goal.invariant-loop-i
invariant-loop-i l = l.list ≡ overwritten l.i (number_at l.bytes) l.initial.list

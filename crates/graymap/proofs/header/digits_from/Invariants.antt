-- `graymap::header::digits_from` meets its contract: the number from here on, with the digits so far cut, is the number from the start.
use mathlib.Core.Path.{◌≡◌}
use mathlib.Core.Bool.{false}
use lib.Dec.{ltb}
use lib.ListN.{length, drop}
use Rattle.graymap.specs.Grammar.{digits}
use Rattle.graymap.specs.Steps.{cut, found_of}
use Rattle.graymap.proofs.header.digits_from.Given as goal

abbrev pub invariant-loop-i : goal.invariant-loop-i
invariant-loop-i l = (cut l.value ≡ l.value) × (found_of (length l.file) (digits l.value (ltb l.from l.i) (drop l.i l.file)) ≡ found_of (length l.file) (digits 0 false (drop l.from l.file)))

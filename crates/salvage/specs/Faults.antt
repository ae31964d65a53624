-- The number of each fault of a record; of none it is 0.
use Rattle.std.specs.Prelude.{ℕ, Option, Some, None}
use Rattle.salvage.specs.declared.faults.Fault.{Fault}
use Rattle.salvage.specs.declared.faults.Fault.TheVariants.{Cut, NotFinite, Outside}

abbrev pub code_of : Fault → ℕ
code_of Cut = 1
code_of NotFinite = 2
code_of Outside = 3

abbrev pub told : Option Fault → ℕ
told None = 0
told (Some f) = code_of f

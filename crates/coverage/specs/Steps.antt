-- What the steps of the calls promise each other.
use Rattle.std.specs.Prelude.{Result, Ok, Err, cond, List, [], ℕ, ◌+◌, ltb, length, Float}
use Rattle.shapes.specs.Lists.{tabulated}
use Rattle.shapes.specs.Numbers.{entry}
use Rattle.refusals.specs.declared.Refusal.{Refusal}
use Rattle.coverage.specs.Call.{Way, refused, kept, tested, in_list}

-- what the tests of replacing and dropping say
abbrev pub passed_of : Way → Result Unit Refusal
passed_of (refused r) = Err r
passed_of (kept list n counts) = Ok tt

abbrev pub tests_of : ℕ → ℕ → ℕ → ℕ → Result Unit Refusal
tests_of width height n k = passed_of (tested width height n (in_list k n (kept [] n [])))

-- the floats from a on, up to b, are those three places on
unfoldable pub moved_to : ℕ → ℕ → List Float → List Float
unfolding tabulated
moved_to a b list = tabulated (length list) (λ i. cond (ltb i a) (entry list i) (cond (ltb i b) (entry list (i + 3)) (entry list i)))

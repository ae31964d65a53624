-- The numbers of a row of samples: which rows are not above the greatest sample.
use Rattle.std.specs.Prelude.{Bool, List, ℕ, leb, get_or}
use Rattle.shapes.specs.Tests.{every}

-- none of the first n is above 4095
abbrev pub row_low : List ℕ → ℕ → Bool
row_low l n = every n (λ x. leb (get_or l x 0) 4095)

-- The numbers that are written most, of any format, an entry of a list of numbers, and the lesser and the greater of two.
use Rattle.std.specs.Prelude.{true, false, cond, List, ℕ, pos, get_or, Float}
use Rattle.std.specs.Float.{nan, fin}
use Rattle.std.specs.Float.Ieee.{lt}

abbrev pub plus_zero : Float
plus_zero = fin false 0 (pos 0)

abbrev pub minus_zero : Float
minus_zero = fin true 0 (pos 0)

abbrev pub one : Float
one = fin false 1 (pos 0)

-- an entry of a list; past its end a NaN, as Rattle's arrays read
abbrev pub entry : List Float → ℕ → Float
entry l i = get_or l i nan

-- the second where neither is less, so of a NaN and a number whichever comes second
abbrev pub lesser : Float → Float → Float
lesser a b = cond (lt a b) a b

abbrev pub greater : Float → Float → Float
greater a b = cond (lt b a) a b

-- Closed cases: a size of any count of digits, words that are none, and a line of each kind.
use mathlib.Core.Path.{◌≡◌, refl}
use mathlib.Core.List.{[], ◌∷◌}
use Rattle.std.specs.Prelude.{Some, None}
use Rattle.salvage_text.specs.Sizes.{are_digits, value_from, size_of}
use Rattle.std.specs.Fmt.{digits}
use Rattle.salvage_text.specs.Lines.{fault_line, last_line, refused_line}

-- "640", "0064", "99999"
six-hundred-forty : size_of (54 ∷ 52 ∷ 48 ∷ []) ≡ Some 640
unfolding size_of are_digits value_from
six-hundred-forty = refl

zeros-in-front : size_of (48 ∷ 48 ∷ 54 ∷ 52 ∷ []) ≡ Some 64
unfolding size_of are_digits value_from
zeros-in-front = refl

too_large : size_of (57 ∷ 57 ∷ 57 ∷ 57 ∷ 57 ∷ []) ≡ Some 4097
unfolding size_of are_digits value_from
too_large = refl

-- "", "-1", "6x"
empty-word : size_of [] ≡ None
unfolding size_of
empty-word = refl

with-a-sign : size_of (45 ∷ 49 ∷ []) ≡ None
unfolding size_of are_digits value_from
with-a-sign = refl

with-a-letter : size_of (54 ∷ 120 ∷ []) ≡ None
unfolding size_of are_digits value_from
with-a-letter = refl

-- "0 cut", "4095 not finite", "10 outside"
first-cut : fault_line 0 1 ≡ 48 ∷ 32 ∷ 99 ∷ 117 ∷ 116 ∷ 10 ∷ []
unfolding digits
first-cut = refl

last-not-finite : fault_line 4095 2 ≡ 52 ∷ 48 ∷ 57 ∷ 53 ∷ 32 ∷ 110 ∷ 111 ∷ 116 ∷ 32 ∷ 102 ∷ 105 ∷ 110 ∷ 105 ∷ 116 ∷ 101 ∷ 10 ∷ []
unfolding digits
last-not-finite = refl

tenth-outside : fault_line 10 3 ≡ 49 ∷ 48 ∷ 32 ∷ 111 ∷ 117 ∷ 116 ∷ 115 ∷ 105 ∷ 100 ∷ 101 ∷ 10 ∷ []
unfolding digits
tenth-outside = refl

-- "kept 2 dropped 13", "refused 16"
two-and-thirteen : last_line 2 13 ≡ 107 ∷ 101 ∷ 112 ∷ 116 ∷ 32 ∷ 50 ∷ 32 ∷ 100 ∷ 114 ∷ 111 ∷ 112 ∷ 112 ∷ 101 ∷ 100 ∷ 32 ∷ 49 ∷ 51 ∷ 10 ∷ []
unfolding digits
two-and-thirteen = refl

too_many : refused_line 16 ≡ 114 ∷ 101 ∷ 102 ∷ 117 ∷ 115 ∷ 101 ∷ 100 ∷ 32 ∷ 49 ∷ 54 ∷ 10 ∷ []
unfolding digits
too_many = refl

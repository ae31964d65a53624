-- A word of the command line as a width or height: decimal digits and nothing else, at least one. All sizes above the greatest, 4,096, are refused alike:
-- 4,097 stands for each of them.
use Rattle.std.specs.Prelude.{Bool, true, ◌&&◌, cond, List, [], ◌∷◌, ℕ, ◌+◌, ◌-◌, ◌*◌, min, leb, Option, None, Some}

abbrev pub most : ℕ
most = 4097

-- '0' to '9'
abbrev pub is_digit : ℕ → Bool
is_digit b = leb 48 b && leb b 57

unfoldable pub are_digits : List ℕ → Bool
are_digits [] = true
are_digits (b ∷ l) = is_digit b && are_digits l

-- the number whose first digits are those of n and whose others follow
unfoldable pub value_from : ℕ → List ℕ → ℕ
value_from n [] = n
value_from n (b ∷ l) = value_from (n * 10 + (b - 48)) l

unfoldable pub size_of : List ℕ → Option ℕ
unfolding are_digits value_from
size_of [] = None
size_of (b ∷ l) = cond (are_digits (b ∷ l)) (Some (min most (value_from 0 (b ∷ l)))) None

-- The grammar of a binary graymap (Netpbm P5), byte by byte over what is left of the file: the magic, three numbers set off by whitespace and comments,
-- one whitespace byte behind each, and then pixels.
use Rattle.std.specs.Prelude.{Bool, true, false, ◌&&◌, ◌||◌, cond, List, [], ◌∷◌, ℕ, ◌+◌, ◌-◌, ◌*◌, leb, eqb}

-- space, TAB, LF, CR
abbrev pub is_space : ℕ → Bool
is_space b = eqb b 32 || eqb b 9 || eqb b 10 || eqb b 13

-- what ends a comment: it is whitespace itself
abbrev pub ends_line : ℕ → Bool
ends_line b = eqb b 10 || eqb b 13

abbrev pub is_digit : ℕ → Bool
is_digit b = leb 48 b && leb b 57

-- ---- whitespace and comments: what is left from the first byte on that is of neither; `hidden` says that a comment hides what comes
unfoldable pub gap : Bool → List ℕ → List ℕ
gap hidden [] = []
gap true (b ∷ l) = gap (cond (ends_line b) false true) l
gap false (b ∷ l) = cond (is_space b) (gap false l) (cond (eqb b 35) (gap true l) (b ∷ l))

-- ---- a number: its digits, of any count, and the whitespace byte straight behind them, which it takes
pub data Number : Type 0 where
  missing : Number
  number : ℕ → List ℕ → Number

-- `some` says that a digit was there
unfoldable pub digits : ℕ → Bool → List ℕ → Number
digits v some [] = missing
digits v some (b ∷ l) = cond (is_digit b) (digits (10 * v + (b - 48)) true l) (cond (some && is_space b) (number v l) missing)

unfoldable pub number_in : List ℕ → Number
unfolding gap digits
number_in l = digits 0 false (gap false l)

-- ---- the magic with the whitespace byte behind it
pub data Magic : Type 0 where
  no_magic : Magic
  magic : List ℕ → Magic

abbrev pub magic_in : List ℕ → Magic
magic_in (a ∷ b ∷ c ∷ l) = cond (eqb a 80 && eqb b 53 && is_space c) (magic l) no_magic
magic_in (a ∷ b ∷ []) = no_magic
magic_in (a ∷ []) = no_magic
magic_in [] = no_magic

-- ---- the header: width, height and maximum, and what is left
pub data Header : Type 0 where
  no_header : Header
  header : ℕ → ℕ → ℕ → List ℕ → Header

abbrev pub with_maximum : ℕ → ℕ → Number → Header
with_maximum w h missing = no_header
with_maximum w h (number m l) = header w h m l

abbrev pub with_height : ℕ → Number → Header
with_height w missing = no_header
with_height w (number h l) = with_maximum w h (number_in l)

abbrev pub with_width : Number → Header
with_width missing = no_header
with_width (number w l) = with_height w (number_in l)

unfoldable pub header_in : List ℕ → Header
unfolding number_in
header_in l = with_width (number_in l)

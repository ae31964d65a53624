-- Records to numbers, and numbers to text: a record is three words, a word a bit pattern; a corner's line is its three patterns in
-- eight upper-case hex digits each, with single spaces between, and a line feed.
use Rattle.std.specs.Prelude.{cond, List, [], ◌∷◌, ℕ, ◌+◌, ◌*◌, ◌/◌, ◌%◌, ltb, Float, Result, Ok, Err}
use Rattle.std.specs.Float.{binary32}
use Rattle.std.specs.Float.Ieee.{of_bits}
use Rattle.shapes.specs.Lists.{tabulated}
use Rattle.corners.specs.Corners.{most_corners}
use Rattle.words.specs.Words.{word_at}
use Rattle.refusals.specs.declared.Refusal.{Refusal}
use Rattle.refusals.specs.declared.Refusal.TheVariants.{BadLength, TooMany}

-- the first n numbers of a file
abbrev pub number_at : List ℕ → ℕ → Float
number_at bytes i = of_bits binary32 (word_at bytes (4 * i))

abbrev pub numbers : ℕ → List ℕ → List Float
numbers n bytes = tabulated n (number_at bytes)

-- '0' to '9' and 'A' to 'F'
abbrev pub hex_digit : ℕ → ℕ
hex_digit d = cond (ltb d 10) (48 + d) (55 + d)

-- the digit of w whose place is worth unit
abbrev pub digit_at : ℕ → ℕ → ℕ
digit_at w unit = hex_digit (w / unit % 16)

-- a word and the byte behind it: a space, or the line feed after the third
abbrev pub shown : ℕ → ℕ → List ℕ
shown w end =
    digit_at w 268435456 ∷ digit_at w 16777216 ∷ digit_at w 1048576 ∷ digit_at w 65536
    ∷ digit_at w 4096 ∷ digit_at w 256 ∷ digit_at w 16 ∷ digit_at w 1 ∷ end ∷ []

-- how many numbers a file of so many bytes holds: refused where it is not made of whole records, else where there are over 4,096
abbrev pub numbers_of : ℕ → Result ℕ Refusal
numbers_of n = cond (ltb 0 (n % 12)) (Err BadLength) (cond (ltb most_corners (n / 12)) (Err TooMany) (Ok (n / 4)))

-- Where things stand in a case: a word after a place, the bytes there, the image at its start, and what follows the image.
use Rattle.std.specs.Prelude.{Bool, ◌||◌, cond, List, [], ℕ, ◌+◌, ◌*◌, ◌/◌, ltb, length, take, drop}
use Rattle.words.specs.Words.{word_at}

abbrev pub past : ℕ
past = 0x1000_0000

-- the byte at which the word number i after a place stands; for numbers that no case has, a byte past its end
abbrev pub place_of : ℕ → ℕ → ℕ
place_of at i = cond (ltb past at || ltb past i) past (at + 4 * i)

-- so many bytes from a place on; none where they are not whole
abbrev pub bytes_in : List ℕ → ℕ → ℕ → List ℕ
bytes_in case at n = cond (ltb (length case) (at + n)) [] (take n (drop at case))

-- the bytes behind three longs and their number
abbrev pub image_in : List ℕ → List ℕ
image_in case = bytes_in case 28 (word_at case 24)

abbrev pub image_end : List ℕ → ℕ
image_end case = place_of 28 ((word_at case 24 + 3) / 4)

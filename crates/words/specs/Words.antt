-- A 32-bit word is four bytes, the lowest first. A word that does not lie whole within the list is 0.
use Rattle.std.specs.Prelude.{cond, List, ℕ, suc, ◌+◌, ◌-◌, ◌*◌, ◌^◌, leb, ltb, ℤ, pos, negsuc, length, get_or}
use mir.Val.{sel}

abbrev pub joined : ℕ → ℕ → ℕ → ℕ → ℕ
joined a b c d = a + b * 256 + c * 65536 + d * 16777216

-- a word read with its sign: from 2^31 on it stands for itself less 2^32
unfoldable pub signed_of : ℕ → ℤ
signed_of n = sel (ltb n (2 ^ 31)) (pos n) (negsuc (2 ^ 32 - suc n))

unfoldable pub word_at : List ℕ → ℕ → ℕ
word_at l at = cond (leb (at + 4) (length l)) (joined (get_or l at 0) (get_or l (at + 1) 0) (get_or l (at + 2) 0) (get_or l (at + 3) 0)) 0

-- two words, the low one first, where both lie within the list
unfoldable pub long_at : List ℕ → ℕ → ℕ
unfolding word_at
long_at l at = cond (leb (at + 8) (length l)) (word_at l at + word_at l (at + 4) * 4294967296) 0

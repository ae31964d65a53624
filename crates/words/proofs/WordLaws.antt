-- A word that lies within the list.
use mathlib.Core.Path.{◌≡◌, sym, ap}
use mathlib.Core.Bool.{Bool, cond}
use mathlib.Core.List.{List}
use Prim.Native.Nat.{ℕ, ◌+◌, ◌≤◌}
use lib.ListN.{length, get_or}
use borrow.Author.Tests.{le-leb}
use Rattle.words.specs.Words.{joined, word_at}

pub word-within : (l : List ℕ) (at : ℕ) → at + 4 ≤ length l → joined (get_or l at 0) (get_or l (at + 1) 0) (get_or l (at + 2) 0) (get_or l (at + 3) 0) ≡ word_at l at
unfolding word_at
word-within l at h = sym (ap (λ (b : Bool). cond b (joined (get_or l at 0) (get_or l (at + 1) 0) (get_or l (at + 2) 0) (get_or l (at + 3) 0)) 0) (le-leb (at + 4) (length l) h))

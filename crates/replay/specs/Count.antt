-- What is counted of a list, and what a case that was read is.
use Rattle.std.specs.Prelude.{◌≡◌, Bool, true, false, cond, List, ◌++◌, ℕ, ◌+◌, ◌*◌, ◌≤◌, ltb, length, take, Option}
use Rattle.std.specs.Io.KnownBytes.{Consumes, IsAtEnd}
use Rattle.words.specs.Words.{word_at}
use Rattle.replay.specs.declared.Next.{Next}
use Rattle.replay.specs.declared.Next.TheVariants.{Case, End, Broken}
use Rattle.replay.specs.declared.Tally.{Tally}

-- a case lies within the buffer that it was read to
abbrev pub Within : Next → ℕ → Type 0
Within (Case n) size = n ≤ size
Within End size = Unit
Within Broken size = Unit

-- what a case takes of the bytes that a list has left: its number of words and its bytes, which stand at the buffer's start; at the end of the list none is left
abbrev pub Takes : Next → List ℕ → Option (List ℕ) → Option (List ℕ) → Type 0
Takes (Case n) buf old new = (head : List ℕ) × ((length head ≡ 4) × (n ≡ 4 * word_at head 0) × Consumes old new (head ++ take n buf))
Takes End buf old new = IsAtEnd old × IsAtEnd new
Takes Broken buf old new = Unit

-- one more unless all is well; no list reaches the limit
abbrev pub more_of : ℕ → Bool → ℕ
more_of n well = cond well n (cond (ltb 1000000 n) n (n + 1))

abbrev pub none : Tally
none = record { cases = 0; wrong = 0; blind = 0; whole = false }

abbrev pub counted_in : Tally → Bool → Bool → Tally
counted_in t right noticed = record { cases = more_of t.cases false; wrong = more_of t.wrong right; blind = more_of t.blind noticed; whole = t.whole }

abbrev pub ended_of : Tally → Tally
ended_of t = record { cases = t.cases; wrong = t.wrong; blind = t.blind; whole = true }

-- What the steps of the call promise each other. Numbers are cut where the code reads them, at a limit that no test asks about.
use Rattle.std.specs.Prelude.{◌≡◌, Bool, true, false, not, ◌&&◌, ◌||◌, cond, Option, Some, None, List, ℕ, ◌-◌, ◌≤◌, ltb, eqb, length, drop}
use Rattle.shapes.specs.Turns.{turns}
use Rattle.graymap.specs.declared.header.Found.{Found}
use Rattle.graymap.specs.declared.header.Heading.{Heading}
use Rattle.graymap.specs.Grammar.{is_space, ends_line, gap, Number, missing, number, Magic, no_magic, magic, magic_in, Header, no_header, header}

-- ---- the magic
abbrev pub is_magic : Magic → Bool
is_magic no_magic = false
is_magic (magic l) = true

abbrev pub has_magic : List ℕ → Bool
has_magic l = is_magic (magic_in l)

-- ---- a gap, byte by byte: what ends it, and what hides the bytes behind it
abbrev pub ends_gap : Bool → ℕ → Bool
ends_gap true b = false
ends_gap false b = not (is_space b || eqb b 35)

abbrev pub hides : Bool → ℕ → Bool
hides true b = not (ends_line b)
hides false b = not (is_space b)

pub record PastGap (file : List ℕ) (from at : ℕ) : Type 0 where
  pub within : at ≤ length file
  pub rest : gap false (drop from file) ≡ drop at file

-- ---- a number, cut
abbrev pub cut_at : ℕ
cut_at = 10000

unfoldable pub cut : ℕ → ℕ
cut n = cond (ltb n cut_at) n cut_at

abbrev pub number_found : ℕ → ℕ → Found
number_found value next = record { value = value; next = next }

abbrev pub ended_of : ℕ → Bool → ℕ → ℕ → Option Found
ended_of value some b next = cond (some && is_space b) (Some (number_found value next)) None

-- the number with the place where what is left of a file of so many bytes begins
abbrev pub found_of : ℕ → Number → Option Found
found_of count missing = None
found_of count (number v l) = Some (number_found (cut v) (count - length l))

abbrev pub heading : ℕ → ℕ → ℕ → ℕ → Heading
heading w h m start = record { width = w; height = h; maximum = m; start = start }

abbrev pub heading_of : ℕ → Header → Option Heading
heading_of count no_header = None
heading_of count (header w h m l) = Some (heading (cut w) (cut h) (cut m) (count - length l))

-- ---- the highest of n samples
abbrev pub higher_of : ℕ → ℕ → ℕ
higher_of a b = cond (ltb a b) b a

unfoldable pub highest_of : (ℕ → ℕ) → ℕ → ℕ
unfolding turns
highest_of f n = turns n (λ i a. higher_of a (f i)) 0

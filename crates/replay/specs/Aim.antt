-- Which element of what a call wrote is changed at a turn.
use Rattle.std.specs.Prelude.{cond, ℕ, ◌/◌, ◌%◌, eqb, Option, None, Some}
use Rattle.replay.specs.Spoil.{pick_of}
use Rattle.replay.specs.declared.aim.Aim.{Aim}

abbrev pub aim_at : ℕ → ℕ → Aim
aim_at part at = record { part = part; at = at }

-- one of a part's n elements; where there is none, the first of part 1
abbrev pub aim_of : ℕ → ℕ → ℕ → Aim
aim_of turn part n = cond (eqb n 0) (aim_at 1 0) (aim_at part (pick_of turn n))

-- in turns the number of part 1 and one of part 2's n elements
abbrev pub aim_in_two : ℕ → ℕ → Aim
aim_in_two turn n = cond (eqb (turn % 2) 0) (aim_of turn 1 1) (aim_of (turn / 2) 2 n)

-- the element of a part, where one of its elements is aimed at
abbrev pub aimed_at : Option Aim → ℕ → Option ℕ
aimed_at None part = None
aimed_at (Some a) part = cond (eqb a.part part) (Some a.at) None

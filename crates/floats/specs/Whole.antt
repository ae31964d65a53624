-- The two ways to a whole number: `floor`, the greatest one that is not above x, and `round_away`, Rust's `round`,
-- the nearest one, a tie away from zero. The sign of x stays, also where the whole number is 0. Infinities and NaN come back as they are.
-- The magnitude of x is the fraction m * up e / down e.
use Rattle.std.specs.Prelude.{ℕ, ◌+◌, ◌-◌, ◌*◌, ◌/◌, cond, Float}
use Rattle.std.specs.Float.{nan, inf, fin, Format}
use Rattle.std.specs.Float.Ieee.{round, up, down}

-- a / c as a whole number, up where it is none
abbrev pub ceiling : ℕ → ℕ → ℕ
ceiling a c = (a + (c - 1)) / c

-- the whole number nearest to a / c, a tie up
abbrev pub half_up : ℕ → ℕ → ℕ
half_up a c = (2 * a + c) / (2 * c)

-- below zero the greatest whole number that is not above x has the greater magnitude
unfoldable pub floor : Format → Float → Float
unfolding round
floor f nan = nan
floor f (inf s) = inf s
floor f (fin s m e) = round f s (cond s (ceiling (m * up e) (down e)) (m * up e / down e)) 1

unfoldable pub round_away : Format → Float → Float
unfolding round
round_away f nan = nan
round_away f (inf s) = inf s
round_away f (fin s m e) = round f s (half_up (m * up e) (down e)) 1

-- A float at another format, Rust's `as` between f64 and f32: the value of the format f nearest to x, a tie to the even one.
-- Beyond the format's range it is an infinity, and a zero keeps its sign: both are `lib.Ieee.round`'s.
use Rattle.std.specs.Prelude.{◌*◌}
use lib.Ieee.{Float, nan, inf, fin, Format, round, up, down}

unfoldable pub convert : Format → Float → Float
unfolding round
convert f nan = nan
convert f (inf s) = inf s
convert f (fin s m e) = round f s (m * up e) (down e)

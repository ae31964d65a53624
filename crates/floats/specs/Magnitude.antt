-- The magnitude of a float, Rust's `abs`: the sign is cleared, of a zero and an infinity too. A NaN stays one.
-- That a float is finite is `lib.Ieee.Scale.finite`.
use Rattle.std.specs.Prelude.{false}
use lib.Ieee.{Float, nan, inf, fin}

unfoldable pub magnitude : Float → Float
magnitude nan = nan
magnitude (inf s) = inf false
magnitude (fin s m e) = fin false m e

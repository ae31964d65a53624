-- In exact numbers: a corner that is tied to a place has finite coordinates, and its exact squared distance from the place is at most limit · (1 + 2 ^ -20), for a
-- limit of 2 ^ -100 or more. Every number of a lent list is one of binary32 (`Held`).
use Rattle.std.specs.Prelude.{◌≡◌, true, false, List, ℕ, ◌+◌, ◌*◌, ◌<◌, T, negsuc, get_or, Float}
use Rattle.std.specs.Float.{fin, binary32}
use Rattle.std.specs.Float.Ieee.{fits, le}
use Rattle.std.specs.Float.Ieee.Positive.{num, den}
use Rattle.shapes.specs.Numbers.{entry}
use Rattle.exact_distance.specs.Exact.{Number, AtMost}
use Rattle.board.specs.Call.{inner_corners, tied, way_of}

abbrev pub Held : List Float → Type 0
Held list = (i : ℕ) → T (fits binary32 (entry list i))

abbrev pub TiedExactly : ℕ → ℕ → List Float → Float → List Float → ℕ → Type 0
TiedExactly rows columns places limit list room =
    (found : List ℕ) → way_of rows columns places limit list room ≡ tied found
    → Held places → Held list → T (fits binary32 limit) → le (fin false 1 (negsuc 99)) limit ≡ true
    → (k : ℕ) → k < inner_corners rows columns
    → let px = entry places (2 * k) in
    let py = entry places (2 * k + 1) in
    let x = entry list (3 * get_or found k 0) in
    let y = entry list (3 * get_or found k 0 + 1) in
    Number x × Number y × AtMost 20 px py x y (num limit) (den limit)

-- The exported calls that refine a list with a second try: the number of the answer, and the count of records written, which a refusal leaves.
use Rattle.std.specs.Prelude.{◌≡◌, List, ℕ, Float}
use Rattle.refine_fallback.specs.Call.{Way, answer_of, out_after, passes_after}
use Rattle.chess_corners.specs.Told.{number_of, count_after}

pub record Retrying (way : Way) (out : List Float) (passes : List ℕ) (count : ℕ) (number : ℕ) (out' : List Float) (passes' : List ℕ) (count' : ℕ) : Type 0 where
  pub says : number ≡ number_of (answer_of way)
  pub leaves : out' ≡ out_after out way
  pub marks : passes' ≡ passes_after passes way
  pub counts : count' ≡ count_after count (answer_of way)

-- What the steps of the call ask of each other.
use Rattle.std.specs.Prelude.{◌≡◌, List, ℕ, ◌*◌, ◌/◌, ◌≤◌, length, Float}

-- what the tests leave to n places
pub record Fitting (places list : List Float) (n : ℕ) : Type 0 where
  pub two_each : length places ≡ 2 * n
  -- as many as the largest board has
  pub few_places : n ≤ 961
  pub few_corners : length list / 3 ≤ 4096

-- What a line that was put together promises.
use Rattle.std.specs.Prelude.{◌≡◌, List, ℕ, take}
use Rattle.io.specs.Counts.{IsPrefixLen}

-- a line is the first n bytes of a buffer
pub record Written (line : List ℕ) (n : ℕ) (text : List ℕ) : Type 0 where
  pub counts : IsPrefixLen n text
  pub stands : take n text ≡ line

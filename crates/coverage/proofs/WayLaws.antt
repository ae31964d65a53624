-- The tests of a call one after the other.
use mathlib.Core.Path.{◌≡◌, ap, ◌∙◌}
use mathlib.Core.Bool.{Bool, true, not, cond}
use Prim.Native.Nat.{ℕ, ◌≤◌, ◌<◌}
use lib.Dec.{ltb}
use borrow.Author.Tests.{lt-ltb, le-ltb}
use Rattle.corners.specs.Corners.{most_corners}
use Rattle.imageview.specs.Image.{is_size}
use Rattle.refusals.specs.declared.Refusal.TheVariants.{BadImage, TooMany, NoSuchCorner}
use Rattle.coverage.specs.Call.{Way, refused, tested, in_list}

-- ---- the tests of every call
module _ (w h n : ℕ) (rest : Way) where
  sized-is : is_size w h ≡ true → tested w h n rest ≡ cond (ltb most_corners n) (refused TooMany) rest
  sized-is e = ap (λ (b : Bool). cond (not b) (refused BadImage) (cond (ltb most_corners n) (refused TooMany) rest)) e

  pub many : is_size w h ≡ true → most_corners < n → tested w h n rest ≡ refused TooMany
  many e l = sized-is e ∙ ap (λ (b : Bool). cond b (refused TooMany) rest) (lt-ltb most_corners n l)

  pub few : is_size w h ≡ true → n ≤ most_corners → tested w h n rest ≡ rest
  few e l = sized-is e ∙ ap (λ (b : Bool). cond b (refused TooMany) rest) (le-ltb most_corners n l)

-- ---- of the calls that take a number
pub unlisted : (k n : ℕ) (rest : Way) → n ≤ k → in_list k n rest ≡ refused NoSuchCorner
unlisted k n rest l = ap (λ (b : Bool). cond b rest (refused NoSuchCorner)) (le-ltb k n l)

pub listed : (k n : ℕ) (rest : Way) → k < n → in_list k n rest ≡ rest
listed k n rest l = ap (λ (b : Bool). cond b rest (refused NoSuchCorner)) (lt-ltb k n l)

-- The patch's test along one axis: a centre that has too few pixels before it.
use mathlib.Core.Path.{◌≡◌, sym, ap}
use mathlib.Core.Bool.{Bool, false, ◌&&◌}
use Prim.Native.Nat.{ℕ, ◌+◌, ◌<◌}
use lib.Dec.{ltb}
use lib.IntN.{pos}
use borrow.Author.Tests.{lt-leb}
use Rattle.imageview.specs.Patch.{inside}

pub before : (radius n c : ℕ) → c < radius → false ≡ inside radius n (pos c)
before radius n c h = sym (ap (λ (b : Bool). b && ltb (c + radius) n) (lt-leb radius c h))

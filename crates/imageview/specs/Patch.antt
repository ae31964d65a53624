-- The square patch about a pixel: when it lies in an image.
use Rattle.std.specs.Prelude.{Bool, false, ◌&&◌, ℕ, ◌+◌, leb, ltb, ℤ, pos, negsuc}
use Rattle.imageview.specs.Image.{Image}

-- a centre with radius pixels on both sides along an axis of n
abbrev pub inside : ℕ → ℕ → ℤ → Bool
inside radius n (pos c) = leb radius c && ltb (c + radius) n
inside radius n (negsuc c) = false

unfoldable pub supports_patch : Image → ℕ → ℤ → ℤ → Bool
supports_patch img radius x y = inside radius img.width x && inside radius img.height y

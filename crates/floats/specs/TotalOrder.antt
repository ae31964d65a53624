-- The order that Rust's `total_cmp` gives on magnitudes: finite values by size, above them infinity, above that a NaN, of which there is one.
use Rattle.std.specs.Prelude.{◌*◌, Float}
use Rattle.std.specs.declared.cmp.Ordering.{Ordering}
use Rattle.std.specs.declared.cmp.Ordering.TheVariants.{Less, Equal, Greater}
use Prim.Native.Nat.{compare}
use Prim.Native.Nat as Nat
use Rattle.std.specs.Float.{nan, inf, fin}
use Rattle.std.specs.Float.Ieee.{up, down}

abbrev pub as_order : Nat.Ordering → Ordering
as_order Nat.Ordering.lt = Less
as_order Nat.Ordering.eq = Equal
as_order Nat.Ordering.gt = Greater

unfoldable pub total_cmp : Float → Float → Ordering
total_cmp nan nan = Equal
total_cmp nan (inf t) = Greater
total_cmp nan (fin t n d) = Greater
total_cmp (inf s) nan = Less
total_cmp (inf s) (inf t) = Equal
total_cmp (inf s) (fin t n d) = Greater
total_cmp (fin s m e) nan = Less
total_cmp (fin s m e) (inf t) = Less
total_cmp (fin s m e) (fin t n d) = as_order (compare (m * up e * down d) (n * up d * down e))

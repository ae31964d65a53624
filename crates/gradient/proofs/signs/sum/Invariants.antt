-- The sum is that of the first k samples, at most 255 each.
use mathlib.Core.Path.{◌≡◌}
use Prim.Native.Nat.{◌+◌, ◌*◌, ◌≤◌}
use Rattle.pixel_response.specs.Samples.{total}
use Rattle.pixel_response.specs.Steps.{listed}
use Rattle.gradient.proofs.signs.sum.Given as goal

abbrev pub invariant-loop-k : goal.invariant-loop-k
invariant-loop-k l = record { is : l.sum ≡ total l.k (λ j. listed l.samples (l.from + j)); most : l.sum ≤ 255 * l.k }

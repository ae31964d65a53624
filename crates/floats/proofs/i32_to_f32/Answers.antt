-- `floats::i32_to_f32` meets its contract, which is that of the function it calls, of the integer that its bits are.
use Rattle.std.proofs.Common.{ℤ, ap, ◌∙◌, w32}
use lib.Ieee.{binary32, of_int}
use mir.ValLaws.{to_z-of_z}
use Rattle.floats.proofs.i32_to_f32.Goals as goal

pub returns : goal.returns
returns c = c.nearest_i32_to_f32.ensures ∙ ap (λ (z : ℤ). of_int binary32 z) (to_z-of_z w32 c.args.n c.ranges.n)

-- `pixel_response::pixel::value_of` meets its contract: the code's operations are the definition's, in its order.
use mathlib.Core.Path.{ap}
use lib.IntN.{pos}
use lib.Ieee.{Float, binary32, of_bits, of_int, sub, mul}
use Rattle.pixel_response.specs.Samples.{value_of, sixteen}
use Rattle.pixel_response.proofs.pixel.value_of.Goals as goal

pub returns : goal.returns
unfolding value_of of_bits
returns c =
    let a = c.args in
    ap (λ (z : Float). sub binary32 (sub binary32 (of_int binary32 (pos a.square)) (of_int binary32 (pos a.edge))) (mul binary32 sixteen z)) c.magnitude_f32-means.ensures

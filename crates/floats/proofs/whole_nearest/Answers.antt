-- `floats::whole_nearest` meets its contract: a whole number that is not above 2 ^ 23 is a float exactly.
use Rattle.std.proofs.Common.{arith}
use lib.Ieee.{binary32}
use Rattle.floats.proofs.PartLaws.{in-float}
use Rattle.floats.proofs.whole_nearest.Goals as goal

pub number_nearest-requires : goal.number_nearest-requires
number_nearest-requires c = record { above_zero = c.requires.above_zero; with_fractions = c.requires.with_fractions }

pub int_to_float-result : goal.int_to_float-result
int_to_float-result c = in-float binary32 _ (omega (arith, c.number_nearest.ensures.exact))

pub returns : goal.returns
returns c = c.number_nearest.ensures.nearest

-- `floats::nearest_even` meets its contract: one division, by `closest-even`.
use Rattle.std.proofs.Common.{sym}
use Rattle.floats.proofs.NarrowLaws.{closest-even}
use Rattle.floats.proofs.nearest_even.Goals as goal

pub returns : goal.returns
returns c = sym (closest-even c.args.n c.args.half c.requires.some)

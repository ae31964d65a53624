-- `refine_list::seeds::Seeds::spot` meets its contract.
use Rattle.refine_list.proofs.ListLaws.{spot-lent}
use Rattle.refine_list.proofs.seeds.Seeds.spot.Goals as goal

pub returns-clause-value : goal.returns-clause-value
returns-clause-value g c =
    let s = c.args.self.now in
    spot-lent c.args.image.now s.cfg s.columns.numbers.now s.corners.now c.args.i c.spot_with.result c.spot_with.ensures

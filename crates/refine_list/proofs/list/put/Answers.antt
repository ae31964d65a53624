-- `refine_list::list::put` meets its contract: a corner written behind the others, or none.
use Rattle.refine_list.proofs.ListLaws.{puts, puts_none}
use Rattle.refine_list.proofs.list.put.Goals as goal

pub returns-in-Some : goal.returns-in-Some
returns-in-Some c =
    let a = c.args in
    let both = puts a.out.now a.written a.spot c.in-Some.at a.strength c.put.new.list c.in-Some.is c.requires c.put.ensures in
    record { value = both.0; out_after = both.1 }

pub returns-in-None : goal.returns-in-None
returns-in-None c =
    let a = c.args in
    let both = puts_none a.out.now a.written a.spot a.strength c.in-None.is in
    record { value = both.0; out_after = both.1 }

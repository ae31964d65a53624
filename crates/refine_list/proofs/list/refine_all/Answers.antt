-- `refine_list::list::refine_all` meets its contract.
use Rattle.std.proofs.Common.{◌∙◌}
use Rattle.refine_list.specs.Refining.{spot_for}
use Rattle.refine_list.proofs.ListLaws.{begins, goes_on, lent-is}
use Rattle.refine_list.proofs.list.refine_all.Goals as goal

pub loop-i-init : goal.loop-i-init
loop-i-init g c =
    let s = c.args.seeds.now in
    let img = c.args.image.now in
    record { going = begins (spot_for img s.cfg s.corners.now) s.corners.now c.args.out.now; held = c.no_fits-held.ensures img }

pub loop-i-preserved : goal.loop-i-preserved
loop-i-preserved g c =
    let s = c.args.seeds.now in
    let l = c.loop-i in
    let p = c.spot-spot in
    let img = c.args.image.now in
    record {
      going =
          goes_on (spot_for img s.cfg s.corners.now) s.corners.now c.args.out.now l.i l.written l.out l.invariant.going p.result (p.ensures.value ∙ lent-is img s.cfg s.columns.numbers.now s.corners.now l.i c.requires.usable)
          c.put-written.result c.put-written.new.out c.put-written.ensures.value c.put-written.ensures.out_after;
      held = p.ensures.held;
    }

-- `refine_fallback::walk::refine_both` meets its contract.
use Rattle.std.proofs.Common.{ap, ◌∙◌, ℕ, arith}
use Rattle.std.specs.Prelude.{Option}
use Rattle.refine_seed.specs.declared.Spot.{Spot}
use Rattle.refine_list.specs.Seeds.{lent_spot}
use Rattle.refine_list.proofs.ListLaws.{begins, goes_on}
use Rattle.refine_fallback.specs.Call.{either, pass_of}
use Rattle.refine_fallback.proofs.WalkLaws.{unmarked, marked, walked}
use Rattle.refine_fallback.proofs.walk.refine_both.Goals as goal

pub loop-i-init : goal.loop-i-init
loop-i-init g c =
    let one = lent_spot c.args.image.now c.args.first.now in
    let two = lent_spot c.args.image.now c.args.second.now in
    record {
      going = begins (λ (k : ℕ). either (one k) (two k)) c.args.first.now.corners.now c.args.out.now;
      marking = unmarked one two c.args.passes.now;
      first_held = c.no_fits-first_fits.ensures c.args.image.now;
      second_held = c.no_fits-second_fits.ensures c.args.image.now;
    }

pub loop-i-preserved : goal.loop-i-preserved
loop-i-preserved g c =
    let one = lent_spot c.args.image.now c.args.first.now in
    let two = lent_spot c.args.image.now c.args.second.now in
    let l = c.loop-i in
    let t = c.try_again-tried in
    let e = c.spot-spot.ensures in
    record {
      going =
          goes_on (λ (k : ℕ). either (one k) (two k)) c.args.first.now.corners.now c.args.out.now l.i l.written l.out l.invariant.going t.result.spot (t.ensures.tries.is ∙ ap (λ (v : Option Spot). either v (two l.i)) e.value)
          c.put-written.result c.put-written.new.out c.put-written.ensures.value c.put-written.ensures.out_after;
      marking =
          marked one two c.args.passes.now l.i l.count l.passes l.invariant.marking t.result.spot t.result.pass (t.ensures.tries.byte ∙ ap (λ (v : Option Spot). pass_of v (two l.i)) e.value)
          c.put_pass-count.result c.put_pass-count.new.passes c.put_pass-count.ensures.value c.put_pass-count.ensures.passes_after;
      first_held = e.held;
      second_held = t.ensures.held;
    }

pub returns : goal.returns
returns g c =
    let l = c.loop-i in
    walked (lent_spot c.args.image.now c.args.first.now) (lent_spot c.args.image.now c.args.second.now) c.args.first.now.corners.now c.args.out.now c.args.passes.now l.i l.written l.count l.out l.passes l.invariant.going l.invariant.marking (omega (arith, l.auto.i-end, c.loop-i-test.false))

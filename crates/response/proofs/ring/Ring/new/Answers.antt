-- A radius that passed and components within it: every offset is around ten.
use Rattle.std.proofs.Common.{sym}
use Rattle.response.proofs.RingLaws.{around, within-ten}
use Rattle.response.proofs.CallLaws.{radius-passed, radius-good}
use Rattle.response.proofs.ring.Ring.new.Goals as goal

pub offsets_of-requires : goal.offsets_of-requires
offsets_of-requires c =
    let r = radius-good c.args.radius (radius-passed c.args.radius c.if-radius.false) in
    within-ten c.args.radius c.args.ring.now r.1 (sym c.if-not-is_within.ensures)

pub invariant_of-result : goal.invariant_of-result
invariant_of-result c =
    let r = radius-good c.args.radius (radius-passed c.args.radius c.if-radius.false) in
    record { radius_most = r.1; around = around c.args.ring.now c.offsets_of.result c.args.radius c.offsets_of.ensures r.0 r.1 (sym c.if-not-is_within.ensures) }

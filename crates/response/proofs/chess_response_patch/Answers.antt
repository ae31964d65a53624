-- `response::chess_response_patch` meets its contract: one law for each way out.
use Rattle.std.proofs.Common.{sym}
use Rattle.std.proofs.lemmas.Result.{err_from_is_err_and}
use Rattle.imageview.specs.View.{shown}
use Rattle.response.specs.Call.{region_of}
use Rattle.response.proofs.CallLaws.{refused-image, refused-ring, empty, settled}
use Rattle.response.proofs.chess_response_patch.Goals as goal

pub returns-in_err-image : goal.returns-in_err-image
returns-in_err-image g c =
    let a = c.args in
    let p = err_from_is_err_and c.from_residual.result c.from_residual.ensures.1 in
    rw (p.1, p.2) (refused-image (shown g.S.Sample.levels g.S.Sample.deep a.view) a.ring.now a.radius (region_of a.roi) a.out.now _ c.in_err-image.ensures.refused)

pub returns-in_err-ring : goal.returns-in_err-ring
returns-in_err-ring g c =
    let a = c.args in
    let t = c.in_ok-image.ensures in
    let p = err_from_is_err_and c.from_residual-in_err-ring.result c.from_residual-in_err-ring.ensures.1 in
    rw (p.1, p.2, sym t.image) (refused-ring c.in_ok-image.image a.ring.now a.radius (region_of a.roi) a.out.now t.tested.image t.tested.range _ c.in_err-ring.ensures.refused)

pub returns-then-is_empty : goal.returns-then-is_empty
returns-then-is_empty g c =
    let a = c.args in
    let t = c.in_ok-image.ensures in
    let r = c.in_ok-ring.ensures in
    rw (sym t.image) (empty c.in_ok-image.image a.ring.now a.radius (region_of a.roi) a.out.now t.tested.image t.tested.range r.radius_fits r.within (sym c.if-is_empty.ensures))

pub returns : goal.returns
returns g c =
    let a = c.args in
    let t = c.in_ok-image.ensures in
    let r = c.in_ok-ring.ensures in
    rw (sym t.image) (settled c.in_ok-image.image a.ring.now a.radius (region_of a.roi) a.out.now t.tested.image t.tested.range r.radius_fits r.within
    c.in_ok-ring.ring.offsets c.write_clamped.result c.write_clamped.new.out r.offsets (sym c.if-is_empty.ensures) (rw r.radius at c.write_clamped.ensures))

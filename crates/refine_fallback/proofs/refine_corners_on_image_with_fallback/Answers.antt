-- `refine_fallback::refine_corners_on_image_with_fallback` meets its contract: by what the tests say, refused or walked with its own operators.
use Rattle.std.proofs.Common.{sym, ◌∙◌, subst, length}
use Rattle.std.specs.Prelude.{Ok}
use Rattle.std.proofs.lemmas.Result.{err_from_is_err_and}
use Rattle.imageview.specs.Image.{Image}
use Rattle.imageview.specs.View.{shown}
use Rattle.imageview.specs.Steps.{IsTested}
use Rattle.refine_list.specs.Refining.{spot_for}
use Rattle.refine_fallback.specs.Call.{way_of, Done}
use Rattle.refine_fallback.proofs.TestLaws.{second-ready, has_room, refuses-image, refuses, refines}
use Rattle.refine_fallback.proofs.refine_corners_on_image_with_fallback.Goals as goal

pub returns-in_err-image : goal.returns-in_err-image
returns-in_err-image g c =
    let a = c.args in
    let img = shown g.S.Sample.levels g.S.Sample.deep a.view in
    let p = err_from_is_err_and c.from_residual.result c.from_residual.ensures.1 in
    rw (p.1, p.2) (refuses-image (spot_for img a.first a.corners.now) (spot_for img a.second a.corners.now) img a.first a.second a.corners.now a.out.now a.passes.now _ c.in_err-image.ensures.refused)

pub returns-in_err-test : goal.returns-in_err-test
returns-in_err-test g c =
    let a = c.args in
    let t = c.in_ok-image.ensures in
    let r = c.from_residual-in_err-test in
    let img = shown g.S.Sample.levels g.S.Sample.deep a.view in
    let p = err_from_is_err_and r.result r.ensures.1 in
    rw (p.1, p.2)
    (refuses (spot_for img a.first a.corners.now) (spot_for img a.second a.corners.now) img a.first a.second a.corners.now a.out.now a.passes.now (subst IsTested t.image t.tested) c.in_err-test.field-0.0 (sym c.test.ensures ∙ c.in_err-test.was))

pub refine_both_own-requires-clause-room : goal.refine_both_own-requires-clause-room
refine_both_own-requires-clause-room g c = let a = c.args in (has_room a.first a.second (length a.corners.now) (length a.out.now) (length a.passes.now) (sym c.test.ensures ∙ c.in_ok-test.was)).0

pub refine_both_own-requires-clause-bytes : goal.refine_both_own-requires-clause-bytes
refine_both_own-requires-clause-bytes g c = let a = c.args in (has_room a.first a.second (length a.corners.now) (length a.out.now) (length a.passes.now) (sym c.test.ensures ∙ c.in_ok-test.was)).1

pub refine_both_own-requires-clause-second_ready : goal.refine_both_own-requires-clause-second_ready
refine_both_own-requires-clause-second_ready g c =
    let a = c.args in
    second-ready a.first a.second (length a.corners.now) (length a.out.now) (length a.passes.now) (sym c.test.ensures ∙ c.in_ok-test.was) c.in_ok-image.ensures.tested

pub returns : goal.returns
returns g c =
    let a = c.args in
    let t = c.in_ok-image.ensures in
    let img : Image = c.in_ok-image.image in
    let w = c.refine_both_own in
    subst (λ (z : Image). Done (way_of z a.first a.second a.corners.now (length a.out.now) (length a.passes.now)) a.out.now a.passes.now (Ok w.result) w.new.out w.new.passes) t.image
    (refines (spot_for img a.first a.corners.now) (spot_for img a.second a.corners.now) img a.first a.second a.corners.now a.out.now a.passes.now t.tested (sym c.test.ensures ∙ c.in_ok-test.was) w.result _ _ w.ensures)

-- `refine_fits::fits::fit_about` meets its contract: the four patches lie in the image, and what is written of them are the fits about the base.
use mathlib.Core.Path.{sym, ap, ◌∙◌, subst}
use Prim.Native.Nat.{ℕ, ◌≤◌}
use lib.ListN.{length}
use Rattle.imageview.specs.Image.{Image}
use Rattle.refine_patch.specs.StepsFrom.{coefficient_from, four_written}
use Rattle.refine_patch.specs.StepsFour.{lane_of, PatchesInside}
use Rattle.refine_fits.specs.StepsBases.{first_place}
use Rattle.refine_fits.proofs.BaseLaws.{from, inside-four, laid-about, firsts-are}
use Rattle.refine_fits.proofs.fits.fit_about.Goals as goal

pub first_place-at-requires-clause-pitch : goal.first_place-at-requires-clause-pitch
first_place-at-requires-clause-pitch g c =
    let v = c.view-view.ensures in
    subst (λ (p : ℕ). p ≤ 8192) (sym (ap (λ (i : Image). i.pitch) v.image)) v.measured.stands.pitch-most

pub fit_four-requires-clause-patches_inside : goal.fit_four-requires-clause-patches_inside
fit_four-requires-clause-patches_inside g c =
    let a = c.args in
    let img = a.image.now in
    let r = a.columns.now.radius in
    let at = c.first_place-at in
    let v = c.view-view in
    let is = at.ensures ∙ ap (λ (i : Image). first_place i.pitch r a.base.x a.base.y) v.ensures.image in
    subst (λ (n : ℕ). PatchesInside n v.result.pitch r (from at.result v.result.pitch)) (sym v.ensures.count)
    (subst (λ (p : ℕ). PatchesInside (length img.samples) p r (from at.result p)) (sym (ap (λ (i : Image). i.pitch) v.ensures.image)) (inside-four img r a.base.x a.base.y at.result c.requires.within is))

pub returns : goal.returns
returns g c =
    let a = c.args in
    let img = a.image.now in
    let s = a.columns.now in
    let at = c.first_place-at in
    let is = at.ensures ∙ ap (λ (i : Image). first_place i.pitch s.radius a.base.x a.base.y) c.view-view.ensures.image in
    laid-about img s.numbers.now s.radius a.base.x a.base.y a.to a.flat.now c.fit_four.new.out c.requires.within c.requires.low
    (c.fit_four.ensures
    ∙ ap (λ (v : Image). four_written (λ i l. coefficient_from v.samples v.pitch s.numbers.now s.radius (lane_of (from at.result v.pitch) l) i) a.to a.flat.now) c.view-view.ensures.image
    ∙ firsts-are img s.numbers.now s.radius a.base.x a.base.y at.result a.to a.flat.now is)

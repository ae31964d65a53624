-- `refine_list::seeds::Seeds::first_fits` meets its contract: no seed is refined where no patch fits, and else the four patches lie in the image.
use Rattle.std.proofs.Common.{sym, ap, ◌∙◌, subst, ℕ, ◌*◌, length}
use lib.Dec.{leb}
use borrow.Author.Tests.{leb-false}
use Rattle.shapes.proofs.TestLaws.{first-not, second-not}
use Rattle.imageview.specs.Image.{Image}
use Rattle.refine_patch.specs.declared.Firsts.{Firsts}
use Rattle.refine_patch.specs.StepsFrom.{coefficient_from, four_written}
use Rattle.refine_patch.specs.StepsFour.{lane_of, PatchesInside}
use Rattle.refine_list.proofs.FirstLaws.{or-same, too_small, all-reach, first_fits}
use Rattle.refine_list.proofs.seeds.Seeds.first_fits.Goals as goal

pub returns-then-width-most : goal.returns-then-width-most
returns-then-width-most g c =
    let s = c.args.self.now in
    too_small c.args.image.now s.cfg s.columns.numbers.now s.corners.now c.args.group c.args.flat.now c.requires.long (or-same (2 * s.cfg.radius) c.width.ensures.width c.height.ensures.height ∙ c.if-width-most.true)

pub fit_four-requires-clause-patches_inside : goal.fit_four-requires-clause-patches_inside
fit_four-requires-clause-patches_inside g c =
    let s = c.args.self.now in
    let img = c.args.image.now in
    let w = leb img.width (2 * s.cfg.radius) in
    let h = leb img.height (2 * s.cfg.radius) in
    let no = or-same (2 * s.cfg.radius) c.width.ensures.width c.height.ensures.height ∙ c.if-width-most.false in
    let at : Firsts = record { a = c.first_of.result; b = c.first_of-2.result; c = c.first_of-3.result; d = c.first_of-4.result } in
    let pitch = ap (λ (i : Image). i.pitch) c.view.ensures.image in
    subst (λ (n : ℕ). PatchesInside n c.view.result.pitch s.columns.radius at) (sym c.view.ensures.count)
    (subst (λ (p : ℕ). PatchesInside (length img.samples) p s.columns.radius at) (sym pitch)
    (subst (λ (r : ℕ). PatchesInside (length img.samples) img.pitch r at) (sym s.same_radius)
    (all-reach img s.cfg c.requires.ready (leb-false img.width (2 * s.cfg.radius) (first-not w h no)) (leb-false img.height (2 * s.cfg.radius) (second-not w h no)) s.corners.now at (4 * c.args.group) c.first_of.ensures c.first_of-2.ensures c.first_of-3.ensures c.first_of-4.ensures)))

pub returns : goal.returns
returns g c =
    let s = c.args.self.now in
    let img = c.args.image.now in
    let at : Firsts = record { a = c.first_of.result; b = c.first_of-2.result; c = c.first_of-3.result; d = c.first_of-4.result } in
    first_fits img s.cfg c.requires.ready s.columns.numbers.now s.corners.now c.args.group at c.args.flat.now c.fit_four.new.out
    (c.fit_four.ensures
    ∙ ap (λ (v : Image). four_written (λ k l. coefficient_from v.samples v.pitch s.columns.numbers.now s.columns.radius (lane_of at l) k) 0 c.args.flat.now) c.view.ensures.image
    ∙ ap (λ (r : ℕ). four_written (λ k l. coefficient_from img.samples img.pitch s.columns.numbers.now r (lane_of at l) k) 0 c.args.flat.now) s.same_radius)
    c.first_of.ensures c.first_of-2.ensures c.first_of-3.ensures c.first_of-4.ensures

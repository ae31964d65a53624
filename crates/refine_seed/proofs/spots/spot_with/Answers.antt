-- `refine_seed::spots::spot_with` meets its contract: a seed that passed its tests goes on, any other goes nowhere.
use Rattle.std.specs.Prelude.{Option, List, Bool, Float, ℕ, ◌≤◌}
use Rattle.imageview.specs.Image.{Image}
use Rattle.refine_fits.specs.StepsAdding.{PatchWithin}
use mathlib.Core.Path.{sym, ap, ◌∙◌, subst}
use Rattle.refine_seed.specs.declared.Spot.{Spot}
use Rattle.refine_seed.specs.Refine.{refine_lent}
use Rattle.refine_seed.specs.StepsSpot.{seed_alone, Lands}
use Rattle.refine_seed.proofs.EntryLaws.{alone, ready-sound, good-within}
use Rattle.refine_seed.proofs.SpotLaws.{lands_unplaced, lands_zero, lands_seed, was_placed}
use Rattle.refine_seed.proofs.spots.spot_with.Goals as goal

pub place_seed-requires : goal.place_seed-requires
place_seed-requires g c =
    let t = (ready-sound c.args.image.now c.args.cfg c.requires.ready).image.sized in
    subst (λ (v : Image). (v.width ≤ 4096) × (v.height ≤ 4096)) (sym c.view.ensures.image) (t.width-most, t.height-most)

pub returns-in_err-seed : goal.returns-in_err-seed
returns-in_err-seed g c =
    let a = c.args in
    subst (λ (r : Option Spot). Lands (λ (overlap : List Float) (wanted : Bool). refine_lent a.image.now a.cfg a.x a.y wanted a.columns.now.numbers.now overlap) r) (sym c.from_residual.ensures)
    (lands_unplaced a.image.now a.columns.now.numbers.now a.cfg a.x a.y c.place_seed.result (c.place_seed.ensures ∙ ap (λ (v : Image). seed_alone v.width v.height a.cfg.radius a.x a.y) c.view.ensures.image ∙ alone a.image.now a.cfg a.x a.y c.requires.ready) c.in_err-seed.ensures.value)

pub returns-then-cfg-eq0 : goal.returns-then-cfg-eq0
returns-then-cfg-eq0 g c =
    let a = c.args in
    let h = was_placed a.image.now a.cfg a.x a.y c.requires.ready _ _ (c.place_seed.ensures ∙ ap (λ (v : Image). seed_alone v.width v.height a.cfg.radius a.x a.y) c.view.ensures.image) c.in_ok-seed.ensures.value in
    lands_zero a.image.now a.columns.now.numbers.now a.cfg a.x a.y c.in_ok-seed.seed h c.if-cfg-eq0.true

pub spot_of_seed-requires-clause-within : goal.spot_of_seed-requires-clause-within
spot_of_seed-requires-clause-within g c =
    let a = c.args in
    let h = was_placed a.image.now a.cfg a.x a.y c.requires.ready _ _ (c.place_seed.ensures ∙ ap (λ (v : Image). seed_alone v.width v.height a.cfg.radius a.x a.y) c.view.ensures.image) c.in_ok-seed.ensures.value in
    subst (λ (r : ℕ). PatchWithin a.image.now r c.in_ok-seed.seed.centre_x c.in_ok-seed.seed.centre_y) (sym c.requires.radius)
    (good-within a.image.now a.cfg a.x a.y c.in_ok-seed.seed (sym h))

pub spot_of_seed-requires-clause-fitted : goal.spot_of_seed-requires-clause-fitted
spot_of_seed-requires-clause-fitted g c =
    let a = c.args in
    let h = was_placed a.image.now a.cfg a.x a.y c.requires.ready _ _ (c.place_seed.ensures ∙ ap (λ (v : Image). seed_alone v.width v.height a.cfg.radius a.x a.y) c.view.ensures.image) c.in_ok-seed.ensures.value in
    c.requires.fitted.is c.in_ok-seed.seed (sym h)

pub returns : goal.returns
returns g c =
    let a = c.args in
    let h = was_placed a.image.now a.cfg a.x a.y c.requires.ready _ _ (c.place_seed.ensures ∙ ap (λ (v : Image). seed_alone v.width v.height a.cfg.radius a.x a.y) c.view.ensures.image) c.in_ok-seed.ensures.value in
    lands_seed a.image.now a.columns.now.numbers.now a.cfg a.x a.y c.in_ok-seed.seed h c.if-cfg-eq0.false _ c.spot_of_seed.ensures

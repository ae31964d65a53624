-- `refine_seed::entry::admit` meets its contract: the seed's own tests are all that is left.
use Rattle.std.proofs.Common.{sym, ap, ◌∙◌, subst, ◌≤◌}
use Rattle.imageview.specs.Image.{Image}
use Rattle.refine_seed.specs.StepsSpot.{seed_alone}
use Rattle.refine_seed.proofs.EntryLaws.{alone_is}
use Rattle.refine_seed.proofs.entry.admit.Goals as goal

pub place_seed-requires : goal.place_seed-requires
place_seed-requires g c =
    let t = c.requires.tested.stands.sized in
    subst (λ (v : Image). (v.width ≤ 4096) × (v.height ≤ 4096)) (sym c.view.ensures.image) (t.width-most, t.height-most)

pub returns : goal.returns
returns g c =
    let a = c.args in
    let t = c.requires.tested in
    c.place_seed.ensures
    ∙ ap (λ (v : Image). seed_alone v.width v.height a.cfg.radius a.x a.y) c.view.ensures.image
    ∙ alone_is a.image.now a.cfg a.x a.y t.image t.range c.if-cfg-gt7.false (sym c.good_limits.ensures ∙ c.if-not-good_limits.false)

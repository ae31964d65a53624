-- `refine_list::seeds::Seeds::first_of` meets its contract: an image that was tested has few columns and rows.
use Rattle.std.proofs.Common.{sym, subst, ◌≤◌}
use Rattle.imageview.specs.Image.{Image}
use Rattle.refine_seed.proofs.EntryLaws.{ready-sound}
use Rattle.refine_list.proofs.seeds.Seeds.first_of.Goals as goal

pub first_place-requires : goal.first_place-requires
first_place-requires g c =
    let s = c.args.self.now in
    let t = (ready-sound c.args.image.now s.cfg c.requires.ready).image in
    subst (λ (v : Image). (v.width ≤ 4096) × (v.height ≤ 4096) × (v.pitch ≤ 8192)) (sym c.view.ensures.image) (t.sized.width-most, t.sized.height-most, t.pitch-most)

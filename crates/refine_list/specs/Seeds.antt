-- One seed of a list, with columns that are lent: where it is refined to, and the first fits that are held for its group.
use Rattle.std.specs.Prelude.{ℕ, Option}
use Rattle.imageview.specs.Image.{Image}
use Rattle.refine_seed.specs.declared.Spot.{Spot}
use Rattle.refine_list.specs.declared.seeds.Seeds.{Seeds}
use Rattle.refine_list.specs.declared.seeds.GroupFits.{GroupFits}
use Rattle.refine_list.specs.Refining.{lent_for}
use Rattle.refine_list.specs.Steps.{Held}

abbrev pub lent_spot : Image → Seeds → ℕ → Option Spot
lent_spot img s = lent_for img s.cfg s.columns.numbers.now s.corners.now

-- the first fits that are held, those of a group of the list
abbrev pub Holds : Image → Seeds → GroupFits → Type 0
Holds img s f = Held img s.cfg s.columns.numbers.now s.corners.now f.group f.flat

-- none are, whatever the image
abbrev pub NoneHeld : Seeds → GroupFits → Type 0
NoneHeld s f = (img : Image) → Holds img s f

-- `refine_fits::Bases::ready_with` meets its contract: without room there are no four fits, and with room all four patches lie in the image.
use mathlib.Core.Path.{sym, ap, ◌∙◌}
use Rattle.refine_fits.specs.StepsBases.{corners_about}
use Rattle.refine_fits.proofs.CacheLaws.{lacks, roomy}
use Rattle.refine_fits.proofs.Bases.ready_with.Goals as goal

pub returns-then-not-has_room-clause-stands : goal.returns-then-not-has_room-clause-stands
returns-then-not-has_room-clause-stands g c =
    let a = c.args in
    let s = a.columns.now in
    let b = c.in_ok-base in
    record {
      is = ap (corners_about a.image.now s.numbers.now s.radius) (b.was) ∙ lacks a.image.now s.numbers.now s.radius b.base.x b.base.y (sym c.has_room.ensures.room ∙ c.if-not-has_room.true);
      held = c.requires.held;
      low = tt;
    }

pub add-requires-clause-within : goal.add-requires-clause-within
add-requires-clause-within g c =
    let a = c.args in
    let s = a.columns.now in
    let b = c.in_ok-base.base in
    roomy a.image.now s.numbers.now s.radius b.x b.y (record { image = c.has_room.ensures.measured.stands; small = c.requires.small }) (sym c.has_room.ensures.room ∙ c.if-not-has_room.false)

-- `refine_fits::IntegerFits::find` meets its contract: a kept fit is the fresh one, and a fresh one is kept.
use mathlib.Core.Path.{◌∙◌}
use Rattle.refine_fits.proofs.CacheLaws.{hit, stored, kept-stored}
use Rattle.refine_fits.proofs.IntegerFits.find.Goals as goal

pub returns-in-Some-clause-coefs : goal.returns-in-Some-clause-coefs
returns-in-Some-clause-coefs g c =
    let a = c.args in
    c.fit_in.ensures ∙ hit a.image.now a.columns.now.numbers.now a.columns.now.radius a.x a.y c.in-Some.slot a.self.now c.requires.kept c.in-Some.ensures

pub returns-clause-kept : goal.returns-clause-kept
returns-clause-kept g c =
    let a = c.args in
    let coefs = c.fit_patch-coefs in
    kept-stored a.image.now a.columns.now.numbers.now a.columns.now.radius a.x a.y coefs.result a.self.now _ c.requires.kept coefs.ensures
    (stored a.self.now a.x a.y c.one_more-self.result coefs.result c.name_slot.new.centres c.fill_slot.new.coefs c.requires.kept.sized c.one_more-self.ensures c.name_slot.ensures c.fill_slot.ensures)

-- `refine_fits::IntegerFits::lay` meets its contract: the four fits that were looked up are laid last.
use mathlib.Core.Path.{sym, ◌∙◌, ap}
use Prim.Native.Nat.{ℕ}
use lib.IntN.{pos}
use Rattle.refine_fits.specs.Windows.{corners_at}
use Rattle.refine_fits.proofs.BaseLaws.{laid_kept}
use Rattle.refine_fits.proofs.IntegerFits.lay.Goals as goal

pub returns-clause-laid : goal.returns-clause-laid
returns-clause-laid g c =
    let a = c.args in
    let s = a.columns.now in
    laid_kept a.image.now s.numbers.now s.radius a.base.x a.base.y a.flat.now _ c.look-corners.result c.requires.within
    (ap (λ (n : ℕ). corners_at a.image.now s.numbers.now s.radius (pos n) (pos a.base.y)) (sym c.from.ensures)
    ∙ ap (λ (n : ℕ). corners_at a.image.now s.numbers.now s.radius (pos c.from.result) (pos n)) (sym c.from-2.ensures)
    ∙ c.look-corners.ensures.corners)
    c.lay_four.ensures

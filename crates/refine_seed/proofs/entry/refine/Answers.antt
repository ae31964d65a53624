-- `refine_seed::entry::refine` meets its contract: what the tests say decides the answer.
use mathlib.Core.Path.{◌≡◌, sym, ◌∙◌, subst}
use Rattle.imageview.specs.Image.{Image}
use Rattle.refine_seed.specs.Refine.{refine_of}
use Rattle.refine_seed.proofs.EntryLaws.{err_is, good-within}
use Rattle.refine_seed.proofs.ColumnLaws.{own_refused, own_unadmitted, own_unopened, own_closed}
use Rattle.refine_seed.proofs.entry.refine.Goals as goal

pub returns-in_err-image : goal.returns-in_err-image
returns-in_err-image g c = err_is _ _ c.from_residual.ensures.1 ∙ sym (own_refused _ c.args.cfg c.args.x c.args.y c.args.wanted _ c.in_err-image.ensures.answer)

pub returns-in_err-seed : goal.returns-in_err-seed
returns-in_err-seed g c =
    let a = c.args in
    subst (λ (v : Image). c.from_residual-in_err-seed.result ≡ refine_of v a.cfg a.x a.y a.wanted) c.in_ok-image.ensures.image
    (err_is _ _ c.from_residual-in_err-seed.ensures.1 ∙ sym (own_unadmitted _ a.cfg a.x a.y a.wanted _ c.in_err-seed.ensures))

pub open_fresh-requires : goal.open_fresh-requires
open_fresh-requires g c = good-within _ c.args.cfg c.args.x c.args.y _ (sym c.in_ok-seed.ensures)

pub returns-in_err-opened : goal.returns-in_err-opened
returns-in_err-opened g c =
    let a = c.args in
    subst (λ (v : Image). c.from_residual-in_err-opened.result ≡ refine_of v a.cfg a.x a.y a.wanted) c.in_ok-image.ensures.image
    (err_is _ _ c.from_residual-in_err-opened.ensures.1 ∙ sym (own_unopened _ a.cfg a.x a.y a.wanted _ c.in_ok-seed.ensures _ c.in_err-opened.ensures))

pub returns : goal.returns
returns g c =
    let a = c.args in
    subst (λ (v : Image). c.close_fresh.result ≡ refine_of v a.cfg a.x a.y a.wanted) c.in_ok-image.ensures.image (own_closed _ a.cfg a.x a.y a.wanted _ c.in_ok-seed.ensures _ _ c.in_ok-opened.ensures c.close_fresh.ensures)

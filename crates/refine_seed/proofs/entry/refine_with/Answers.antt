-- `refine_seed::entry::refine_with` meets its contract: what the tests say decides the answer.
use mathlib.Core.Path.{◌≡◌, sym, ◌∙◌, subst}
use lib.Ieee.{of_bits}
use Rattle.std.specs.Prelude.{Ok, Err}
use Rattle.imageview.specs.Image.{Image}
use Rattle.refine_seed.specs.declared.Why.TheVariants.{IllConditioned}
use Rattle.refine_seed.specs.Refine.{unmoved, refine_lent}
use Rattle.refine_seed.proofs.EntryLaws.{err_is, good-within}
use Rattle.refine_seed.proofs.ColumnLaws.{lent_refused, lent_unadmitted, lent_none, lent_unopened, lent_closed}
use Rattle.refine_seed.proofs.entry.refine_with.Goals as goal

pub returns-in_err-image : goal.returns-in_err-image
returns-in_err-image g c =
    let a = c.args in
    err_is _ _ c.from_residual.ensures.1 ∙ sym (lent_refused _ a.cfg a.x a.y a.wanted a.columns.now a.overlap.now _ c.in_err-image.ensures.answer)

pub returns-in_err-seed : goal.returns-in_err-seed
returns-in_err-seed g c =
    let a = c.args in
    subst (λ (v : Image). c.from_residual-in_err-seed.result ≡ refine_lent v a.cfg a.x a.y a.wanted a.columns.now a.overlap.now) c.in_ok-image.ensures.image
    (err_is _ _ c.from_residual-in_err-seed.ensures.1 ∙ sym (lent_unadmitted _ a.cfg a.x a.y a.wanted a.columns.now a.overlap.now _ c.in_err-seed.ensures))

pub returns-then-cfg-eq0 : goal.returns-then-cfg-eq0
unfolding of_bits
returns-then-cfg-eq0 g c =
    let a = c.args in
    subst (λ (v : Image). Err (unmoved IllConditioned) ≡ refine_lent v a.cfg a.x a.y a.wanted a.columns.now a.overlap.now) c.in_ok-image.ensures.image
    (lent_none _ a.cfg a.x a.y a.wanted a.columns.now a.overlap.now _ c.in_ok-seed.ensures c.if-cfg-eq0.true)

pub open_seed-requires : goal.open_seed-requires
open_seed-requires g c = good-within _ c.args.cfg c.args.x c.args.y _ (sym c.in_ok-seed.ensures)

pub returns-in_err-opened : goal.returns-in_err-opened
returns-in_err-opened g c =
    let a = c.args in
    subst (λ (v : Image). c.from_residual-in_err-opened.result ≡ refine_lent v a.cfg a.x a.y a.wanted a.columns.now a.overlap.now) c.in_ok-image.ensures.image
    (err_is _ _ c.from_residual-in_err-opened.ensures.1 ∙ sym (lent_unopened _ a.cfg a.x a.y a.wanted a.columns.now a.overlap.now _ c.in_ok-seed.ensures c.if-cfg-eq0.false _ c.in_err-opened.ensures))

pub returns : goal.returns
returns g c =
    let a = c.args in
    subst (λ (v : Image). Ok c.closed.result ≡ refine_lent v a.cfg a.x a.y a.wanted a.columns.now a.overlap.now) c.in_ok-image.ensures.image
    (lent_closed _ a.cfg a.x a.y a.wanted a.columns.now a.overlap.now _ c.in_ok-seed.ensures c.if-cfg-eq0.false _ _ c.in_ok-opened.ensures c.closed.ensures)

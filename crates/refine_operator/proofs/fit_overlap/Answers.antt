-- `refine_operator::fit_overlap` meets its contract: each answer is the end of its way.
use Rattle.std.proofs.Common.{rules, ◌≡◌, sym, subst, Result, Err}
use Rattle.refine_operator.specs.declared.OperatorError.{OperatorError}
use Rattle.refine_operator.specs.declared.OperatorError.TheVariants.{Singular}
use Rattle.refine_operator.specs.Call.{OverlapDone}
use Rattle.refine_operator.proofs.CallLaws.{overlap-bad, overlap-singular, overlap-built}
use Rattle.refine_operator.proofs.fit_overlap.Goals as goal

pub returns-then-radius-gt7 : goal.returns-then-radius-gt7
returns-then-radius-gt7 c = overlap-bad c.args.radius c.args.overlap.now c.if-radius-gt7.true

pub returns-in_err-inverse_of : goal.returns-in_err-inverse_of
returns-in_err-inverse_of c =
    let a = c.args in
    let r = c.inverse_of in
    let same : c.from_residual.result ≡ Err Singular = search rules in
    subst (λ (x : Result Unit OperatorError). OverlapDone a.radius a.overlap.now x a.overlap.now) (sym same) (overlap-singular a.radius _ r.result c.if-radius-gt7.false r.ensures a.overlap.now c.in_err-inverse_of.field-0.0 c.in_err-inverse_of.was)

pub returns : goal.returns
returns c =
    let a = c.args in
    overlap-built a.radius _ c.inverse_of.result c.if-radius-gt7.false c.inverse_of.ensures a.overlap.now _ c.in_ok-inverse_of.was c.fill_overlap.ensures

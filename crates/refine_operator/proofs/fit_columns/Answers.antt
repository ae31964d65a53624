-- `refine_operator::fit_columns` meets its contract: each answer is the end of its way.
use Rattle.std.proofs.Common.{rules, ◌≡◌, sym, subst, Result, Err}
use Rattle.refine_operator.specs.declared.OperatorError.{OperatorError}
use Rattle.refine_operator.specs.declared.OperatorError.TheVariants.{Singular}
use Rattle.refine_operator.specs.Call.{ColumnsDone}
use Rattle.refine_operator.proofs.CallLaws.{columns-bad, columns-singular, columns-built}
use Rattle.refine_operator.proofs.fit_columns.Goals as goal

pub returns-then-radius-gt7 : goal.returns-then-radius-gt7
returns-then-radius-gt7 c = columns-bad c.args.radius c.args.columns.now c.if-radius-gt7.true

pub returns-in_err-inverse_of : goal.returns-in_err-inverse_of
returns-in_err-inverse_of c =
    let a = c.args in
    let r = c.inverse_of in
    let same : c.from_residual.result ≡ Err Singular = search rules in
    subst (λ (x : Result Unit OperatorError). ColumnsDone a.radius a.columns.now x a.columns.now) (sym same) (columns-singular a.radius _ r.result c.if-radius-gt7.false r.ensures a.columns.now c.in_err-inverse_of.field-0.0 c.in_err-inverse_of.was)

pub returns : goal.returns
returns c =
    let a = c.args in
    columns-built a.radius _ c.inverse_of.result c.if-radius-gt7.false c.inverse_of.ensures a.columns.now _ c.in_ok-inverse_of.was c.fill_columns.ensures

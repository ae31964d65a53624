-- `refine_seed::entry::open_fresh` meets its contract: with the columns that were built.
use mathlib.Core.Path.{◌∙◌}
use Rattle.refine_seed.proofs.ColumnLaws.{opens_built}
use Rattle.refine_seed.proofs.entry.open_fresh.Goals as goal

pub returns : goal.returns
returns g c =
    let a = c.args in
    c.open_seed.ensures ∙ opens_built a.image.now a.cfg a.seed _ _ _ c.fit_columns.ensures c.in_ok-fit_columns.was

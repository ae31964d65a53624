-- `refine_seed::entry::close_fresh` meets its contract: overlaps that were not built are not read.
use mathlib.Core.Path.{sym, ap, ◌∙◌}
use mathlib.Core.Bool.{Bool, ◌&&◌}
use mathlib.Core.List.{List}
use lib.Ieee.{Float}
use Rattle.std.specs.Prelude.{Ok}
use Rattle.refine_seed.specs.StepsEnding.{closed_with}
use Rattle.refine_seed.proofs.ColumnLaws.{fresh_wanted, fresh_unread}
use Rattle.refine_seed.proofs.entry.close_fresh.Goals as goal
use Rattle.refine_seed.proofs.entry.close_fresh.Goals.{then-wanted-is_some+in_ok-fit_overlap, else-wanted-is_some}

pub returns : goal.returns
returns c =
    let a = c.args in
    record {
      is = λ img seed h.
          ap Ok c.closed.ensures
          ∙ elim c.if-wanted-is_some.branch [ then-wanted-is_some+in_ok-fit_overlap w ↦ ap (λ (v : List Float). Ok (closed_with v a.wanted a.opened)) w.overlap-is ∙ fresh_wanted img a.cfg seed a.wanted a.opened _ _ _ h w.fit_overlap.ensures | else-wanted-is_some w ↦ fresh_unread img a.cfg seed a.wanted a.opened c.if-wanted-is_some.overlap h (ap (λ (b : Bool). a.wanted && b) (sym c.is_some.ensures) ∙ w.if-wanted-is_some.false) ];
    }

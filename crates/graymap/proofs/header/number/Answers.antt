-- `graymap::header::number` meets its contract: the digits behind the gap.
use mathlib.Core.Path.{sym, ap, ◌∙◌}
use mathlib.Core.Bool.{false}
use mathlib.Core.List.{List}
use Prim.Native.Nat.{ℕ}
use lib.ListN.{length}
use Rattle.graymap.specs.Grammar.{digits, number_in}
use Rattle.graymap.specs.Steps.{found_of}
use Rattle.graymap.proofs.header.number.Goals as goal

pub returns : goal.returns
unfolding number_in
returns c =
    let file = c.args.file.now in
    c.digits_from.ensures ∙ ap (λ (l : List ℕ). found_of (length file) (digits 0 false l)) (sym c.past_gap-at.ensures.rest)

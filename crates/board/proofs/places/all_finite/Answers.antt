-- The definition goes by the numbers' places.
use mathlib.Core.Path.{sym, ◌∙◌}
use borrow.Author.Tests.{tests}
use lib.Ieee.{nan}
use lib.Ieee.Scale.{finite}
use Rattle.std.proofs.Common.{rules}
use Rattle.std.proofs.lemmas.Iterator.{YieldsList-from_slice}
use Rattle.std.proofs.lemmas.Iterator.Search.{all_from_yields_List}
use Rattle.board.proofs.CallLaws.{every_entry}
use Rattle.board.proofs.places.all_finite.Goals as goal

pub returns : goal.returns
returns c =
    let list = c.args.places.now in
    all_from_yields_List finite _ _ _ c.all.ensures.ran (YieldsList-from_slice list (cc)) (λ x b q k. search (rules, tests)) ∙ sym (every_entry finite list nan)

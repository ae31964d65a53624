-- `graymap::read_as` meets its contract: the magic, the header, and what is judged with its numbers cut.
use mathlib.Core.Path.{sym, ◌∙◌}
use lib.ListN.{length, drop}
use Rattle.graymap.specs.Grammar.{header_in}
use Rattle.graymap.proofs.HeaderLaws.{none-given, given}
use Rattle.graymap.proofs.CallLaws.{no-magic, no-heading, heading}
use Rattle.graymap.proofs.read_as.Goals as goal

pub returns-then-not-has_magic : goal.returns-then-not-has_magic
returns-then-not-has_magic c = let a = c.args in no-magic a.deep a.file.now (sym c.has_magic.ensures ∙ c.if-not-has_magic.true)

pub returns-in_default : goal.returns-in_default
returns-in_default c =
    let file = c.args.file.now in
    no-heading c.args.deep file (sym c.has_magic.ensures ∙ c.if-not-has_magic.false) (none-given (length file) (header_in (drop 3 file)) (sym c.in_default.is ∙ c.read_header.ensures))

pub returns : goal.returns
returns c =
    let file = c.args.file.now in
    let h = c.in-Some.heading in
    c.sized.ensures
    ∙ heading c.args.deep file (sym c.has_magic.ensures ∙ c.if-not-has_magic.false) h.width h.height h.maximum h.start
    (given file 3 h.width h.height h.maximum h.start (sym c.in-Some.is ∙ c.read_header.ensures))

-- `graymap::header::read_header` meets its contract: a number is missing, or was found and the next begins behind it.
use mathlib.Core.Path.{sym, ◌∙◌}
use lib.ListN.{length, drop}
use Rattle.graymap.specs.Grammar.{number_in}
use Rattle.graymap.proofs.HeaderLaws.{none_found, found, no-width, no-height, no-maximum, whole_found}
use Rattle.graymap.proofs.header.read_header.Goals as goal

pub returns-in_err-width : goal.returns-in_err-width
returns-in_err-width c =
    let file = c.args.file.now in
    let l = drop c.args.from file in
    c.from_residual.ensures ∙ no-width (length file) l (none_found (length file) (number_in l) (sym c.in_err-width.was ∙ c.number.ensures))

pub returns-in_err-height : goal.returns-in_err-height
returns-in_err-height c =
    let a = c.args in
    let file = a.file.now in
    let w = c.in_ok-width.width in
    let t = found file a.from w.value w.next (sym c.in_ok-width.was ∙ c.number.ensures) in
    c.from_residual-in_err-height.ensures ∙ no-height file a.from w.value w.next t (none_found (length file) (number_in (drop w.next file)) (sym c.in_err-height.was ∙ c.number-2.ensures))

pub returns-in_err-maximum : goal.returns-in_err-maximum
returns-in_err-maximum c =
    let a = c.args in
    let file = a.file.now in
    let w = c.in_ok-width.width in
    let h = c.in_ok-height.height in
    let t = found file a.from w.value w.next (sym c.in_ok-width.was ∙ c.number.ensures) in
    let u = found file w.next h.value h.next (sym c.in_ok-height.was ∙ c.number-2.ensures) in
    c.from_residual-in_err-maximum.ensures ∙ no-maximum file a.from w.value w.next t h.value h.next u (none_found (length file) (number_in (drop h.next file)) (sym c.in_err-maximum.was ∙ c.number-3.ensures))

pub returns : goal.returns
returns c =
    let a = c.args in
    let file = a.file.now in
    let w = c.in_ok-width.width in
    let h = c.in_ok-height.height in
    let m = c.in_ok-maximum.maximum in
    let t = found file a.from w.value w.next (sym c.in_ok-width.was ∙ c.number.ensures) in
    let u = found file w.next h.value h.next (sym c.in_ok-height.was ∙ c.number-2.ensures) in
    let v = found file h.next m.value m.next (sym c.in_ok-maximum.was ∙ c.number-3.ensures) in
    whole_found file a.from w.value w.next t h.value h.next u m.value m.next v

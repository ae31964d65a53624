-- `peaks::scan::Response::list_from` meets its contract: the row is outside the border, or the columns from the pixel on are, or they are listed.
use Rattle.std.proofs.Common.{◌-◌, ◌/◌, ◌%◌, arith}
use Rattle.peaks.specs.Steps.{scan_of}
use Rattle.peaks.proofs.PeakLaws.{left_out}
use Rattle.peaks.proofs.PartLaws.{column-less, row-outside, row-inside, skipped, part-last, part-inner}
use Rattle.peaks.proofs.Response.list_from.Goals as goal

pub returns-then-y-border : goal.returns-then-y-border
returns-then-y-border c =
    let a = c.args in
    let s = scan_of a.self.now in
    let t = a.self.now.sound in
    skipped t a.k c.requires.inside a.list.now s.width (column-less t a.k c.requires.inside) (omega arith) (row-outside t a.k c.requires.inside c.border-border.ensures.value c.if-y-border.true)

pub returns-then-x-border : goal.returns-then-x-border
returns-then-x-border c =
    let a = c.args in
    let s = scan_of a.self.now in
    let e = c.border-border.ensures.value in
    let w = row-inside a.self.now.sound a.k c.requires.inside e c.if-y-border.false in
    skipped a.self.now.sound a.k c.requires.inside a.list.now c.border-border.result c.if-x-border.true (omega (arith, w)) (λ j u v. left_out s j (a.k / s.width) (omega (arith, e, v)))

pub returns-then-n-le256 : goal.returns-then-n-le256
returns-then-n-le256 c =
    let a = c.args in
    let s = scan_of a.self.now in
    let e = c.border-border.ensures.value in
    let w = row-inside a.self.now.sound a.k c.requires.inside e c.if-y-border.false in
    part-last a.self.now.sound a.k c.requires.inside (s.width - c.border-border.result - a.k % s.width) (omega (arith, e, w)) c.if-n-le256.true c.list_columns.ensures

pub returns : goal.returns
returns c =
    let a = c.args in
    let s = scan_of a.self.now in
    part-inner a.self.now.sound a.k c.requires.inside (omega (arith, c.if-n-le256.false, c.border-border.ensures.value)) c.list_columns-2.ensures

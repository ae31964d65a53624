-- `peaks::window::Response::has_cluster` meets its contract: the pieces counted so far are positive values of the window, and all four are all of them.
use Rattle.std.proofs.Common.{sym, ap, ℕ, arith}
use native.Mathlib.Nat.{le_trans}
use lib.Dec.{leb}
use borrow.Author.Tests.{le-leb}
use Rattle.peaks.specs.Peak.{positives}
use Rattle.peaks.specs.Steps.{scan_of}
use Rattle.peaks.proofs.WindowLaws.{positives-beside, positives-above, positives-all}
use Rattle.peaks.proofs.FrameLaws.{below-fits}
use Rattle.peaks.proofs.Response.has_cluster.Goals as goal

pub overflow_add-left : goal.overflow_add-left
overflow_add-left c =
    let a = c.args in
    let p = c.requires.window_inside in
    omega (arith, (positives-beside (scan_of a.self.now) a.x a.y p.left p.above p.sound.window-most c.positive_run-left.ensures c.positive_run-right.ensures).1)

pub returns-then-self-left : goal.returns-then-self-left
returns-then-self-left c =
    let a = c.args in
    let p = c.requires.window_inside in
    let s = scan_of a.self.now in
    sym (le-leb s.cluster (positives s a.x a.y) (le_trans c.if-self-left.true (positives-beside s a.x a.y p.left p.above p.sound.window-most c.positive_run-left.ensures c.positive_run-right.ensures).0))

pub overflow_add-left-3 : goal.overflow_add-left-3
overflow_add-left-3 c =
    let a = c.args in
    let p = c.requires.window_inside in
    omega (arith, (positives-above (scan_of a.self.now) a.x a.y p.left p.above p.sound.window-most c.positive_run-left.ensures c.positive_run-right.ensures c.positive_rows-up.ensures).1)

pub returns-then-self-left-2 : goal.returns-then-self-left-2
returns-then-self-left-2 c =
    let a = c.args in
    let p = c.requires.window_inside in
    let s = scan_of a.self.now in
    sym (le-leb s.cluster (positives s a.x a.y) (le_trans c.if-self-left-2.true (positives-above s a.x a.y p.left p.above p.sound.window-most c.positive_run-left.ensures c.positive_run-right.ensures c.positive_rows-up.ensures).0))

pub positive_rows-down-requires : goal.positive_rows-down-requires
positive_rows-down-requires c = let a = c.args in record { rows_inside = below-fits (scan_of a.self.now) a.x a.y c.requires.window_inside }

pub overflow_add-result-3 : goal.overflow_add-result-3
overflow_add-result-3 c =
    let a = c.args in
    let p = c.requires.window_inside in
    omega (arith, (positives-all (scan_of a.self.now) a.x a.y p.left p.above p.sound.window-most c.positive_run-left.ensures c.positive_run-right.ensures c.positive_rows-up.ensures c.positive_rows-down.ensures).1)

pub returns : goal.returns
returns c =
    let a = c.args in
    let p = c.requires.window_inside in
    let s = scan_of a.self.now in
    ap (λ (z : ℕ). leb s.cluster z) (positives-all s a.x a.y p.left p.above p.sound.window-most c.positive_run-left.ensures c.positive_run-right.ensures c.positive_rows-up.ensures c.positive_rows-down.ensures).0

-- `salvage::records::Frame::count_kept` meets its contract: of the first i records so many are kept.
use Rattle.std.specs.Prelude.{◌+◌, cond, Bool}
use mathlib.Core.Path.{sym, ap, ◌∙◌, subst}
use native.Mathlib.Omega.{arith}
use Rattle.salvage.specs.Steps.{Counted}
use Rattle.salvage.proofs.RecordLaws.{counted_none, counted_told}
use Rattle.salvage.proofs.records.Frame.count_kept.Goals as goal
use Rattle.salvage.proofs.records.Frame.count_kept.Goals.{then-is_none, else-is_none}

pub loop-i-init : goal.loop-i-init
loop-i-init c = let a = c.args in counted_none a.self.width a.self.height a.file.now

pub loop-i-preserved : goal.loop-i-preserved
loop-i-preserved c =
    let a = c.args in
    let l = c.loop-i in
    let more = counted_told a.self.width a.self.height a.file.now l.i l.kept c.fault_at.result c.is_none.result (omega arith) l.invariant c.fault_at.ensures c.is_none.ensures in
    elim c.if-is_none.branch [
      | then-is_none w ↦ subst (Counted a.self.width a.self.height a.file.now (l.i + 1)) (ap (λ (b : Bool). cond b (l.kept + 1) l.kept) w.if-is_none.true ∙ sym w.kept-is) more
      | else-is_none w ↦ subst (Counted a.self.width a.self.height a.file.now (l.i + 1)) (ap (λ (b : Bool). cond b (l.kept + 1) l.kept) w.if-is_none.false ∙ sym w.kept-is) more
    ]

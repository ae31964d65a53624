-- `salvage::writing::write_whole` meets its contract: the first i records are written.
use mathlib.Core.Path.{sym, subst, subst₂}
use Prim.Native.Nat.{ℕ, ◌/◌, ◌≤◌}
use native.Mathlib.Omega.{arith}
use lib.ListN.{length}
use Rattle.salvage.specs.Faults.{told}
use Rattle.salvage.specs.Steps.{Before, Next}
use Rattle.salvage.proofs.WritingLaws.{nothing_written, same_out, same_faults, record_fits, record_written}
use Rattle.salvage.proofs.writing.write_whole.Goals as goal

pub loop-i-init : goal.loop-i-init
loop-i-init c = let a = c.args in nothing_written a.frame.width a.frame.height a.file.now a.out.now a.faults.now c.requires

pub write_record-kept-requires : goal.write_record-kept-requires
write_record-kept-requires c =
    let a = c.args in
    let l = c.loop-i in
    let upto : l.i ≤ length a.file.now / 12 = omega arith in
    subst₂ (Before a.file.now l.i (told c.fault_at-fault.result) l.kept)
    (sym (same_out a.frame.width a.frame.height a.file.now a.out.now a.faults.now c.requires upto l.invariant))
    (sym (same_faults a.frame.width a.frame.height a.file.now a.out.now a.faults.now c.requires upto l.invariant))
    (subst (λ (f : ℕ). Before a.file.now l.i f l.kept (length a.out.now) (length a.faults.now)) (sym c.fault_at-fault.ensures)
    (record_fits a.frame.width a.frame.height a.file.now a.out.now a.faults.now c.requires l.i l.kept l.out l.faults (omega arith) l.invariant))

pub loop-i-preserved : goal.loop-i-preserved
loop-i-preserved c =
    let a = c.args in
    let l = c.loop-i in
    record_written a.frame.width a.frame.height a.file.now a.out.now a.faults.now c.requires l.i l.kept l.out l.faults (omega arith) l.invariant
    (subst (λ (f : ℕ). Next a.file.now l.i f l.kept l.out l.faults c.write_record-kept.result c.write_record-kept.new.out c.write_record-kept.new.faults) c.fault_at-fault.ensures c.write_record-kept.ensures)

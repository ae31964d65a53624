-- `peaks::scan::Response::record_all` meets its contract: all at once where there is room for any number, else the notes and then the rest, where the count has room.
use Rattle.std.proofs.Common.{refl, sym, ap, ◌∙◌, subst, ℕ, List, length, arith}
use Rattle.peaks.specs.Steps.{scan_of, Noted, Written}
use Rattle.peaks.proofs.CallLaws.{recorded-all}
use Rattle.peaks.proofs.BoundLaws.{most-peaks}
use Rattle.peaks.proofs.ChosenLaws.{stands-first, stands-room, noted-stands, noted-pixels, written_none, written-noted}
use Rattle.peaks.proofs.Response.record_all.Goals as goal

pub write-requires-clause-standing : goal.write-requires-clause-standing
write-requires-clause-standing c = stands-first (scan_of c.args.self.now)

pub write-requires-clause-room : goal.write-requires-clause-room
write-requires-clause-room c = let s = scan_of c.args.self.now in omega (arith, most-peaks s c.args.self.now.sound, c.most_peaks.ensures, c.if-most_peaks-room.true)

pub returns-then-most_peaks-room : goal.returns-then-most_peaks-room
returns-then-most_peaks-room c =
    let s = scan_of c.args.self.now in
    let w = c.write.ensures in
    recorded-all s c.args.out.now (omega (arith, most-peaks s c.args.self.now.sound, c.most_peaks.ensures, c.if-most_peaks-room.true, w.total)) w.total (w.written c.args.out.now refl (written_none s c.args.out.now))

pub write_listed-requires-clause-pixels : goal.write_listed-requires-clause-pixels
write_listed-requires-clause-pixels c =
    let s = scan_of c.args.self.now in
    noted-pixels s (subst (λ (z : List ℕ). Noted s z c.note-from.result) (sym c.tally.ensures.list_stays) c.note-from.ensures)

pub write_listed-requires-clause-room : goal.write_listed-requires-clause-room
write_listed-requires-clause-room c =
    let s = scan_of c.args.self.now in
    omega (arith, c.if-room-tally.false, c.tally.ensures.total, ap length c.tally.ensures.list_stays, stands-room s _ _ c.args.self.now.sound (noted-stands s c.note-from.ensures))

pub returns : goal.returns
returns c =
    let s = scan_of c.args.self.now in
    let w = c.write-2.ensures in
    let e = c.tally.ensures in
    let n = subst (λ (z : List ℕ). Noted s z c.note-from.result) (sym e.list_stays) c.note-from.ensures in
    recorded-all s c.args.out.now (omega (arith, c.if-room-tally.false, e.total, w.total)) w.total
    (w.written c.args.out.now (sym c.write_listed.auto.out) (subst (λ (k : ℕ). Written s c.args.out.now k c.note-from.result c.write_listed.new.out) (ap length e.list_stays ∙ sym c.len-noted.ensures) (written-noted s c.args.out.now c.write_listed.new.out n c.write_listed.ensures)))

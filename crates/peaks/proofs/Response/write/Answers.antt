-- `peaks::scan::Response::write` meets its contract.
use Rattle.std.proofs.Common.{sym, ◌∙◌, subst, ℕ, List, ◌+◌, arith}
use Rattle.peaks.specs.Steps.{scan_of, Part, Stands, Written}
use Rattle.peaks.proofs.FrameLaws.{size-most}
use Rattle.peaks.proofs.ChosenLaws.{stands_on, stands-most, stands-room, stands-last, part-pixels, written_next, written_last}
use Rattle.peaks.proofs.Response.write.Goals as goal

pub write_listed-requires-clause-pixels : goal.write_listed-requires-clause-pixels
write_listed-requires-clause-pixels c =
    let s = scan_of c.args.self.now in
    part-pixels s (subst (λ (z : List ℕ). Part s z c.list_from-at.new.list c.loop-at.at c.list_from-at.result) c.truncate.ensures c.list_from-at.ensures)

pub write_listed-requires-clause-room : goal.write_listed-requires-clause-room
write_listed-requires-clause-room c =
    let l = c.loop-at in
    let s = scan_of c.args.self.now in
    let p = subst (λ (z : List ℕ). Part s z c.list_from-at.new.list l.at c.list_from-at.result) c.truncate.ensures c.list_from-at.ensures in
    let m = stands-room s _ _ c.args.self.now.sound (stands_on s p l.total l.invariant.stands) in
    omega (arith, m, c.requires.room, l.invariant.room)

pub overflow_add-total : goal.overflow_add-total
overflow_add-total c =
    let l = c.loop-at in
    let s = scan_of c.args.self.now in
    let p = subst (λ (z : List ℕ). Part s z c.list_from-at.new.list l.at c.list_from-at.result) c.truncate.ensures c.list_from-at.ensures in
    omega (arith, stands-most s (stands_on s p l.total l.invariant.stands), size-most s c.args.self.now.sound, c.len-total.ensures)

pub loop-at-preserved : goal.loop-at-preserved
loop-at-preserved c =
    let l = c.loop-at in
    let s = scan_of c.args.self.now in
    let p = subst (λ (z : List ℕ). Part s z c.list_from-at.new.list l.at c.list_from-at.result) c.truncate.ensures c.list_from-at.ensures in
    let e = c.len-total.ensures in
    record {
      room = c.write_listed.auto.out ∙ l.invariant.room;
      stands = subst (λ (n : ℕ). Stands s (l.total + n) c.list_from-at.result) (sym e) (stands_on s p l.total l.invariant.stands);
      written =
          λ o f g.
          subst (λ (n : ℕ). Written s o (l.total + n) c.list_from-at.result c.write_listed.new.out) (sym e)
          (written_next s o l.out c.write_listed.new.out p l.invariant.stands (f ∙ sym l.invariant.room) (l.invariant.written o f g) c.write_listed.ensures);
    }

pub returns-clause-total : goal.returns-clause-total
returns-clause-total c =
    let l = c.loop-at in
    stands-last (scan_of c.args.self.now) l.total l.at c.args.self.now.sound l.invariant.stands c.loop-at-test.false

pub returns-clause-written : goal.returns-clause-written
returns-clause-written c =
    let l = c.loop-at in
    λ o e w. written_last (scan_of c.args.self.now) o l.out l.total l.at c.args.self.now.sound l.invariant.stands c.loop-at-test.false (l.invariant.written o e w)

-- `peaks::scan::Response::tally` meets its contract.
use Rattle.std.proofs.Common.{◌≡◌, sym, ap, ◌∙◌, subst, ℕ, ◌+◌, ◌-◌, length, take, arith}
use Rattle.peaks.specs.Steps.{scan_of, Stands}
use Rattle.peaks.proofs.FrameLaws.{size-most}
use Rattle.peaks.proofs.ChosenLaws.{stands-next, stands-most, stands-last, part-front}
use Rattle.peaks.proofs.Response.tally.Goals as goal

pub overflow_add-count : goal.overflow_add-count
overflow_add-count c =
    let a = c.args in
    let l = c.loop-at in
    let s = scan_of a.self.now in
    let q = stands-next s c.list_from-at.ensures l.count l.invariant.stands in
    omega (arith, q.0, stands-most s q.1, size-most s a.self.now.sound, c.len-noted.ensures, c.len.ensures, ap length l.invariant.list_stays)

pub loop-at-preserved : goal.loop-at-preserved
loop-at-preserved c =
    let a = c.args in
    let l = c.loop-at in
    let s = scan_of a.self.now in
    let p = c.list_from-at.ensures in
    let same : c.len-noted.result ≡ length l.list = c.len-noted.ensures ∙ ap length (sym l.invariant.list_stays) in
    record {
      stands = subst (λ (n : ℕ). Stands s n c.list_from-at.result) (let e : l.count + (length c.list_from-at.new.list - length l.list) ≡ l.count + (c.len.result - c.len-noted.result) = omega (arith, c.len.ensures, same) in e) (stands-next s p l.count l.invariant.stands).1;
      list_stays = c.truncate.ensures ∙ ap (λ (n : ℕ). take n c.list_from-at.new.list) same ∙ part-front s p ∙ l.invariant.list_stays;
    }

pub returns-clause-total : goal.returns-clause-total
returns-clause-total c =
    let a = c.args in
    let l = c.loop-at in
    stands-last (scan_of a.self.now) l.count l.at a.self.now.sound l.invariant.stands c.loop-at-test.false

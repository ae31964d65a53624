-- `peaks::gather::Response::gather` meets its contract.
use Rattle.std.proofs.Common.{rules, sym, ap, ◌∙◌, append-nil, append_assoc, ℕ, List, ◌++◌, ◌+◌, ◌-◌, ◌*◌, ◌/◌, ◌≤◌, ◌<◌, length, take, arith}
use lib.ListN.{length-append}
use lib.Seq.{take_all, length-take-le}
use Rattle.peaks.specs.Listed.{between}
use Rattle.peaks.specs.Steps.{scan_of, any_above, gathered, stands_out}
use Rattle.peaks.proofs.FrameLaws.{size-most}
use Rattle.peaks.proofs.GatherLaws.{gathered_none, gathered-more, gathered-most, group-inside, groups-few, all-gathered}
use Rattle.peaks.proofs.Response.gather.Goals as goal

pub loop-j-init : goal.loop-j-init
loop-j-init c =
    let a = c.args in
    let any = any_above a.self.now.values.now c.floor-floor.result a.from in
    record {
      groups = c.add.ensures any (λ k r h l e. search rules) ∙ ap (λ (z : List ℕ). z ++ between 0 (a.n / 8) any) c.new-groups.ensures;
      listed = sym (ap (λ (z : List ℕ). a.list.now ++ z) (gathered_none a.self.now.values.now c.floor-floor.result a.from c.add.new.self) ∙ append-nil a.list.now);
    }

pub overflow_mul-at : goal.overflow_mul-at
overflow_mul-at c =
    let a = c.args in
    let g = group-inside (any_above a.self.now.values.now c.floor-floor.result a.from) a.n c.loop-j.invariant.groups c.loop-j.j (omega (arith, c.loop-j-test.true, c.len-j-end.ensures)) in
    omega (arith, g, c.at.ensures, c.requires.few)

pub overflow_add-from : goal.overflow_add-from
overflow_add-from c =
    let a = c.args in
    let g = group-inside (any_above a.self.now.values.now c.floor-floor.result a.from) a.n c.loop-j.invariant.groups c.loop-j.j (omega (arith, c.loop-j-test.true, c.len-j-end.ensures)) in
    omega (arith, g, c.at.ensures, c.requires.few, c.requires.one_after, size-most (scan_of a.self.now) a.self.now.sound)

pub add-requires-in-loop-j : goal.add-requires-in-loop-j
add-requires-in-loop-j c =
    let a = c.args in
    let l = c.loop-j in
    let any = any_above a.self.now.values.now c.floor-floor.result a.from in
    let h : l.j < length c.add.new.self = omega (arith, c.loop-j-test.true, c.len-j-end.ensures) in
    let g = group-inside any a.n l.invariant.groups l.j h in
    let most = size-most (scan_of a.self.now) a.self.now.sound in
    let so-far = gathered a.self.now.values.now c.floor-floor.result a.from (take l.j c.add.new.self) in
    let listed : length l.list ≤ length a.list.now + 8 * l.j =
    omega (arith, ap length l.invariant.listed, length-append a.list.now so-far, gathered-most a.self.now.values.now c.floor-floor.result a.from (take l.j c.add.new.self), length-take-le l.j c.add.new.self (omega (arith, h))) in (
      omega arith,
      (
        omega (arith, listed, h, groups-few any a.n l.invariant.groups, c.requires.room),
        (
          omega (arith, g, c.at.ensures, c.requires.one_after, most),
          λ k f u κs q r s t. (omega (arith, f, c.requires.one_before), omega (arith, u, g, c.at.ensures, c.requires.one_after)),
        ),
      ),
    )

pub loop-j-preserved : goal.loop-j-preserved
loop-j-preserved c =
    let a = c.args in
    let l = c.loop-j in
    let values = a.self.now.values.now in
    let out = stands_out values c.floor-floor.result in
    let so-far = gathered values c.floor-floor.result a.from (take l.j c.add.new.self) in
    record {
      groups = l.invariant.groups;
      listed =
          c.add-in-loop-j.ensures out (λ k r h l e. search rules)
          ∙ ap (λ (z : List ℕ). z ++ between (a.from + 8 * c.at.result) 8 out) l.invariant.listed
          ∙ append_assoc a.list.now so-far (between (a.from + 8 * c.at.result) 8 out)
          ∙ ap (λ (g : ℕ). a.list.now ++ (so-far ++ between (a.from + 8 * g) 8 out)) c.at.ensures
          ∙ ap (λ (z : List ℕ). a.list.now ++ z) (sym (gathered-more values c.floor-floor.result a.from c.add.new.self l.j (omega (arith, c.loop-j-test.true, c.len-j-end.ensures))));
    }

pub add-requires-2 : goal.add-requires-2
add-requires-2 c =
    let a = c.args in
    let l = c.loop-j in
    let any = any_above a.self.now.values.now c.floor-floor.result a.from in
    let most = size-most (scan_of a.self.now) a.self.now.sound in
    let so-far = gathered a.self.now.values.now c.floor-floor.result a.from (take l.j c.add.new.self) in
    let few : l.j ≤ length c.add.new.self = omega (arith, l.auto.j-end, c.len-j-end.ensures) in
    let listed : length l.list ≤ length a.list.now + 8 * l.j =
    omega (arith, ap length l.invariant.listed, length-append a.list.now so-far, gathered-most a.self.now.values.now c.floor-floor.result a.from (take l.j c.add.new.self), length-take-le l.j c.add.new.self few) in (
      omega arith,
      (
        omega (arith, listed, few, groups-few any a.n l.invariant.groups, c.requires.room),
        (
          omega (arith, c.requires.one_after, most),
          λ k f u κs q r s t. (omega (arith, f, c.requires.one_before), omega (arith, u, c.requires.one_after)),
        ),
      ),
    )

pub returns : goal.returns
returns c =
    let a = c.args in
    let l = c.loop-j in
    let values = a.self.now.values.now in
    let out = stands_out values c.floor-floor.result in
    let rest = between (a.from + 8 * (a.n / 8)) (a.n - 8 * (a.n / 8)) out in
    let any = any_above values c.floor-floor.result a.from in
    c.add-2.ensures out (λ k r h l e. search rules)
    ∙ ap (λ (z : List ℕ). z ++ rest) (l.invariant.listed ∙ ap (λ (z : List ℕ). a.list.now ++ gathered values c.floor-floor.result a.from z) (take_all l.j c.add.new.self (omega (arith, c.loop-j-test.false, c.len-j-end.ensures)) ∙ l.invariant.groups))
    ∙ append_assoc a.list.now (gathered values c.floor-floor.result a.from (between 0 (a.n / 8) any)) rest
    ∙ ap (λ (z : List ℕ). a.list.now ++ z) (all-gathered values c.floor-floor.result a.from a.n)
    ∙ ap (λ (f : _). a.list.now ++ between a.from a.n (stands_out values f)) c.floor-floor.ensures

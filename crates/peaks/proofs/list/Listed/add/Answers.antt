-- `peaks::list::Listed::add` meets its contract.
use Rattle.std.proofs.Common.{◌≡◌, sym, ap, ◌∙◌, ◌+◌, ◌<◌, ℕ, List, ◌++◌, append-nil, length, take, arith}
use Rattle.peaks.proofs.ListLaws.{between_none, added-more, bit-most, length-taken}
use Rattle.peaks.proofs.list.Listed.add.Goals as goal

pub loop-i-init : goal.loop-i-init
loop-i-init g c =
    let old = take c.self.inside.len c.self.inside.numbers in
    record { few = omega arith; added = λ p t. sym (ap (λ (z : List ℕ). old ++ z) (between_none p c.args.from) ∙ append-nil old) }

pub loop-i-preserved : goal.loop-i-preserved
loop-i-preserved g c =
    let l = c.loop-i in
    let a = c.args in
    let h = c.loop-i-test.true in
    let e : length a.self.now ≡ c.self.inside.len = ap length (sym c.self.view_is) ∙ length-taken c.self.inside.len c.self.inside.numbers (omega (arith, c.self.told, c.self.invariant)) in
    let room : l.len < length l.self-inside.numbers = omega (arith, e, l.invariant.few, h, c.requires.room) in
    record {
      few = omega (arith, l.invariant.few, c.from-len.ensures, bit-most c.passes.result);
      added =
          λ p t.
          added-more p l.self-inside.numbers l.len c.from-len.ensures room (take c.self.inside.len c.self.inside.numbers) a.from l.i
          (t (a.from + l.i) c.passes.result (omega arith) (omega arith) c.passes.ensures) (l.invariant.added p t);
    }

-- `peaks::list::Listed::retain` meets its contract.
use Rattle.std.proofs.Common.{◌≡◌, refl, sym, ap, ◌∙◌, ◌<◌, ℕ, List, length, get_or, take, arith}
use Rattle.peaks.proofs.ListLaws.{kept-none, kept-more, kept-all, kept_at, to_come, bit-most, length-taken, taken-at, take-again}
use Rattle.peaks.proofs.list.Listed.retain.Goals as goal

pub loop-i-init : goal.loop-i-init
loop-i-init g c =
    let i = c.self.inside in
    let e : length c.args.self.now ≡ i.len = ap length (sym c.self.view_is) ∙ length-taken i.len i.numbers (omega (arith, c.self.told, c.self.invariant)) in
    record {
      few = omega arith;
      to_come = refl;
      kept = λ p t. sym (take-again c.args.first i.len i.numbers (omega (arith, e, c.requires.order))) ∙ kept-none p (take i.len i.numbers) c.args.first (omega (arith, length-taken i.len i.numbers (omega (arith, c.self.told, c.self.invariant)), e, c.requires.order));
    }

pub passes-requires : goal.passes-requires
passes-requires g c =
    let l = c.loop-i in
    let i = c.self.inside in
    let e : length c.args.self.now ≡ i.len = ap length (sym c.self.view_is) ∙ length-taken i.len i.numbers (omega (arith, c.self.told, c.self.invariant)) in
    let k : get_or l.self-inside.numbers l.i 0 ≡ get_or c.args.self.now l.i 0 = kept_at i.numbers l.self-inside.numbers l.i l.invariant.to_come ∙ sym (taken-at i.len i.numbers l.i c.loop-i-test.true) ∙ ap (λ (z : List ℕ). get_or z l.i 0) c.self.view_is in
    rw k (c.requires.callable l.i (omega arith) (omega (arith, e, c.loop-i-test.true)))

pub loop-i-preserved : goal.loop-i-preserved
loop-i-preserved g c =
    let l = c.loop-i in
    let a = c.args in
    let h = c.loop-i-test.true in
    let i = c.self.inside in
    let old : List ℕ = take i.len i.numbers in
    let e : length old ≡ i.len = length-taken i.len i.numbers (omega (arith, c.self.told, c.self.invariant)) in
    let k : get_or l.self-inside.numbers l.i 0 ≡ get_or old l.i 0 = kept_at i.numbers l.self-inside.numbers l.i l.invariant.to_come ∙ sym (taken-at i.len i.numbers l.i c.loop-i-test.true) in
    let within : l.i < length old = omega (arith, e, h) in
    record {
      few = omega (arith, l.invariant.few, c.from-len.ensures, bit-most c.passes.result);
      to_come = to_come i.numbers l.self-inside.numbers l.len l.i (get_or l.self-inside.numbers l.i 0) l.invariant.few l.invariant.to_come;
      kept =
          λ p t.
          kept-more p l.self-inside.numbers l.len c.from-len.ensures (omega (arith, l.invariant.few, h, c.self.invariant)) old a.first l.i (get_or l.self-inside.numbers l.i 0) (omega arith) within k
          (t l.i c.passes.result (omega arith) within (rw (← k) c.passes.ensures) ∙ ap p (sym k)) (l.invariant.kept p t);
    }

pub returns : goal.returns
returns g c =
    let l = c.loop-i in
    let i = c.self.inside in
    λ p t. kept-all (goal.F-post g c.args.passes) p c.args.first l.i c.self.view_is (omega (arith, c.loop-i-test.false, length-taken i.len i.numbers (omega (arith, c.self.told, c.self.invariant)))) (l.invariant.kept p) t

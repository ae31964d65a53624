-- `gradient::signs::sum` meets its contract: one sample more.
use borrow.Author.Rules.{rules}
use mathlib.Core.Path.{refl, ap, ◌∙◌}
use Prim.Native.Nat.{ℕ, ◌+◌}
use native.Mathlib.Omega.{arith}
use lib.ListN.{get_or}
use Rattle.pixel_response.specs.Samples.{total}
use Rattle.pixel_response.specs.Steps.{listed}
use Rattle.pixel_response.proofs.PixelLaws.{total-more}
use Rattle.gradient.proofs.signs.sum.Goals as goal

pub loop-k-init : goal.loop-k-init
unfolding total
loop-k-init c = record { is = refl; most = omega arith }

pub loop-k-preserved : goal.loop-k-preserved
loop-k-preserved c =
    let l = c.loop-k in
    let a = c.args in
    record {
      is = ap (λ (n : ℕ). n + get_or a.samples.now (a.from + l.k) 0) l.invariant.is ∙ total-more l.k (λ j. listed a.samples.now (a.from + j));
      most = search rules;
    }

-- `graymap::samples::write_samples` meets its contract: after i turns i samples are written.
use Rattle.shapes.specs.Lists.{overwritten}
use mathlib.Core.Path.{◌≡◌, refl, ap, ◌∙◌}
use mathlib.Core.Bool.{true}
use mathlib.Core.List.{List}
use Prim.Native.Nat.{ℕ}
use native.Mathlib.Omega.{arith}
use lib.ListN.{length, set}
use Rattle.shapes.proofs.ListLaws.{overwritten-none, overwritten-more, overwritten-whole}
use Rattle.graymap.specs.Call.{sample_in}
use Rattle.graymap.proofs.samples.write_samples.Goals as goal

pub loop-i-init : goal.loop-i-init
loop-i-init c = let a = c.args in overwritten-none (sample_in true a.left.now) a.out.now

pub loop-i-preserved : goal.loop-i-preserved
loop-i-preserved c =
    let l = c.loop-i in
    let a = c.args in
    let v = c.sample.result in
    ap (λ (x : List ℕ). set x l.i v) l.invariant ∙ overwritten-more l.i (sample_in true a.left.now) a.out.now (omega arith) v c.sample.ensures

pub returns : goal.returns
returns c =
    let a = c.args in
    let f = sample_in true a.left.now in
    let e : c.loop-i.i ≡ length a.out.now = omega arith in
    c.loop-i.invariant ∙ ap (λ (k : ℕ). overwritten k f a.out.now) e ∙ overwritten-whole (length a.out.now) f a.out.now refl

-- `refine_patch::reach` meets its contract: behind the last row of each patch there are so many.
use mathlib.Core.Path.{◌≡◌, ap, ◌∙◌}
use mathlib.Core.Bool.{Bool}
use Prim.Native.Nat.{ℕ, ◌+◌, ◌-◌, ◌*◌}
use native.Mathlib.Omega.{arith}
use lib.Dec.{leb}
use Rattle.refine_patch.proofs.RowLaws.{begins, reaches_more}
use Rattle.refine_patch.proofs.reach.Goals as goal

-- what was asked of so many
of-wide : (x : ℕ) {n m : ℕ} {v : Bool} → n ≡ m → v ≡ leb n x → v ≡ leb m x
of-wide x e q = q ∙ ap (λ (k : ℕ). leb k x) e

pub overflow_mul-last : goal.overflow_mul-last
overflow_mul-last c = omega (arith, c.requires.small)

pub overflow_mul-last-2 : goal.overflow_mul-last-2
overflow_mul-last-2 c = omega (arith, c.requires.first)

pub has_more-requires : goal.has_more-requires
has_more-requires c = begins c.args.count c.args.radius c.args.at.a _ c.requires.first

pub has_more-requires-2 : goal.has_more-requires-2
has_more-requires-2 c = begins c.args.count c.args.radius c.args.at.b _ c.requires.second

pub has_more-requires-3 : goal.has_more-requires-3
has_more-requires-3 c = begins c.args.count c.args.radius c.args.at.c _ c.requires.third

pub has_more-requires-4 : goal.has_more-requires-4
has_more-requires-4 c = begins c.args.count c.args.radius c.args.at.d _ c.requires.fourth

pub returns : goal.returns
returns c =
    let a = c.args in
    let n = c.wide_of-n in
    let p = c.has_more in
    let q = c.has_more-2 in
    let r = c.has_more-3 in
    let t = c.has_more-4 in
    λ h. reaches_more a.count a.pitch a.radius a.at p.result q.result r.result t.result c.requires (of-wide (a.count - (a.at.a + 2 * a.radius * a.pitch)) n.ensures p.ensures) (of-wide (a.count - (a.at.b + 2 * a.radius * a.pitch)) n.ensures q.ensures) (of-wide (a.count - (a.at.c + 2 * a.radius * a.pitch)) n.ensures r.ensures) (of-wide (a.count - (a.at.d + 2 * a.radius * a.pitch)) n.ensures t.ensures) h

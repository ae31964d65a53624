-- `gradient::additions::add_all` meets its contract: the ring, and the cross where the means are not equal.
use mathlib.Core.Path.{◌≡◌, sym, ap, ◌∙◌, subst}
use mathlib.Core.List.{List}
use Prim.Native.Nat.{ℕ, ◌+◌, ◌*◌, ◌<◌}
use lib.ListN.{get_or}
use lib.Ieee.{Float}
use lib.IntN.{ℤ}
use mir.Syntax.{w32}
use mir.Val.{to_z, of_z}
use mir.ValLaws.{to_z-of_z}
use Rattle.shapes.specs.Turns.{turns}
use Rattle.pixel_response.specs.Steps.{listed}
use Rattle.gradient.specs.Steps.{cross_step}
use Rattle.gradient.proofs.AdditionLaws.{ring-only, ring-and-cross, same-samples}
use Rattle.gradient.proofs.additions.add_all.Goals as goal

pub add_cross-requires-clause-in_grid : goal.add_cross-requires-clause-in_grid
add_cross-requires-clause-in_grid c = λ k h. subst (λ (n : ℕ). 2 * get_or c.args.cells.now k 0 + 1 < n) (sym c.add_ring.auto.grid) (c.requires.in_grid k h)

-- the sign of the means, as the calls take it
abbrev passed : ℤ → ℤ
passed mean = to_z w32 (of_z w32 mean)

pub returns-then-mean-ne0 : goal.returns-then-mean-ne0
returns-then-mean-ne0 c =
    let a = c.args in
    let s = c.samples_of-samples in
    let m = c.mean_sign-mean in
    let e : passed m.result ≡ m.result = to_z-of_z w32 m.result (record { sfits = m.type_inv }) in
    c.add_cross.ensures
    ∙ ap (λ (g : List Float). turns 5 (cross_step (passed m.result) (listed a.cells.now) a.scale) g) c.add_ring.ensures
    ∙ ring-and-cross (listed s.result) (passed m.result) (listed a.cells.now) a.scale a.grid.now (λ q. c.if-mean-ne0.true (ap (of_z w32) (sym e ∙ q)))
    ∙ same-samples a.tile.now s.result (listed a.cells.now) s.ensures (passed m.result) (e ∙ m.ensures.sign) a.scale a.grid.now

pub returns-else-mean-ne0 : goal.returns-else-mean-ne0
returns-else-mean-ne0 c =
    let a = c.args in
    let s = c.samples_of-samples in
    let m = c.mean_sign-mean in
    let e : passed m.result ≡ m.result = to_z-of_z w32 m.result (record { sfits = m.type_inv }) in
    c.add_ring.ensures
    ∙ ring-only (listed s.result) (passed m.result) (listed a.cells.now) a.scale a.grid.now (ap (to_z w32) c.if-mean-ne0.false)
    ∙ same-samples a.tile.now s.result (listed a.cells.now) s.ensures (passed m.result) (e ∙ m.ensures.sign) a.scale a.grid.now

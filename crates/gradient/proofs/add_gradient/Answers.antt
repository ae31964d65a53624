-- `gradient::add_gradient` meets its contract: each answer is the end of its way.
use mathlib.Core.Path.{sym, ◌∙◌, subst}
use Prim.Native.Nat.{ℕ, ◌*◌, ◌<◌}
use lib.ListN.{length, get_or}
use borrow.Author.Tests.{eqb-true}
use Rattle.pixel_response.specs.Steps.{listed}
use Rattle.gradient.specs.Call.{asked_of}
use Rattle.gradient.proofs.SizeLaws.{side-small, doubled}
use Rattle.gradient.proofs.CallLaws.{bad-tile, bad-ring, bad-grid, all-added}
use borrow.Author.Rules.{rules}
use Rattle.gradient.proofs.add_gradient.Goals as goal

pub returns-then-not-is_square : goal.returns-then-not-is_square
returns-then-not-is_square c =
    let a = c.args in
    let s = c.is_square in
    bad-tile (asked_of a.tile.now a.side a.ring.now a.x a.y a.scale) a.grid.now (sym s.ensures ∙ c.if-not-is_square.true)

pub cells_of-requires : goal.cells_of-requires
cells_of-requires c =
    let a = c.args in
    let s = c.is_square in
    side-small (length a.tile.now) a.side (search rules) (eqb-true _ _ (sym s.ensures ∙ c.if-not-is_square.false))

pub returns-in_default : goal.returns-in_default
returns-in_default c =
    let a = c.args in
    let s = c.is_square in
    bad-ring (asked_of a.tile.now a.side a.ring.now a.x a.y a.scale) a.grid.now (sym s.ensures ∙ c.if-not-is_square.false) (sym c.in_default.ensures.decides)

pub returns-then-not-is_double : goal.returns-then-not-is_double
returns-then-not-is_double c =
    let a = c.args in
    let s = c.is_square in
    let d = c.is_double in
    bad-grid (asked_of a.tile.now a.side a.ring.now a.x a.y a.scale) a.grid.now (sym s.ensures ∙ c.if-not-is_square.false) (sym c.in-Some.ensures.decides) (sym d.ensures ∙ c.if-not-is_double.true)

pub add_all-requires : goal.add_all-requires
add_all-requires c =
    let a = c.args in
    let s = c.is_square in
    let d = c.is_double in
    let tile = eqb-true (length a.tile.now) (a.side * a.side) (sym s.ensures ∙ c.if-not-is_square.false) in
    let grid = eqb-true (length a.grid.now) (2 * length a.tile.now) (sym d.ensures ∙ c.if-not-is_double.false) in
    let on = c.in-Some.ensures.within in
    record {
      on_tile = λ k h. subst (λ (n : ℕ). get_or c.in-Some.cells k 0 < n) (sym tile) (on k h);
      in_grid = λ k h. doubled (subst (λ (n : ℕ). get_or c.in-Some.cells k 0 < n) (sym tile) (on k h)) grid;
    }

pub returns : goal.returns
returns c =
    let a = c.args in
    let s = c.is_square in
    let d = c.is_double in
    all-added (asked_of a.tile.now a.side a.ring.now a.x a.y a.scale) a.grid.now (listed c.in-Some.cells) (sym s.ensures ∙ c.if-not-is_square.false) (sym c.in-Some.ensures.decides) (sym d.ensures ∙ c.if-not-is_double.false) c.in-Some.ensures.are c.add_all.ensures

-- `merge::seek::walk_noted` meets its contract: after i turns the first i noted cells are walked.
use mathlib.Core.Path.{◌≡◌, ap, ◌∙◌}
use Prim.Native.Nat.{ℕ}
use lib.ListN.{get_or}
use Rattle.merge.specs.Steps.{lowest_noted}
use Rattle.merge.proofs.GridLaws.{cell_falling, cell_few}
use Rattle.merge.proofs.NoteLaws.{walk_first, walk-next}
use native.Mathlib.Omega.{arith}
use Rattle.merge.proofs.seek.walk_noted.Goals as goal

pub loop-i-init : goal.loop-i-init
loop-i-init c =
    let a = c.args in
    λ g m k noted. walk_first g a.corners.now m a.disc a.notes.now a.best

pub offset_bounds-notes-i : goal.offset_bounds-notes-i
offset_bounds-notes-i c = let h = c.requires.3.room in omega arith

pub bounds-notes-i : goal.bounds-notes-i
bounds-notes-i c = let h = c.requires.3.room in omega arith

pub walk-found-requires : goal.walk-found-requires
walk-found-requires c =
    let p = c.requires in
    let m = get_or c.args.notes.now c.loop-i.i 0 in
    let h = p.3.inside c.loop-i.i c.loop-i-test.true in
    let few = cell_few p.2 m h in
    let room = p.2.there in
    record { falling = cell_falling p.2 m h; in_list = omega arith }

pub loop-i-preserved : goal.loop-i-preserved
loop-i-preserved c =
    let a = c.args in
    λ g m k noted. walk-next g a.corners.now m a.chains.now.heads.now a.chains.now.links.now k a.disc a.notes.now a.n c.loop-i.i a.best c.loop-i.found c.walk-found.result noted c.loop-i-test.true c.walk-found.ensures (c.loop-i.invariant g m k noted)

pub returns : goal.returns
returns c =
    let a = c.args in
    let e : c.loop-i.i ≡ a.n = omega arith in
    λ g m k noted. c.loop-i.invariant g m k noted ∙ ap (λ (j : ℕ). lowest_noted g a.corners.now m a.disc a.notes.now j a.best) e

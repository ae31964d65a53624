-- Each test of a place is one law of the way.
use mathlib.Core.Path.{◌≡◌, sym, ap, ◌∙◌}
use Prim.Native.Nat.{◌+◌, ◌*◌, ◌/◌}
use native.Mathlib.Omega.{arith}
use lib.ListN.{length, take, length-set}
use Rattle.std.proofs.Common.{rules}
use Rattle.shapes.specs.Numbers.{entry}
use Rattle.board.specs.declared.Nearest.{Nearest}
use Rattle.board.specs.Call.{answer_of, is_among}
use Rattle.board.proofs.NearestLaws.{corner_within}
use Rattle.board.proofs.CallLaws.{unmet_here, shared_here, tied_here, all_tied}
use Rattle.board.proofs.places.tie_first.Goals as goal

pub overflow_cast-corner : goal.overflow_cast-corner
overflow_cast-corner c =
    let a = c.args in
    let near = c.nearest-near in
    let k = c.loop-k.k in
    let e : near.result.corner ≡ _ = ap (λ (b : Nearest). b.corner) near.ensures in
    let h = corner_within a.list.now (entry a.places.now (2 * k)) (entry a.places.now (2 * k + 1)) (length a.list.now / 3) in
    omega arith

pub returns-then-not-met-clause-says : goal.returns-then-not-met-clause-says
returns-then-not-met-clause-says c =
    let a = c.args in
    let l = c.loop-k in
    let near = c.nearest-near in
    sym
    (ap answer_of
    (unmet_here a.places.now a.limit a.list.now a.n l.k l.known (omega arith) (omega arith) l.invariant.so_far near.result near.ensures
    (search rules)))

pub returns-then-twice-clause-says : goal.returns-then-twice-clause-says
returns-then-twice-clause-says c =
    let a = c.args in
    let l = c.loop-k in
    let near = c.nearest-near in
    let twice : is_among near.result.corner (take l.k l.known) ≡ _ = sym c.is_among-twice.ensures ∙ c.if-twice.true in
    sym
    (ap answer_of
    (shared_here a.places.now a.limit a.list.now a.n l.k l.known (omega arith) (omega arith) l.invariant.so_far near.result near.ensures
    (search rules) twice))

pub loop-k-preserved : goal.loop-k-preserved
loop-k-preserved c =
    let a = c.args in
    let l = c.loop-k in
    let near = c.nearest-near in
    let once : is_among near.result.corner (take l.k l.known) ≡ _ = sym c.is_among-twice.ensures ∙ c.if-twice.false in
    record {
      long = length-set l.known l.k near.result.corner ∙ l.invariant.long;
      so_far = tied_here a.places.now a.limit a.list.now a.n l.k l.known (omega arith) (omega arith) l.invariant.so_far near.result near.ensures (search rules) once;
    }

pub returns-clause-says : goal.returns-clause-says
returns-clause-says c =
    let a = c.args in
    let l = c.loop-k in
    let k : l.k ≡ a.n = omega arith in
    sym (ap answer_of (all_tied a.places.now a.limit a.list.now a.n l.known (rw k at l.invariant.so_far)))

pub returns-clause-front : goal.returns-clause-front
returns-clause-front c =
    let a = c.args in
    let l = c.loop-k in
    let k : l.k ≡ a.n = omega arith in
    all_tied a.places.now a.limit a.list.now a.n l.known (rw k at l.invariant.so_far)

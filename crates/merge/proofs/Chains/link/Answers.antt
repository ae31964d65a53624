-- `merge::chains::link` meets its contract: j becomes the head, or the link of the lowest number above it.
use mathlib.Core.Path.{sym, subst}
use Prim.Native.Nat.{ℕ}
use native.Mathlib.Numerals.{add-one}
use lib.ListN.{length, get_or, set}
use Rattle.merge.specs.Steps.{Chains}
use Rattle.merge.proofs.ChainLaws.{top-le, link-head, link-below}
use native.Mathlib.Omega.{arith}
use native.Mathlib.Omega.{arith}
use Rattle.merge.proofs.Chains.link.Goals as goal

pub returns-then-from-j-clause-linked : goal.returns-then-from-j-clause-linked
returns-then-from-j-clause-linked c =
    λ most cs chains inside l e.
    let a = c.args in
    subst (λ (k : ℕ). Chains most (set cs a.j a.c) (set a.self.now.heads.now a.c k) (set a.self.now.links.now a.j (get_or a.self.now.heads.now a.c 0))) (sym (add-one a.j))
    (link-head most cs a.self.now.heads.now a.self.now.links.now a.c a.j chains inside l e c.requires.cell c.requires.own c.if-from-j.true)

pub returns-clause-linked : goal.returns-clause-linked
returns-clause-linked c =
    λ most cs chains inside l e.
    let a = c.args in
    let q = c.above-q.result in
    let found = c.above-q.ensures in
    let head = chains.tops a.c inside in
    subst (λ (k : ℕ). Chains most (set cs a.j a.c) a.self.now.heads.now (set (set a.self.now.links.now a.j (get_or a.self.now.links.now q 0)) q k)) (sym (add-one a.j))
    (link-below most cs a.self.now.heads.now a.self.now.links.now a.c a.j chains inside l e q
    (omega arith) found.above (omega (arith, top-le cs a.c (length cs))) (omega arith) (omega arith) (found.on most a.c cs chains.nexts inside head) (omega arith))

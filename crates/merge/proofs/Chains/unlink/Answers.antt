-- `merge::chains::unlink` meets its contract: the head or the link that led to j takes its place.
use lib.ListN.{length}
use Rattle.merge.proofs.ChainLaws.{top-le, unlink-head, unlink-below}
use native.Mathlib.Omega.{arith}
use native.Mathlib.Omega.{arith}
use Rattle.merge.proofs.Chains.unlink.Goals as goal

pub returns-then-head-j-clause-unlinked : goal.returns-then-head-j-clause-unlinked
returns-then-head-j-clause-unlinked c =
    λ most cs chains inside l e.
    let a = c.args in
    unlink-head most cs a.self.now.heads.now a.self.now.links.now a.c a.j chains inside l e c.requires.cell (omega arith)

pub returns-clause-unlinked : goal.returns-clause-unlinked
returns-clause-unlinked c =
    λ most cs chains inside l e.
    let a = c.args in
    let q = c.above-q.result in
    let found = c.above-q.ensures in
    let head = chains.tops a.c inside in
    unlink-below most cs a.self.now.heads.now a.self.now.links.now a.c a.j chains inside l e q
    (omega arith) found.above (omega (arith, top-le cs a.c (length cs))) (omega arith) (found.on most a.c cs chains.nexts inside head) (omega arith)

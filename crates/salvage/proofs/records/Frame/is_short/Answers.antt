-- `salvage::records::Frame::is_short` meets its contract: outputs that hold any counts, and else the lengths by the counts.
use Prim.Native.Nat.{◌+◌, ◌*◌, ◌/◌}
use lib.Dec.{leb}
use lib.ListN.{length}
use borrow.Author.Tests.{leb-true}
use Rattle.shapes.proofs.TestLaws.{first_of, second-of}
use Rattle.salvage.proofs.CallLaws.{never-short}
use Rattle.salvage.proofs.records.Frame.is_short.Goals as goal

pub returns-then-whole-out : goal.returns-then-whole-out
returns-then-whole-out c =
    let a = c.args in
    let whole = length a.file.now / 12 in
    let kept-fit = leb (12 * whole) a.out in
    let faults-fit = leb (2 * whole + 2) a.faults in
    never-short a.self.width a.self.height a.file.now a.out a.faults
    (leb-true (12 * whole) a.out (first_of kept-fit faults-fit c.if-whole-out.true))
    (leb-true (2 * whole + 2) a.faults (second-of kept-fit faults-fit c.if-whole-out.true))

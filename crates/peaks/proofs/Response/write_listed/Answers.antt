-- `peaks::scan::Response::write_listed` meets its contract.
use Rattle.std.proofs.Common.{◌∙◌, arith}
use Rattle.peaks.specs.Steps.{scan_of}
use Rattle.peaks.proofs.ChosenLaws.{follow-more-at}
use Rattle.peaks.proofs.Response.write_listed.Goals as goal

pub loop-i-preserved : goal.loop-i-preserved
loop-i-preserved c =
    let a = c.args in
    let l = c.loop-i in
    let h = c.loop-i-test.true in
    record {
      room = c.put.auto.out ∙ l.invariant.room;
      written = follow-more-at (scan_of a.self.now) a.list.now a.n l.i a.out.now l.out c.put.new.out (omega (arith, h, c.len-i-end.ensures)) (omega (arith, h, c.len-i-end.ensures, c.requires.room)) c.at-k.ensures l.invariant.written c.put.ensures;
    }

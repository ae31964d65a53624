-- So far no sample of the rows before y is above the greatest, or one is; and of bytes none is.
use Rattle.std.proofs.Common.{◌≡◌, true, false}
use Rattle.imageview.specs.Steps.{rows_low}
use Rattle.imageview.proofs.images.ImageView.in_range.Given as goal

abbrev pub invariant-loop-y : goal.invariant-loop-y
invariant-loop-y g l =
    record {
      rows : l.all ≡ rows_low (g.S.Sample.levels l.self.data.now) l.self.width l.self.pitch l.y;
      bytes : g.S.Sample.deep ≡ false → l.all ≡ true;
    }

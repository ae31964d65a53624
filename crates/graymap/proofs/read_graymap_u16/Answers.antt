-- `graymap::read_graymap_u16` meets its contract: a file that was read has as many samples as its sizes say, so that they can be written where the buffer holds them.
use mathlib.Core.Path.{sym, ap, ◌∙◌}
use native.Mathlib.Omega.{arith}
use lib.ListN.{length, length-drop}
use Rattle.graymap.proofs.CallLaws.{whole_part}
use Rattle.graymap.proofs.Theorems.{read_bytes}
use Rattle.graymap.proofs.read_graymap_u16.Goals as goal

pub overflow_mul-read : goal.overflow_mul-read
overflow_mul-read c = omega (arith, read_bytes c.args.file.now c.in_ok-read.read (sym c.read_as.ensures ∙ c.in_ok-read.was))

pub slice_bounds-write_samples-count : goal.slice_bounds-write_samples-count
slice_bounds-write_samples-count c = omega (arith, read_bytes c.args.file.now c.in_ok-read.read (sym c.read_as.ensures ∙ c.in_ok-read.was))

pub slice_bounds-write_samples-start : goal.slice_bounds-write_samples-start
slice_bounds-write_samples-start c = omega (arith, read_bytes c.args.file.now c.in_ok-read.read (sym c.read_as.ensures ∙ c.in_ok-read.was))

pub write_samples-requires : goal.write_samples-requires
write_samples-requires c =
    let file = c.args.file.now in
    let g = c.in_ok-read.read in
    omega (arith, ap length (whole_part file g.start), length-drop g.start file, read_bytes file g (sym c.read_as.ensures ∙ c.in_ok-read.was), c.if-out-read.false)

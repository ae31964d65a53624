-- The size from here on is that of the whole word.
use Rattle.std.proofs.Common.{◌≡◌, ◌≤◌, drop}
use Rattle.salvage_text.specs.Sizes.{most, size_of}
use Rattle.salvage_text.proofs.SizeLaws.{size_from}
use Rattle.salvage_text.proofs.sizes.size_of.Given as goal

abbrev pub invariant-loop-digit : goal.invariant-loop-digit
invariant-loop-digit l = record {
  no_larger : l.size ≤ most;
  left : size_from l.size (drop l.digit-index l.word) ≡ size_of l.word;
}

-- The first k offsets are those of the ring; past 32 stand those of the cross.
use Rattle.std.specs.Prelude.{pos, get_or}
use Rattle.pixel_response.specs.Steps.{Wrote}
use Rattle.response.specs.Region.{moved}
use Rattle.response.proofs.ring.offsets_of.Given as goal

abbrev pub invariant-loop-k : goal.invariant-loop-k
invariant-loop-k l = Wrote 0 l.k 0 (λ j. moved 10 (get_or l.ring j (pos 0))) l.initial.offsets l.offsets

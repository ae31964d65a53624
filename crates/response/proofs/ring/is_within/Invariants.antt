-- The components so far are within the radius, or one is not.
use Rattle.std.proofs.Common.{◌≡◌, take}
use Rattle.response.specs.Region.{ring_within}
use Rattle.response.proofs.ring.is_within.Given as goal

abbrev pub invariant-loop-z : goal.invariant-loop-z
invariant-loop-z l = l.within ≡ ring_within l.radius (take l.z-index l.ring)

-- Where an accepted seed was refined to: all that a list asks of a seed's answer.
use Rattle.std.specs.Prelude.{Option, Some, None, Ok, Err}
use Rattle.refine_seed.specs.declared.Estimate.{Estimate}
use Rattle.refine_seed.specs.declared.Spot.{Spot}
use Rattle.refine_seed.specs.Refine.{Refined}

abbrev pub spot_at : Estimate → Spot
spot_at e = record { x = e.x; y = e.y }

abbrev pub spot_of : Refined → Option Spot
spot_of (Ok e) = Some (spot_at e)
spot_of (Err e) = None

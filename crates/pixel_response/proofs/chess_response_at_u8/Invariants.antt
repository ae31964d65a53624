-- `pixel_response::chess_response_at_u8` meets its contract. After k turns each sum has the first k quarters.
use Rattle.pixel_response.specs.Steps.{listed}
use Rattle.pixel_response.proofs.PixelLaws.{Quarters}
use Rattle.pixel_response.proofs.chess_response_at_u8.Given as goal

abbrev pub invariant-loop-k : goal.invariant-loop-k
invariant-loop-k l = Quarters 256 (listed l.ring) l.k l.square l.edge l.sum

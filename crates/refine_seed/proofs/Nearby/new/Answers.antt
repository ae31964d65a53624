-- `refine_seed::Nearby::new` meets its contract: nothing is kept and no base is held.
use Rattle.std.proofs.Common.{refl}
use Rattle.refine_seed.proofs.Nearby.new.Goals as goal

pub returns : goal.returns
returns c = record { is = λ img columns radius. record { kept = c.no_fits.ensures.kept img columns radius; held = c.new.ensures.held img columns radius _ refl } }

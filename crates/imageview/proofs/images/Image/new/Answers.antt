-- The view's image passed both tests.
use Rattle.std.proofs.Common.{refl, sym}
use Rattle.imageview.proofs.ImageLaws.{is-tested}
use Rattle.imageview.proofs.images.Image.new.Goals as goal

pub returns-clause-tested : goal.returns-clause-tested
returns-clause-tested g c =
    let low = c.if-not-in_range.ensures in
    rw c.in-Some.ensures.image (is-tested _ (sym c.in-Some.ensures.there) (sym low.answer) (low.low refl))

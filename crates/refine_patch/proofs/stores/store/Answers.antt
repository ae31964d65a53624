-- `refine_patch::stores::store` meets its contract.
use Rattle.refine_patch.proofs.FourLaws.{stored}
use Rattle.refine_patch.proofs.stores.store.Goals as goal

pub returns : goal.returns
returns c =
    let s = c.args in
    stored s.s s.to s.out.now c.store_quad.new.out c.store_quad-2.new.out c.store_quad-3.new.out c.store_quad-4.new.out c.store_quad-5.new.out c.store_quad.ensures.0 c.store_quad-2.ensures.0 c.store_quad-3.ensures.0 c.store_quad-4.ensures.0 c.store_quad-5.ensures.0

-- `refine_fits::place::window_far` meets its contract: both axes go the same way.
use Rattle.refine_fits.proofs.PlaceLaws.{window_is}
use Rattle.refine_fits.proofs.place.window_far.Goals as goal

pub returns : goal.returns
returns c =
    let a = c.args in
    window_is a.cx a.cy a.ox a.oy c.floor_f32-fx.result c.floor_f32-fy.result c.f32_to_i32.result c.f32_to_i32-2.result c.base_from.result c.floor_f32-fx.ensures c.floor_f32-fy.ensures c.f32_to_i32.ensures c.f32_to_i32-2.ensures c.base_from.ensures

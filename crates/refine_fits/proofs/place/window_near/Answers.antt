-- `refine_fits::place::window_near` meets its contract: both axes go the same way.
use mathlib.Core.Path.{sym, ap, ◌∙◌}
use lib.Ieee.{Float, to_signed}
use Rattle.refine_fits.proofs.PlaceLaws.{window_is}
use Rattle.refine_fits.proofs.place.window_near.Goals as goal

pub returns : goal.returns
returns c =
    let a = c.args in
    let fx = c.whole_near in
    let fy = c.whole_near-2 in
    let i = c.step_near in
    let j = c.step_near-2 in
    window_is a.cx a.cy a.ox a.oy fx.result fy.result i.result j.result c.base_from.result fx.ensures fy.ensures
    (i.ensures ∙ ap (λ (v : Float). to_signed 31 v) (sym fx.ensures)) (j.ensures ∙ ap (λ (v : Float). to_signed 31 v) (sym fy.ensures)) c.base_from.ensures

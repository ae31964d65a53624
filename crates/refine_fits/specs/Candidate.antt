-- One candidate window of a seed's run: it is taken only where its fit is a saddle, |u|² falls strictly and the estimate stays in the box about the seed.
use Rattle.std.specs.Prelude.{Bool, ◌&&◌, cond, Result, Ok, Err, List, ℤ, pos, Float}
use Rattle.std.specs.Float.{binary32}
use Rattle.std.specs.Float.Ieee.{of_int, lt, le}
use Rattle.floats.specs.Magnitude.{magnitude}
use Rattle.shapes.specs.Numbers.{lesser}
use Rattle.imageview.specs.Image.{Image}
use Rattle.refine_formulas.specs.declared.SaddlePointConfig.{SaddlePointConfig}
use Rattle.refine_formulas.specs.declared.PatchSaddle.{PatchSaddle}
use Rattle.refine_formulas.specs.declared.Unsolved.{Unsolved}
use Rattle.refine_formulas.specs.declared.Corners.{Corners}
use Rattle.refine_formulas.specs.Numbers.{◌⊕◌, ◌⊖◌, half}
use Rattle.refine_formulas.specs.Solve.{solve, norm2}
use Rattle.refine_formulas.specs.Between.{blend}
use Rattle.refine_fits.specs.declared.Seed.{Seed}
use Rattle.refine_fits.specs.Windows.{WindowPlace, window_place, Fits, lacking, four, corners_at}

-- what stays the same over a seed's run
pub record Task : Type 0 where
  pub img : Image
  pub columns : List Float
  pub cfg : SaddlePointConfig
  pub centre_x : ℤ
  pub centre_y : ℤ
  pub seed_x : Float
  pub seed_y : Float

-- of a seed
abbrev pub task_at : Image → List Float → SaddlePointConfig → Seed → Task
task_at img columns cfg seed = record { img = img; columns = columns; cfg = cfg; centre_x = pos seed.centre_x; centre_y = pos seed.centre_y; seed_x = seed.x; seed_y = seed.y }

-- ---- the box about the seed, inclusive
abbrev pub half_side : SaddlePointConfig → Float
half_side cfg = lesser cfg.max_offset (of_int binary32 (pos cfg.radius) ⊕ half)

abbrev pub near_along : SaddlePointConfig → ℤ → Float → Float → Bool
near_along cfg centre est seed = le (magnitude ((of_int binary32 centre ⊕ est) ⊖ seed)) (half_side cfg)

unfoldable pub near_seed : Task → Float → Float → Bool
near_seed t x y = near_along t.cfg t.centre_x x t.seed_x && near_along t.cfg t.centre_y y t.seed_y

-- ---- where a run stands: the window's offset from the centre, its place, the four fits about it and the saddle there
pub record Stand : Type 0 where
  pub ox : Float
  pub oy : Float
  pub place : WindowPlace
  pub corners : Corners
  pub fit : PatchSaddle

-- a candidate taken or not
pub data Tried : Type 0 where
  passed : Tried
  taken : Stand → Tried

abbrev pub judged : Task → PatchSaddle → Float → Float → WindowPlace → Corners → Result PatchSaddle Unsolved → Tried
judged t f ox oy w c (Err e) = passed
judged t f ox oy w c (Ok g) =
    cond (lt (norm2 g) (norm2 f) && near_seed t (ox ⊕ g.ux) (oy ⊕ g.uy)) (taken (record { ox = ox; oy = oy; place = w; corners = c; fit = g })) passed

abbrev pub weighed : Task → PatchSaddle → Float → Float → WindowPlace → Fits → Tried
weighed t f ox oy w lacking = passed
weighed t f ox oy w (four c) = judged t f ox oy w c (solve t.cfg (blend c w.tx w.ty))

-- one candidate: the window at an offset, against the saddle f that it has to better
unfoldable pub candidate : Task → PatchSaddle → Float → Float → Tried
unfolding near_seed
candidate t f ox oy =
    let w = window_place t.centre_x t.centre_y ox oy in
    weighed t f ox oy w (corners_at t.img t.columns t.cfg.radius w.base_x w.base_y)

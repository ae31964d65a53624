-- One candidate as the code has it: a base as a pixel's number, and what a candidate that is taken or passed hands on.
use Rattle.std.specs.Prelude.{◌≡◌, Bool, ◌&&◌, ◌||◌, cond, Option, Some, None, List, ℕ, ltb, ℤ, pos, negsuc, Float}
use Rattle.std.specs.Float.Ieee.{lt, neg}
use Rattle.shapes.specs.Numbers.{plus_zero, one}
use Rattle.imageview.specs.Image.{Image}
use Rattle.refine_formulas.specs.declared.SaddlePointConfig.{SaddlePointConfig}
use Rattle.refine_formulas.specs.declared.PatchSaddle.{PatchSaddle}
use Rattle.refine_formulas.specs.declared.Corners.{Corners}
use Rattle.refine_fits.specs.declared.Window.{Window}
use Rattle.refine_fits.specs.declared.Seed.{Seed}
use Rattle.refine_fits.specs.declared.Base.{Base}
use Rattle.refine_fits.specs.Windows.{WindowPlace, window_place, lacking, four}
use Rattle.refine_fits.specs.Candidate.{task_at, Task, Tried, passed, taken, weighed, candidate}

-- between -1 and 1, and no zero
abbrev pub near_zero : Float → Bool
near_zero o = lt (neg one) o && lt o one && (lt o plus_zero || lt plus_zero o)

-- a whole number as a pixel's number, where it is one of sixteen bits: no image is as wide
abbrev pub pixel_of : ℤ → Option ℕ
pixel_of (pos n) = cond (ltb n 65536) (Some n) None
pixel_of (negsuc n) = None

-- two pixels' numbers as a base, where both are
abbrev pub base_by : Option ℕ → Option ℕ → Option Base
base_by None y = None
base_by (Some x) None = None
base_by (Some x) (Some y) = Some (record { x = x; y = y })

abbrev pub base_at : ℤ → ℤ → Option Base
base_at x y = base_by (pixel_of x) (pixel_of y)

abbrev pub window_of : WindowPlace → Window
window_of p = record { base = base_at p.base_x p.base_y; tx = p.tx; ty = p.ty }

-- a candidate taken with its saddle, or passed
abbrev pub tried_by : Float → Float → WindowPlace → Corners → Option PatchSaddle → Tried
tried_by ox oy w c None = passed
tried_by ox oy w c (Some f) = taken (record { ox = ox; oy = oy; place = w; corners = c; fit = f })

pub record Weighs (cfg : SaddlePointConfig) (seed : Seed) (f : PatchSaddle) (ox oy : Float) (c : Corners) (tx ty : Float) (r : Option PatchSaddle) : Type 0 where
  pub is : (img : Image) (columns : List Float) (w : WindowPlace) → w.tx ≡ tx → w.ty ≡ ty → weighed (task_at img columns cfg seed) f ox oy w (four c) ≡ tried_by ox oy w c r

-- the same of fits that are lacking
pub record Passes (cfg : SaddlePointConfig) (seed : Seed) (f : PatchSaddle) (ox oy tx ty : Float) (r : Option PatchSaddle) : Type 0 where
  pub is : (img : Image) (columns : List Float) (w : WindowPlace) → w.tx ≡ tx → w.ty ≡ ty → (c : Corners) → weighed (task_at img columns cfg seed) f ox oy w lacking ≡ tried_by ox oy w c r

-- a candidate's outcome, with the four fits about its window
pub record Tries (t : Task) (f : PatchSaddle) (ox oy : Float) (c : Corners) (r : Option PatchSaddle) : Type 0 where
  pub is : candidate t f ox oy ≡ tried_by ox oy (window_place t.centre_x t.centre_y ox oy) c r

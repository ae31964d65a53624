-- Closed cases: two seeds with the oracle's own answers, one whose steps fail after four tries, one that converges where it starts.
use mathlib.Core.Path.{◌≡◌, refl}
use mathlib.Core.Bool.{Bool, true, cond}
use mathlib.Core.List.{List, [], ◌∷◌}
use Prim.Native.Nat.{ℕ}
use lib.Ieee.{Float, binary32, of_bits, to_bits, of_int, add, sub, mul, div, lt, le, eq, neg, to_signed}
use Rattle.floats.specs.Magnitude.{magnitude}
use Rattle.floats.specs.Convert.{convert}
use Rattle.floats.specs.Whole.{floor, round_away}
use Rattle.floats.specs.Root.{sqrt}
use Rattle.floats.specs.TotalOrder.{total_cmp}
use Rattle.imageview.specs.Image.{byte_image, is_image, in_range, pixel}
use Rattle.imageview.specs.Patch.{supports_patch}
use Rattle.refine_operator.specs.Call.{way_of}
use Rattle.refine_operator.specs.Inverse.{inverse_normal_matrix, pivot_of, swapped, scaled, cleared}
use Rattle.refine_operator.specs.Rows.{columns_of, overlap_of}
use Rattle.refine_fits.specs.Fit.{fit_at}
use Rattle.refine_formulas.specs.Solve.{solve}
use Rattle.refine_fits.specs.Windows.{window_place, corners_at}
use Rattle.refine_formulas.specs.Between.{blend}
use Rattle.refine_formulas.specs.Sensitivity.{slope_within, saddle_jacobian, sensitivity, newton_step}
use Rattle.refine_seed.specs.PixelSlope.{slope_at}
use Rattle.refine_seed.specs.Run.{run_of}
use Rattle.refine_formulas.specs.Covariance.{covariance_of}
use Rattle.refine_formulas.specs.declared.Covariance.{Covariance}
use Rattle.std.specs.Prelude.{Option, Some, None, Ok, Err}
use Rattle.refine_seed.specs.declared.Unrefined.TheVariants.{Unmoved, Refused}
use Rattle.refine_seed.specs.Refine.{Refined, refine_of, number_of}

abbrev f32 : ℕ → Float
f32 b = of_bits binary32 b

abbrev b32 : Float → ℕ
b32 x = to_bits binary32 x

abbrev flag : Bool → ℕ
flag b = cond b 1 0

abbrev cov : Option Covariance → List ℕ
cov None = 0 ∷ 0 ∷ 0 ∷ 0 ∷ []
cov (Some v) = 1 ∷ b32 v.xx ∷ b32 v.xy ∷ b32 v.yy ∷ []

abbrev rest : Refined → List ℕ
rest (Ok e) = b32 e.x ∷ b32 e.y ∷ b32 e.score ∷ flag e.converged ∷ e.tries ∷ cov e.covariance
rest (Err (Unmoved why score)) = b32 score ∷ []
rest (Err (Refused r)) = []

abbrev shown : List ℕ → ℕ → ℕ → ℕ → ℕ → ℕ → ℕ → Bool → ℕ → ℕ → List ℕ
shown s w h r dm mo md c x y =
    let a = refine_of (byte_image s w h w) (record { radius = r; det_margin = f32 dm; max_offset = f32 mo; min_abs_det = f32 md }) (f32 x) (f32 y) c in
    number_of a ∷ rest a

unsettled : shown (128 ∷ 126 ∷ 128 ∷ 129 ∷ 128 ∷ 131 ∷ 126 ∷ 126 ∷ 130 ∷ []) 3 3 1 0 1090519040 0 true 1065353216 1065353216 ≡ 0 ∷ 1061405636 ∷ 1064366321 ∷ 1082388603 ∷ 0 ∷ 4 ∷ 0 ∷ 0 ∷ 0 ∷ 0 ∷ []
unfolding refine_of supports_patch fit_at solve window_place corners_at blend slope_within slope_at saddle_jacobian sensitivity newton_step run_of covariance_of inverse_normal_matrix pivot_of swapped scaled cleared columns_of overlap_of is_image in_range way_of pixel of_bits to_bits of_int add sub mul div lt le eq neg to_signed magnitude convert floor round_away sqrt total_cmp
unsettled = refl

settled : shown (128 ∷ 114 ∷ 104 ∷ 98 ∷ 96 ∷ 98 ∷ 104 ∷ 114 ∷ 128 ∷ 142 ∷ 128 ∷ 118 ∷ 112 ∷ 110 ∷ 112 ∷ 118 ∷ 128 ∷ 142 ∷ 152 ∷ 138 ∷ 128 ∷ 122 ∷ 120 ∷ 122 ∷ 128 ∷ 138 ∷ 152 ∷ 158 ∷ 144 ∷ 134 ∷ 128 ∷ 126 ∷ 128 ∷ 134 ∷ 144 ∷ 158 ∷ 160 ∷ 146 ∷ 136 ∷ 130 ∷ 128 ∷ 130 ∷ 136 ∷ 146 ∷ 160 ∷ 158 ∷ 144 ∷ 134 ∷ 128 ∷ 126 ∷ 128 ∷ 134 ∷ 144 ∷ 158 ∷ 152 ∷ 138 ∷ 128 ∷ 122 ∷ 120 ∷ 122 ∷ 128 ∷ 138 ∷ 152 ∷ 142 ∷ 128 ∷ 118 ∷ 112 ∷ 110 ∷ 112 ∷ 118 ∷ 128 ∷ 142 ∷ 128 ∷ 114 ∷ 104 ∷ 98 ∷ 96 ∷ 98 ∷ 104 ∷ 114 ∷ 128 ∷ []) 9 9 1 1098907648 1069547520 953267991 true 1082130432 1082130432 ≡ 0 ∷ 1082130432 ∷ 1082130432 ∷ 1082130432 ∷ 1 ∷ 0 ∷ 1 ∷ 1009429163 ∷ 2938809003 ∷ 1009429163 ∷ []
unfolding refine_of supports_patch fit_at solve window_place corners_at blend slope_within slope_at saddle_jacobian sensitivity newton_step run_of covariance_of inverse_normal_matrix pivot_of swapped scaled cleared columns_of overlap_of is_image in_range way_of pixel of_bits to_bits of_int add sub mul div lt le eq neg to_signed magnitude convert floor round_away sqrt total_cmp
settled = refl

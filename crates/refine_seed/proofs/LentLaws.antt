-- The call with a lent operator, where building it said that it is there, is the call that builds its own: one operator serves many seeds.
use mathlib.Core.Path.{◌≡◌, refl, sym, ap, ◌∙◌}
use mathlib.Core.Bool.{Bool, true, false, cond}
use mathlib.Core.List.{List}
use Prim.Native.Nat.{ℕ}
use lib.Dec.{eqb}
use lib.Ieee.{Float}
use Rattle.std.specs.Prelude.{None, Result, Ok, Err}
use borrow.Author.Tests.{eqb-true}
use Rattle.imageview.specs.Image.{Image}
use Rattle.refine_operator.specs.Call as Operator
use Rattle.refine_operator.specs.declared.OperatorError.{OperatorError}
use Rattle.refine_formulas.specs.declared.SaddlePointConfig.{SaddlePointConfig}
use Rattle.refine_fits.specs.declared.Seed.{Seed}
use Rattle.refine_seed.specs.declared.Unrefined.{Unrefined}
use Rattle.refine_seed.specs.declared.Why.TheVariants.{IllConditioned}
use Rattle.refine_seed.specs.Refine.{Refined, unmoved, unbuilt, admit_of, answered, refine_lent, refine_of, refine_with, lent_with, with_operator}
use Rattle.refine_seed.specs.Spot.{spot_of}
use Rattle.refine_seed.specs.Claims.{LentIsBuilt}
use Rattle.refine_operator.proofs.Cases.{radius-0}
use Rattle.refine_seed.proofs.ColumnLaws.{fresh-built, fresh_unbuilt}

module _ (img : Image) (cfg : SaddlePointConfig) (x y : Float) (wanted : Bool) (old overlap columns' overlap' : List Float) (r : Result Unit OperatorError) (done : Operator.Done cfg.radius old overlap r columns' overlap') where
  -- an operator that was built is not that of radius 0
  not-zero : r ≡ Ok tt → (a : Refined) (z : Bool) → eqb cfg.radius 0 ≡ z → cond z (Err (unmoved IllConditioned)) a ≡ a
  not-zero e a false h = refl
  not-zero e a true h =
      let q : Operator.answer_of Operator.none ≡ Ok tt = sym (ap Operator.answer_of radius-0) ∙ sym (ap (λ (k : ℕ). Operator.answer_of (Operator.way_of k)) (eqb-true cfg.radius 0 h)) ∙ sym done.answers ∙ e in
      cc

  by_tests : r ≡ Ok tt → (d : Result Seed Unrefined) → answered d (λ seed. lent_with cfg (refine_with img cfg seed wanted columns' overlap')) ≡ answered d (λ seed. with_operator img cfg seed wanted (Operator.way_of cfg.radius))
  by_tests e (Ok seed) =
      not-zero e (refine_with img cfg seed wanted columns' overlap') (eqb cfg.radius 0) refl ∙ fresh-built img cfg seed wanted old overlap columns' overlap' r done e
  by_tests e (Err u) = refl

  lent-as-built : r ≡ Ok tt → refine_lent img cfg x y wanted columns' overlap' ≡ refine_of img cfg x y wanted
  unfolding refine_lent refine_of
  lent-as-built e = by_tests e (admit_of img cfg x y)

  -- ---- without an operator no seed is accepted
  without : (a : Refined) → spot_of a ≡ None → ((seed : Seed) → a ≡ with_operator img cfg seed wanted (Operator.way_of cfg.radius)) → (d : Result Seed Unrefined) → spot_of (answered d (λ seed. with_operator img cfg seed wanted (Operator.way_of cfg.radius))) ≡ None
  without a q p (Ok seed) = ap spot_of (sym (p seed)) ∙ q
  without a q p (Err u) = refl

  pub none_unbuilt : (e : OperatorError) → r ≡ Err e → spot_of (refine_of img cfg x y wanted) ≡ None
  unfolding refine_of
  none_unbuilt e h = without (Err (unbuilt e)) refl (λ seed. fresh_unbuilt img cfg seed wanted old overlap columns' overlap' r e done h) (admit_of img cfg x y)

pub lent-is-built : LentIsBuilt
lent-is-built img cfg x y wanted columns overlap columns' overlap' r done e = lent-as-built img cfg x y wanted columns overlap columns' overlap' r done e

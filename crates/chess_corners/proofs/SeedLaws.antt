-- What is told of a seed's answer, for whoever knows the answer: once for all of its cases.
use mathlib.Core.Path.{◌≡◌, sym, ap, ◌∙◌}
use mathlib.Core.List.{List}
use Prim.Native.Nat.{ℕ}
use lib.Ieee.{Float}
use Rattle.refine_seed.specs.Refine.{Refined, number_of, values_of}
use Rattle.chess_corners.specs.Seed.{place_after, state_after, covariance_after, Told}

module _ (x y : Float) (place : List Float) (state : List ℕ) (covariance : List Float) where
  pub told : (answer known : Refined) (n : ℕ) → n ≡ number_of known → answer ≡ known → Told answer x y place state covariance n (place_after place (values_of x y known)) (state_after state known) (covariance_after covariance known)
  told answer known n q e = record {
    says = q ∙ ap number_of (sym e);
    leaves-place = ap (λ (a : Refined). place_after place (values_of x y a)) (sym e);
    leaves-state = ap (state_after state) (sym e);
    leaves-covariance = ap (covariance_after covariance) (sym e);
  }

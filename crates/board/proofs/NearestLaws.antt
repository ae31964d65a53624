-- The nearest corner, one corner more and many corners passed over; and that its number is one of the list.
use mathlib.Core.Path.{◌≡◌, refl, sym, ap, ◌∙◌}
use mathlib.Core.Bool.{Bool, true, false, cond}
use mathlib.Core.List.{List}
use Prim.Native.Nat.{ℕ, zero, suc, ◌+◌, ◌≤◌, ◌<◌}
use native.Mathlib.Nat.{add-zero, add-suc}
use native.Mathlib.Numerals.{add-one}
use native.Mathlib.Omega.{arith}
use lib.Ieee.{Float, lt}
use Rattle.shapes.specs.Turns.{turns}
use Rattle.shapes.proofs.TurnLaws.{turns_more}
use Rattle.shapes.specs.Tests.{some}
use Rattle.shapes.proofs.TestLaws.{some_at}
use Rattle.board.specs.declared.Nearest.{Nearest}
use Rattle.board.specs.Nearest.{nobody, distance_to, nearer_of, nearest_of}

module _ (list : List Float) (x y : Float) where
  pub nearest_none : nobody ≡ nearest_of list x y 0
  unfolding nearest_of turns
  nearest_none = refl

  pub nearest_more : (n : ℕ) → nearest_of list x y (n + 1) ≡ nearer_of n (distance_to list x y n) (nearest_of list x y n)
  unfolding nearest_of
  nearest_more n = turns_more n (λ j b. nearer_of j (distance_to list x y j) b) nobody

  -- a corner that is not nearer is passed over
  passed : (n : ℕ) → lt (distance_to list x y n) (nearest_of list x y n).distance ≡ false → nearest_of list x y (n + 1) ≡ nearest_of list x y n
  passed n e =
      nearest_more n ∙ ap (λ (b : Bool). cond b (record { corner = n; distance = distance_to list x y n }) (nearest_of list x y n)) e

  kept : (n m : ℕ) → ((i : ℕ) → i < m → lt (distance_to list x y (n + i)) (nearest_of list x y n).distance ≡ false) → nearest_of list x y (n + m) ≡ nearest_of list x y n
  kept n zero h = ap (nearest_of list x y) (add-zero n)
  kept n (suc m) h =
      let same : nearest_of list x y (n + m) ≡ nearest_of list x y n = kept n m (λ i l. h i (omega arith)) in
      ap (nearest_of list x y) (add-suc n m ∙ sym (add-one (n + m)))
      ∙ passed (n + m) (ap (λ (b : Nearest). lt (distance_to list x y (n + m)) b.distance) same ∙ h m (omega arith))
      ∙ same

  -- so are m corners of which none is nearer
  pub nearest_passed : (n m : ℕ) (best : Nearest) → best ≡ nearest_of list x y n → some m (λ i. lt (distance_to list x y (n + i)) best.distance) ≡ false → best ≡ nearest_of list x y (n + m)
  nearest_passed n m best e h =
      e
      ∙ sym
      (kept n m
      (λ i l. ap (λ (b : Nearest). lt (distance_to list x y (n + i)) b.distance) (sym e) ∙ some_at m i (λ i. lt (distance_to list x y (n + i)) best.distance) l h))

  pub corner_within : (n : ℕ) → (nearest_of list x y n).corner ≤ n
  unfolding nearest_of turns
  corner_within zero = omega arith
  corner_within (suc n) = by (lt (distance_to list x y n) (nearest_of list x y n).distance) (nearest_of list x y n) (corner_within n)
    where
      by : (b : Bool) (s : Nearest) → s.corner ≤ n → (cond b (record { corner = n; distance = distance_to list x y n }) s).corner ≤ suc n
      by true s h = omega arith
      by false s h = omega arith

-- From the steps to the call: signs and coefficients without what was added to them, and each way's end.
use mathlib.Core.Path.{◌≡◌, refl, sym, ap, ◌∙◌}
use mathlib.Core.Bool.{Bool, true, false, not, cond}
use mathlib.Core.List.{List}
use Prim.Native.Nat.{ℕ, ◌*◌, ◌<◌}
use lib.Dec.{eqb}
use lib.ListN.{length}
use lib.Ieee.{Float}
use Rattle.refusals.specs.declared.Refusal.TheVariants.{BadImage, BadRing, BadOut}
use Rattle.refusals.specs.declared.Refusal.{Refusal}
use Rattle.std.specs.Prelude.{Result, Ok, Err}
use Rattle.gradient.specs.Stencil.{stencil_stays, ring_of, cross_of}
use Rattle.gradient.specs.Call.{Asked, cell_at, ring_turn, cross_turn, grid_after, way_of, grid_left, Done}
use Rattle.gradient.specs.Steps.{ring_step, cross_step, all_by, all_added}
use Rattle.gradient.proofs.AdditionLaws.{same-cells}

-- ---- the grid
pub all-is : (a : Asked) (grid : List Float) → all_added a.tile (cell_at a) a.scale grid ≡ grid_after a grid
unfolding all_by grid_after ring_step cross_step ring_turn cross_turn ring_of cross_of
all-is a grid = refl

-- ---- the ways
-- the way by the three tests
abbrev by_tests : Bool → Bool → Bool → Result Unit Refusal
by_tests tile ring room = cond (not tile) (Err BadImage) (cond (not ring) (Err BadRing) (cond (not room) (Err BadOut) (Ok tt)))

module _ (a : Asked) (grid : List Float) where
  goes : {p q r : Bool} → eqb (length a.tile) (a.side * a.side) ≡ p → stencil_stays a.side a.ring a.x a.y ≡ q → eqb (length grid) (2 * length a.tile) ≡ r → way_of a (length grid) ≡ by_tests p q r
  unfolding way_of
  goes {p} {q} {r} e f g =
      ap (λ (b : Bool). by_tests b (stencil_stays a.side a.ring a.x a.y) (eqb (length grid) (2 * length a.tile))) e
      ∙ ap (λ (b : Bool). by_tests p b (eqb (length grid) (2 * length a.tile))) f ∙ ap (λ (b : Bool). by_tests p q b) g

  ends : {w : Result Unit Refusal} {after : List Float} → way_of a (length grid) ≡ w → after ≡ grid_left a grid w → Done a grid w after
  ends e q = record { answers = sym e; leaves = q ∙ ap (grid_left a grid) (sym e) }

  pub bad-tile : eqb (length a.tile) (a.side * a.side) ≡ false → Done a grid (Err BadImage) grid
  bad-tile e = ends (goes e refl refl) refl

  pub bad-ring : eqb (length a.tile) (a.side * a.side) ≡ true → stencil_stays a.side a.ring a.x a.y ≡ false → Done a grid (Err BadRing) grid
  bad-ring e f = ends (goes e f refl) refl

  pub bad-grid : eqb (length a.tile) (a.side * a.side) ≡ true → stencil_stays a.side a.ring a.x a.y ≡ true → eqb (length grid) (2 * length a.tile) ≡ false → Done a grid (Err BadOut) grid
  bad-grid e f g = ends (goes e f g) refl

  pub all-added : {after : List Float} (cell : ℕ → ℕ) → eqb (length a.tile) (a.side * a.side) ≡ true → stencil_stays a.side a.ring a.x a.y ≡ true → eqb (length grid) (2 * length a.tile) ≡ true
      → ((k : ℕ) → k < 21 → cell k ≡ cell_at a k) → after ≡ all_added a.tile cell a.scale grid → Done a grid (Ok tt) after
  all-added cell e f g c h = ends (goes e f g) (h ∙ same-cells a.tile cell (cell_at a) c a.scale grid ∙ all-is a grid)

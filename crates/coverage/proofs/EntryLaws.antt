-- A list by its entries with one of them written anew, and a corner written into a list.
use mathlib.Core.Path.{◌≡◌, refl, sym, ap, ◌∙◌, subst}
use mathlib.Core.Logic.{◌≢◌}
use mathlib.Core.Bool.{Bool, true, false}
use mathlib.Core.List.{List}
use Prim.Native.Nat.{ℕ, ◌+◌, ◌*◌, ◌<◌}
use native.Mathlib.Omega.{arith}
use lib.Dec.{eqb}
use lib.ListN.{length, get_or, set, length-set}
use lib.Seq.{ext_get_or, get_or-set_same, get_or-set_other}
use lib.Ieee.{Float, nan}
use borrow.Author.Tests.{eqb-true, eqb-false}
use Rattle.shapes.specs.Lists.{tabulated}
use Rattle.shapes.specs.Numbers.{entry}
use Rattle.shapes.proofs.ListLaws.{length-tabulated, get_d-tabulated}
use Rattle.corners.specs.declared.Corner.{Corner}
use Rattle.corners.specs.Corners.{recorded}
use Rattle.coverage.specs.Tiles.{tile_of, tile_at}

module _ {A : Type 0} (n : ℕ) (f g : ℕ → A) (k : ℕ) (h : k < n) where
  -- entry k is v, and the others are as they were
  pub set-tabulated : (v : A) → v ≡ g k → ((i : ℕ) → i < n → i ≢ k → f i ≡ g i) → set (tabulated n f) k v ≡ tabulated n g
  set-tabulated v e o =
      ext_get_or v (set (tabulated n f) k v) (tabulated n g) (long ∙ sym (length-tabulated n g))
      (λ i l. go i (subst (λ (m : ℕ). i < m) long l) (eqb i k) refl)
    where
      long : length (set (tabulated n f) k v) ≡ n
      long = length-set (tabulated n f) k v ∙ length-tabulated n f

      go : (i : ℕ) → i < n → (b : Bool) → eqb i k ≡ b → get_or (set (tabulated n f) k v) i v ≡ get_or (tabulated n g) i v
      go i l true q =
          ap (λ (j : ℕ). get_or (set (tabulated n f) k v) j v) (eqb-true i k q)
          ∙ get_or-set_same (tabulated n f) k v v (subst (λ (m : ℕ). k < m) (sym (length-tabulated n f)) h)
          ∙ e
          ∙ ap g (sym (eqb-true i k q))
          ∙ sym (get_d-tabulated n g i v l)
      go i l false q =
          get_or-set_other (tabulated n f) k i v v (eqb-false i k q) ∙ get_d-tabulated n f i v l ∙ o i l (eqb-false i k q) ∙ sym (get_d-tabulated n g i v l)

-- ---- corner j written: its place, and what stands elsewhere
module _ (l : List Float) (j : ℕ) (c : Corner) where
  pub length-recorded : length (recorded l j c) ≡ length l
  length-recorded = simp length-set

  recorded-other : (i : ℕ) → i ≢ 3 * j → i ≢ 3 * j + 1 → i ≢ 3 * j + 2 → entry (recorded l j c) i ≡ entry l i
  recorded-other i p q r =
      get_or-set_other (set (set l (3 * j) c.x) (3 * j + 1) c.y) (3 * j + 2) i c.strength nan r
      ∙ get_or-set_other (set l (3 * j) c.x) (3 * j + 1) i c.y nan q
      ∙ get_or-set_other l (3 * j) i c.x nan p

  recorded-x : 3 * j + 2 < length l → entry (recorded l j c) (3 * j) ≡ c.x
  recorded-x h =
      get_or-set_other (set (set l (3 * j) c.x) (3 * j + 1) c.y) (3 * j + 2) (3 * j) c.strength nan (λ e. omega arith)
      ∙ get_or-set_other (set l (3 * j) c.x) (3 * j + 1) (3 * j) c.y nan (λ e. omega arith)
      ∙ get_or-set_same l (3 * j) c.x nan (omega arith)

  recorded-y : 3 * j + 2 < length l → entry (recorded l j c) (3 * j + 1) ≡ c.y
  recorded-y h =
      get_or-set_other (set (set l (3 * j) c.x) (3 * j + 1) c.y) (3 * j + 2) (3 * j + 1) c.strength nan (λ e. omega arith)
      ∙ get_or-set_same (set l (3 * j) c.x) (3 * j + 1) c.y nan (subst (λ (m : ℕ). 3 * j + 1 < m) (sym (length-set l (3 * j) c.x)) (omega arith))

  -- ---- and its tile, and that of another
  pub recorded-tile : (w h : ℕ) → 3 * j + 2 < length l → tile_of w h c.x c.y ≡ tile_at w h (recorded l j c) j
  recorded-tile w h g =
      ap (λ (v : Float). tile_of w h v c.y) (sym (recorded-x g)) ∙ ap (λ (v : Float). tile_of w h (entry (recorded l j c) (3 * j)) v) (sym (recorded-y g))

  pub recorded-other-tile : (w h i : ℕ) → i ≢ j → tile_at w h l i ≡ tile_at w h (recorded l j c) i
  recorded-other-tile w h i d =
      ap (λ (v : Float). tile_of w h v (entry l (3 * i + 1))) (sym (recorded-other (3 * i) (λ e. d (omega arith)) (λ e. omega arith) (λ e. omega arith)))
      ∙ ap (λ (v : Float). tile_of w h (entry (recorded l j c) (3 * i)) v) (sym (recorded-other (3 * i + 1) (λ e. omega arith) (λ e. d (omega arith)) (λ e. omega arith)))

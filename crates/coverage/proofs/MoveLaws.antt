-- Entries moved down one by one, then cleared one by one, are the list with a corner dropped; and the tiles of such a list.
use mathlib.Core.Path.{◌≡◌, refl, sym, ap, ◌∙◌}
use mathlib.Core.Logic.{◌≢◌}
use mathlib.Core.Bool.{Bool, true, false, cond}
use mathlib.Core.List.{List}
use Prim.Native.Nat.{ℕ, zero, suc, ◌+◌, ◌-◌, ◌*◌, ◌≤◌, ◌<◌}
use native.Mathlib.Numerals.{lt_of_le_of_ne}
use native.Mathlib.Omega.{arith}
use lib.Dec.{ltb}
use lib.ListN.{length, get_or, set, drop, length-drop}
use Rattle.std.proofs.Math.Seq.{paste, paste-suc}
use Rattle.std.proofs.lemmas.List.Edits.{paste_none}
use Rattle.std.proofs.lemmas.List.{get_or-drop}
use lib.Ieee.{Float, nan}
use borrow.Author.Tests.{ltb-true, ltb-false, lt-ltb, le-ltb}
use Rattle.shapes.specs.Lists.{tabulated}
use Rattle.shapes.specs.Numbers.{plus_zero, entry}
use Rattle.shapes.proofs.ListLaws.{length-tabulated, get_d-tabulated, tabulated-cong, tabulated-by}
use Rattle.corners.specs.Corners.{nowhere, recorded}
use Rattle.coverage.specs.Tiles.{tile_of, tile_at}
use Rattle.coverage.specs.Call.{dropped}
use Rattle.coverage.specs.Steps.{moved_to}
use Rattle.coverage.proofs.EntryLaws.{set-tabulated}

-- a number that is not the limit is below it or not, whether or not the limit is one more
ltb-more : (i k : ℕ) → i ≢ k → ltb i k ≡ ltb i (k + 1)
ltb-more i k d = go (ltb i k) refl
  where
    go : (b : Bool) → ltb i k ≡ b → b ≡ ltb i (k + 1)
    go true e = sym (lt-ltb i (k + 1) (let l = ltb-true i k e in omega arith))
    go false e = sym (le-ltb i (k + 1) (let l : k < i = lt_of_le_of_ne (ltb-false i k e) (λ q. d (sym q)) in omega arith))

-- ---- three pieces: below a, below b, and the rest
module _ {A : Type 0} (x y z : A) (a b i : ℕ) where
  abbrev pieced : A
  pieced = cond (ltb i a) x (cond (ltb i b) y z)

  first_piece : i < a → pieced ≡ x
  first_piece h = ap (λ (t : Bool). cond t x (cond (ltb i b) y z)) (lt-ltb i a h)

  second-piece : a ≤ i → i < b → pieced ≡ y
  second-piece h l = ap (λ (t : Bool). cond t x (cond (ltb i b) y z)) (le-ltb i a h) ∙ ap (λ (t : Bool). cond t y z) (lt-ltb i b l)

  last-piece : a ≤ i → b ≤ i → pieced ≡ z
  last-piece h l = ap (λ (t : Bool). cond t x (cond (ltb i b) y z)) (le-ltb i a h) ∙ ap (λ (t : Bool). cond t y z) (le-ltb i b l)

same-pieces : {A : Type 0} (t : Bool) (x y : A) → cond t x (cond t y x) ≡ x
same-pieces true x y = refl
same-pieces false x y = refl

more-pieces : {A : Type 0} (t : Bool) (y u z : A) → cond t y z ≡ cond t y (cond t u z)
more-pieces true y u z = refl
more-pieces false y u z = refl

-- ---- moved down, entry by entry
module _ (list : List Float) (a : ℕ) where
  abbrev moved_at : ℕ → ℕ → Float
  moved_at b i = pieced (entry list i) (entry list (i + 3)) (entry list i) a b i

  moved_none : list ≡ moved_to a a list
  unfolding moved_to
  moved_none =
      sym
      (tabulated-cong (length list) (moved_at a) (λ i. entry list i) (λ i l. same-pieces (ltb i a) (entry list i) (entry list (i + 3)))
      ∙ tabulated-by (length list) nan list refl)

  moved_more : (b : ℕ) → a ≤ b → b < length list → set (moved_to a b list) b (entry list (b + 3)) ≡ moved_to a (b + 1) list
  unfolding moved_to
  moved_more b h l =
      set-tabulated (length list) (moved_at b) (moved_at (b + 1)) b l _
      (sym (second-piece (entry list b) (entry list (b + 3)) (entry list b) a (b + 1) b h (omega arith)))
      (λ i g d. ap (λ (t : Bool). cond (ltb i a) (entry list i) (cond t (entry list (i + 3)) (entry list i))) (ltb-more i b d))

  -- so many copied from three places on
  pub copied : (n : ℕ) → a + n + 3 ≤ length list → paste list a (drop (a + 3) list) n ≡ moved_to a (a + n) list
  copied zero h = sym (paste_none list a (drop (a + 3) list)) ∙ moved_none ∙ ap (λ (b : ℕ). moved_to a b list) (let e : a ≡ a + 0 = omega arith in e)
  copied (suc n) h =
      let behind = drop (a + 3) list in
      sym (paste-suc list a behind n nan (omega arith) (omega (arith, length-drop (a + 3) list)))
      ∙ ap (λ (l : List Float). set l (a + n) (get_or behind n nan)) (copied n (omega arith))
      ∙ ap (λ (v : Float). set (moved_to a (a + n) list) (a + n) v) (get_or-drop (a + 3) list n nan ∙ ap (λ (k : ℕ). entry list k) (let e : a + 3 + n ≡ a + n + 3 = omega arith in e))
      ∙ moved_more (a + n) (omega arith) (omega arith)
      ∙ ap (λ (b : ℕ). moved_to a b list) (let e : a + n + 1 ≡ a + suc n = omega arith in e)

  -- ---- then cleared
  module _ (b : ℕ) where
    abbrev cleared_at : ℕ → ℕ → Float
    cleared_at e i = pieced (entry list i) (entry list (i + 3)) (cond (ltb i e) plus_zero (entry list i)) a b i

    cleared-none : moved_to a b list ≡ tabulated (length list) (cleared_at b)
    unfolding moved_to
    cleared-none =
        tabulated-cong (length list) (moved_at b) (cleared_at b)
        (λ i l. ap (λ (v : Float). cond (ltb i a) (entry list i) v) (more-pieces (ltb i b) (entry list (i + 3)) plus_zero (entry list i)))

    cleared_more : (e d : ℕ) → d ≡ e + 1 → a ≤ e → b ≤ e → e < length list → set (tabulated (length list) (cleared_at e)) e plus_zero ≡ tabulated (length list) (cleared_at d)
    cleared_more e d q h g l =
        set-tabulated (length list) (cleared_at e) (cleared_at (e + 1)) e l plus_zero
        (sym
        (last-piece (entry list e) (entry list (e + 3)) (cond (ltb e (e + 1)) plus_zero (entry list e)) a b e h g
        ∙ ap (λ (t : Bool). cond t plus_zero (entry list e)) (lt-ltb e (e + 1) (omega arith))))
        (λ i m p. ap (λ (t : Bool). pieced (entry list i) (entry list (i + 3)) (cond t plus_zero (entry list i)) a b i) (ltb-more i e p))
        ∙ ap (λ (m : ℕ). tabulated (length list) (cleared_at m)) (sym q)

module _ (list : List Float) (n k : ℕ) (h : k < n) (room : 3 * n ≤ length list) where
  -- the entries behind the dropped corner moved down, and the record that is freed cleared
  pub dropped_by : recorded (paste list (3 * k) (drop (3 * k + 3) list) (3 * n - (3 * k + 3))) (n - 1) nowhere ≡ dropped n k list
  unfolding dropped
  dropped_by =
      let a = 3 * k in
      let b = 3 * (n - 1) in
      ap (λ (l : List Float). recorded l (n - 1) nowhere)
      (copied list a (3 * n - (a + 3)) (omega arith) ∙ ap (λ (m : ℕ). moved_to a m list) (let e : a + (3 * n - (a + 3)) ≡ b = omega arith in e))
      ∙ ap (λ (l : List Float). recorded l (n - 1) nowhere) (cleared-none list a b)
      ∙ ap (λ (l : List Float). set (set l (b + 1) plus_zero) (b + 2) plus_zero) (cleared_more list a b b (b + 1) refl (omega arith) (omega arith) (omega arith))
      ∙ ap (λ (l : List Float). set l (b + 2) plus_zero) (cleared_more list a b (b + 1) (b + 2) (omega arith) (omega arith) (omega arith) (omega arith))
      ∙ cleared_more list a b (b + 2) (3 * n) (omega arith) (omega arith) (omega arith) (omega arith)

  abbrev dropped_at : ℕ → Float
  dropped_at i = pieced (entry list i) (entry list (i + 3)) (cond (ltb i (3 * n)) plus_zero (entry list i)) (3 * k) (3 * (n - 1)) i

  front : (i : ℕ) → i < 3 * k → entry (dropped n k list) i ≡ entry list i
  unfolding dropped
  front i l =
      get_d-tabulated (length list) dropped_at i nan (omega arith)
      ∙ first_piece (entry list i) (entry list (i + 3)) (cond (ltb i (3 * n)) plus_zero (entry list i)) (3 * k) (3 * (n - 1)) i l

  back : (i : ℕ) → 3 * k ≤ i → i < 3 * (n - 1) → entry (dropped n k list) i ≡ entry list (i + 3)
  unfolding dropped
  back i g l =
      get_d-tabulated (length list) dropped_at i nan (omega arith)
      ∙ second-piece (entry list i) (entry list (i + 3)) (cond (ltb i (3 * n)) plus_zero (entry list i)) (3 * k) (3 * (n - 1)) i g l

  pub length-dropped : length (dropped n k list) ≡ length list
  unfolding dropped
  length-dropped = length-tabulated (length list) dropped_at

  -- ---- the tiles before it and behind it
  module _ (width height : ℕ) where
    pub front-tile : (i : ℕ) → i < k → tile_at width height list i ≡ tile_at width height (dropped n k list) i
    front-tile i l =
        ap (λ (v : Float). tile_of width height v (entry list (3 * i + 1))) (sym (front (3 * i) (omega arith)))
        ∙ ap (λ (v : Float). tile_of width height (entry (dropped n k list) (3 * i)) v) (sym (front (3 * i + 1) (omega arith)))

    pub back-tile : (i : ℕ) → k ≤ i → i < n - 1 → tile_at width height list (suc i) ≡ tile_at width height (dropped n k list) i
    back-tile i g l =
        ap (λ (j : ℕ). tile_of width height (entry list j) (entry list (3 * suc i + 1))) (let e : 3 * suc i ≡ 3 * i + 3 = omega arith in e)
        ∙ ap (λ (j : ℕ). tile_of width height (entry list (3 * i + 3)) (entry list j)) (let e : 3 * suc i + 1 ≡ 3 * i + 1 + 3 = omega arith in e)
        ∙ ap (λ (v : Float). tile_of width height v (entry list (3 * i + 1 + 3))) (sym (back (3 * i) (omega arith) (omega arith)))
        ∙ ap (λ (v : Float). tile_of width height (entry (dropped n k list) (3 * i)) v) (sym (back (3 * i + 1) (omega arith) (omega arith)))

-- The grid: cells and their numbers, the nine cells round a corner, and the chains as corners are put into cells.
use mathlib.Core.Path.{◌≡◌, refl, sym, ap, ◌∙◌, subst}
use mathlib.Core.Logic.{⊎_elim}
use mathlib.Core.Bool.{Bool, true, false, ◌&&◌, ◌||◌, and-eq-true_iff, and-false, and_comm}
use mathlib.Core.List.{List, [], ◌∷◌, ◌++◌, map}
use Prim.Native.Nat.{ℕ, zero, suc, ◌+◌, ◌-◌, ◌*◌, ◌/◌, ◌%◌, ◌≤◌, ◌<◌}
use native.Mathlib.Nat.{not-suc-le-zero, le_of_suc-le-suc, le_trans, lt_of_lt_of_le, le-mul_of_pos_right, suc-mul, mul_comm, mul-le-mul_right, min-le_right, mul-add-div_right, div-eq_of_lt, mul-add-mod_self_right, mod-eq_of_lt, add-zero}
use native.Mathlib.Numerals.{add-one}
use native.Mathlib.Decide.{ℕ_discrete}
use native.Mathlib.Omega.{arith}
use lib.Dec.{eqb, leb}
use lib.ListN.{length, get_or, set, take, length-map, length-set, length-append}
use lib.Seq.{length-take-le, get_or-take, take-set-lt, take-suc-set, get_or-set_same, get_or-set_other, set-set, set_at, get_or_at}
use lib.Ieee.{Float, binary32, sub, mul, to_unsigned}
use borrow.Author.Tests.{eq-eqb, ne_eqb, eqb-true, leb-true, le-leb}
use Rattle.corners.proofs.CornerLaws.{length-corners}
use Rattle.corners.specs.Corners.{corners_of, nowhere, corner_at}
use Rattle.corners.specs.declared.Corner.{Corner}
use Rattle.merge.specs.declared.Cells.{Cells}
use Rattle.merge.specs.declared.Disc.{Disc}
use Rattle.merge.specs.Meets.{near, touch}
use Rattle.merge.specs.Steps.{within, lowest_below, top, Chains, Falling, in_cell, Walked, Member, Unlinked, Joinable, Linked, column_in, row_in, cell_in, total, cells_of, meets_in, Roomy, Chained, column_at, row_at, in_one_cell, in_three_cells, in_nine_cells}
use Rattle.shapes.proofs.TestLaws.{either}
use Rattle.merge.proofs.LowestLaws.{or_left, or_right, same_bool, lowest-three, lowest-same, lowest-none}
use Rattle.merge.proofs.ChainLaws.{top-le, top-none, top-hit, top_above, chain-falling, chains-more}

-- ---- tests
or-and : (a b p : Bool) → ((a && p) || (b && p)) ≡ ((a || b) && p)
or-and true b true = refl
or-and true b false = and-false b
or-and false b p = refl

-- a test that is common to three
common : (a b c t p q : Bool) → (a || b || c) ≡ t → (a && p && q || b && p && q || c && p && q) ≡ (t && p && q)
common a b c t p q e =
    ap (λ (z : Bool). z || c && p && q) (or-and (a && p) (b && p) q)
    ∙ or-and (a && p || b && p) (c && p) q
    ∙ ap (λ (z : Bool). (z || c && p) && q) (or-and a b p)
    ∙ ap (λ (z : Bool). z && q) (or-and (a || b) c p)
    ∙ ap (λ (z : Bool). z && p && q) e

common-first : (t a b c s q : Bool) → (a || b || c) ≡ s → (t && a && q || t && b && q || t && c && q) ≡ (t && s && q)
common-first t a b c s q e =
    ap (λ (z : Bool). z && q || t && b && q || t && c && q) (and_comm t a)
    ∙ ap (λ (z : Bool). a && t && q || z && q || t && c && q) (and_comm t b)
    ∙ ap (λ (z : Bool). a && t && q || b && t && q || z && q) (and_comm t c)
    ∙ common a b c s t q e
    ∙ ap (λ (z : Bool). z && q) (and_comm s t)

-- the three numbers that touch a, each one more than it is
abbrev one_of_three : ℕ → ℕ → Bool
one_of_three a b = eqb (b + 1) a || eqb (b + 1) (a + 1) || eqb (b + 1) (a + 2)

touch-three : (a b : ℕ) → one_of_three a b ≡ touch a b
touch-three a b = same_bool (one_of_three a b) (touch a b) there back
  where
    near_by : a ≤ b + 1 → b ≤ a + 1 → touch a b ≡ true
    near_by p q = (and-eq-true_iff (leb a (b + 1)) (leb b (a + 1))).1 ((le-leb a (b + 1) p), (le-leb b (a + 1) q))

    low : (eqb (b + 1) a || eqb (b + 1) (a + 1)) ≡ true → touch a b ≡ true
    low t =
        ⊎_elim
        (λ u. let e = eqb-true (b + 1) a u in near_by (omega arith) (omega arith))
        (λ u. let e = eqb-true (b + 1) (a + 1) u in near_by (omega arith) (omega arith))
        (either (eqb (b + 1) a) (eqb (b + 1) (a + 1)) t)

    there : one_of_three a b ≡ true → touch a b ≡ true
    there t = ⊎_elim low (λ u. let e = eqb-true (b + 1) (a + 2) u in near_by (omega arith) (omega arith)) (either (eqb (b + 1) a || eqb (b + 1) (a + 1)) (eqb (b + 1) (a + 2)) t)

    first : (eqb (b + 1) a || eqb (b + 1) (a + 1)) ≡ true → one_of_three a b ≡ true
    first = or_left (eqb (b + 1) a || eqb (b + 1) (a + 1)) (eqb (b + 1) (a + 2))

    pick : a ≤ b + 1 → b ≤ a + 1 → Dec (b + 1 ≡ a) → Dec (b ≡ a) → one_of_three a b ≡ true
    pick p q (yes e) d = first (or_left (eqb (b + 1) a) (eqb (b + 1) (a + 1)) (eq-eqb (b + 1) a e))
    pick p q (no e) (yes d) = first (or_right (eqb (b + 1) a) (eqb (b + 1) (a + 1)) (eq-eqb (b + 1) (a + 1) (omega arith)))
    pick p q (no e) (no d) = or_right (eqb (b + 1) a || eqb (b + 1) (a + 1)) (eqb (b + 1) (a + 2)) (eq-eqb (b + 1) (a + 2) (omega arith))

    back : touch a b ≡ true → one_of_three a b ≡ true
    back t = let w = (and-eq-true_iff (leb a (b + 1)) (leb b (a + 1))).0 t in pick (leb-true a (b + 1) w.0) (leb-true b (a + 1) w.1) (ℕ_discrete (b + 1) a) (ℕ_discrete b a)

-- ---- cells and their numbers
pub column_lt : (g : Cells) (v : Float) → 0 < g.across → column_in g v < g.across
unfolding column_in
column_lt g v h = omega (arith, min-le_right (to_unsigned 64 (mul binary32 (sub binary32 v g.left) g.inv)) (g.across - 1))

pub row_lt : (g : Cells) (v : Float) → 0 < g.down → row_in g v < g.down
unfolding row_in
row_lt g v h = omega (arith, min-le_right (to_unsigned 64 (mul binary32 (sub binary32 v g.top) g.inv)) (g.down - 1))

pub cell_lt : (w h r a : ℕ) → r < h → a < w → r * w + a < w * h
cell_lt w h r a p q =
    let e : suc r * w ≤ w * h = subst (λ (n : ℕ). suc r * w ≤ n) (mul_comm h w) (mul-le-mul_right w p) in
    go (r * w) (suc r * w) (w * h) (suc-mul r w) e
  where
    go : (m s n : ℕ) → s ≡ m + w → s ≤ n → m + a < n
    go m s n e l = omega arith

pub cell_inside : (g : Cells) {heads : List ℕ} → Roomy g heads → (new : Corner) (c : ℕ) → c ≡ cell_in g new → c < total g
cell_inside g r new c e =
    subst (λ (m : ℕ). m < total g) (sym e)
    (cell_lt g.across g.down (row_in g new.y) (column_in g new.x) (row_lt g new.y r.high) (column_lt g new.x r.wide))

row-part : (w r a : ℕ) → a < w → (r * w + a) / w ≡ r
row-part w r a h = mul-add-div_right {m = w} (let z : 0 < w = omega arith in z) r a ∙ ap (λ (k : ℕ). r + k) (div-eq_of_lt h) ∙ add-zero r

column-part : (w r a : ℕ) → a < w → (r * w + a) % w ≡ a
column-part w r a h = mul-add-mod_self_right r w a ∙ mod-eq_of_lt h

-- a cell's number tells its row and its column
same-cell : (w r a s b : ℕ) → a < w → b < w → eqb (r * w + a) (s * w + b) ≡ (eqb a b && eqb r s)
same-cell w r a s b p q =
    same_bool (eqb (r * w + a) (s * w + b)) (eqb a b && eqb r s)
    (λ t. let e = eqb-true (r * w + a) (s * w + b) t in (and-eq-true_iff (eqb a b) (eqb r s)).1 ((eq-eqb a b (sym (column-part w r a p) ∙ ap (λ (k : ℕ). k % w) e ∙ column-part w s b q)), (eq-eqb r s (sym (row-part w r a p) ∙ ap (λ (k : ℕ). k / w) e ∙ row-part w s b q))))
    (λ t. let u = (and-eq-true_iff (eqb a b) (eqb r s)).0 t in eq-eqb (r * w + a) (s * w + b) (ap (λ (k : ℕ). r * w + k) (eqb-true a b u.0) ∙ ap (λ (k : ℕ). k * w + b) (eqb-true r s u.1)))

-- a number and one more than it
one_more : (a b : ℕ) → 0 < b → eqb a (b - 1) ≡ eqb (a + 1) b
one_more a b h =
    same_bool (eqb a (b - 1)) (eqb (a + 1) b) (λ t. let e = eqb-true a (b - 1) t in eq-eqb (a + 1) b (omega arith)) (λ t. let e = eqb-true (a + 1) b t in eq-eqb a (b - 1) (omega arith))

-- ---- the cells of the kept corners
get_d_map : {A : Type 0} (f : A → ℕ) (l : List A) (j z : ℕ) (d : A) → j < length l → get_or (map f l) j z ≡ f (get_or l j d)
get_d_map f [] j z d h = absurd (not-suc-le-zero h)
get_d_map f (x ∷ l) zero z d h = refl
get_d_map f (x ∷ l) (suc j) z d h = get_d_map f l j z d (le_of_suc-le-suc h)

map-set : {A : Type 0} (f : A → ℕ) (l : List A) (j : ℕ) (a : A) → map f (set l j a) ≡ set (map f l) j (f a)
map-set f [] j a = refl
map-set f (x ∷ l) zero a = refl
map-set f (x ∷ l) (suc j) a = ap (λ (t : List ℕ). f x ∷ t) (map-set f l j a)

map_snoc : {A : Type 0} (f : A → ℕ) (l : List A) (a : A) → map f (l ++ a ∷ []) ≡ map f l ++ f a ∷ []
map_snoc f [] a = refl
map_snoc f (x ∷ l) a = ap (λ (t : List ℕ). f x ∷ t) (map_snoc f l a)

module _ (g : Cells) (list : List Float) (n : ℕ) (there : 3 * n ≤ length list) where
  counted : length (take n (corners_of list)) ≡ n
  counted = length-take-le n (corners_of list) (omega (arith, length-corners list))

  pub cells_length : length (cells_of g list n) ≡ n
  cells_length = length-map (take n (corners_of list)) (cell_in g) ∙ counted

  pub cells_at : (j : ℕ) → j < n → get_or (cells_of g list n) j 0 ≡ cell_in g (corner_at (corners_of list) j)
  cells_at j h = get_d_map (cell_in g) (take n (corners_of list)) j 0 nowhere (omega (arith, counted)) ∙ ap (cell_in g) (get_or-take n (corners_of list) j nowhere h)

  pub cells_in : 0 < g.across → 0 < g.down → (j : ℕ) → j < n → get_or (cells_of g list n) j 0 < total g
  cells_in wide high j h =
      subst (λ (k : ℕ). k < total g) (sym (cells_at j h)) (cell_lt g.across g.down (row_at g list j) (column_at g list j) (row_lt g (corner_at (corners_of list) j).y high) (column_lt g (corner_at (corners_of list) j).x wide))

-- ---- one cell, three cells, nine cells
module _ {g : Cells} {list : List Float} {n : ℕ} {heads links : List ℕ} (k : Chained g list n heads links) where
  pub cell_falling : (c : ℕ) → c < total g → Falling links 0 (get_or heads c 0)
  cell_falling c h =
      chain-falling (total g) (cells_of g list n) heads links 0 c k.chains (omega (arith, cells_length g list n k.there)) h (λ i a b. cells_in g list n k.there k.roomy.wide k.roomy.high i (omega (arith, cells_length g list n k.there)))

  pub cell_few : (c : ℕ) → c < total g → get_or heads c 0 ≤ n
  cell_few c h =
      subst (λ (m : ℕ). m ≤ n) (sym (k.chains.tops c h)) (omega (arith, top-le (cells_of g list n) c (length (cells_of g list n)), cells_length g list n k.there))

  module _ (d : Disc) (best : ℕ) where
    other-column : (column row : ℕ) → ((j : ℕ) → column_at g list j + 1 ≡ column → ⊥) → best ≡ lowest_below (in_one_cell g list d column row) n best
    other-column column row none =
        lowest-none (in_one_cell g list d column row) n best
        (λ j h. ap (λ (t : Bool). t && eqb (row_at g list j) row && within d list j) (ne_eqb (column_at g list j + 1) column (none j)))

    pub no-column : (column row : ℕ) → column ≡ 0 → best ≡ lowest_below (in_one_cell g list d column row) n best
    no-column column row e = other-column column row (λ j q. let z : ⊥ = omega arith in z)

    pub past-column : (column row : ℕ) → g.across < column → best ≡ lowest_below (in_one_cell g list d column row) n best
    past-column column row e = other-column column row (λ j q. let z : ⊥ = omega (arith, column_lt g (corner_at (corners_of list) j).x k.roomy.wide) in z)

    pub walked-in : (c r : ℕ) → c < total g → Walked list links (get_or heads c 0) d best r → r ≡ lowest_below (in_cell (cells_of g list n) c (within d list)) n best
    walked-in c r l walked =
        walked (total g) c (cells_of g list n) k.chains.nexts l (k.chains.tops c l)
        ∙ ap (λ (m : ℕ). lowest_below (in_cell (cells_of g list n) c (within d list)) m best) (cells_length g list n k.there)

    -- a cell without a chain has nothing
    pub empty-in : (c : ℕ) → c < total g → get_or heads c 0 ≡ 0 → best ≡ lowest_below (in_cell (cells_of g list n) c (within d list)) n best
    empty-in c l e =
        lowest-none (in_cell (cells_of g list n) c (within d list)) n best
        (λ j h. ap (λ (t : Bool). t && within d list j) (ne_eqb (get_or (cells_of g list n) j 0) c (top-none (cells_of g list n) c (length (cells_of g list n)) j (below j) (omega (arith, cells_length g list n k.there)))))
      where
        below : (j : ℕ) → top (cells_of g list n) c (length (cells_of g list n)) ≤ j
        below j = subst (λ (m : ℕ). m ≤ j) (sym e ∙ k.chains.tops c l) (omega arith)

    pub cell-one :
        (column row : ℕ) → 0 < column → column ≤ g.across
        → lowest_below (in_cell (cells_of g list n) (row * g.across + (column - 1)) (within d list)) n best ≡ lowest_below (in_one_cell g list d column row) n best
    cell-one column row low high =
        lowest-same (in_cell (cells_of g list n) (row * g.across + (column - 1)) (within d list)) (in_one_cell g list d column row) n best (λ j h. ap (λ (t : Bool). t && within d list j) (same j h))
      where
        same : (j : ℕ) → j < n → eqb (get_or (cells_of g list n) j 0) (row * g.across + (column - 1)) ≡ (eqb (column_at g list j + 1) column && eqb (row_at g list j) row)
        same j h =
            ap (λ (m : ℕ). eqb m (row * g.across + (column - 1))) (cells_at g list n k.there j h)
            ∙ same-cell g.across (row_at g list j) (column_at g list j) row (column - 1) (column_lt g (corner_at (corners_of list) j).x k.roomy.wide) (omega arith)
            ∙ ap (λ (t : Bool). t && eqb (row_at g list j) row) (one_more (column_at g list j) column low)

    other_row : (column row : ℕ) → ((j : ℕ) → row_at g list j + 1 ≡ row → ⊥) → best ≡ lowest_below (in_three_cells g list d column row) n best
    other_row column row none = lowest-none (in_three_cells g list d column row) n best fails
      where
        fails : (j : ℕ) → j < n → in_three_cells g list d column row j ≡ false
        fails j h =
            ap (λ (t : Bool). touch column (column_at g list j) && t && within d list j) (ne_eqb (row_at g list j + 1) row (none j))
            ∙ ap (λ (t : Bool). t && within d list j) (and-false (touch column (column_at g list j)))

    pub no_row : (column row : ℕ) → row ≡ 0 → best ≡ lowest_below (in_three_cells g list d column row) n best
    no_row column row e = other_row column row (λ j q. let z : ⊥ = omega arith in z)

    pub past_row : (column row : ℕ) → g.down < row → best ≡ lowest_below (in_three_cells g list d column row) n best
    past_row column row e = other_row column row (λ j q. let z : ⊥ = omega (arith, row_lt g (corner_at (corners_of list) j).y k.roomy.high) in z)

    pub three-cells :
        (column row a b r : ℕ) → 0 < row → a ≡ lowest_below (in_one_cell g list d column (row - 1)) n best
        → b ≡ lowest_below (in_one_cell g list d (column + 1) (row - 1)) n a → r ≡ lowest_below (in_one_cell g list d (column + 2) (row - 1)) n b
        → r ≡ lowest_below (in_three_cells g list d column row) n best
    three-cells column row a b r low ea eb er =
        er
        ∙ ap (lowest_below (in_one_cell g list d (column + 2) (row - 1)) n) (eb ∙ ap (lowest_below (in_one_cell g list d (column + 1) (row - 1)) n) ea)
        ∙ lowest-three (in_one_cell g list d column (row - 1)) (in_one_cell g list d (column + 1) (row - 1)) (in_one_cell g list d (column + 2) (row - 1)) (in_three_cells g list d column row) n best
        (λ j h. any (column_at g list j) (row_at g list j) (within d list j))
      where
        any : (a b : ℕ) (q : Bool) → (eqb (a + 1) column && eqb b (row - 1) && q || eqb (a + 1) (column + 1) && eqb b (row - 1) && q || eqb (a + 1) (column + 2) && eqb b (row - 1) && q) ≡ (touch column a && eqb (b + 1) row && q)
        any a b q =
            common (eqb (a + 1) column) (eqb (a + 1) (column + 1)) (eqb (a + 1) (column + 2)) (touch column a) (eqb b (row - 1)) q (touch-three column a)
            ∙ ap (λ (t : Bool). touch column a && t && q) (one_more b row low)

    pub nine-cells :
        (column row a b r : ℕ) → a ≡ lowest_below (in_three_cells g list d column row) n best
        → b ≡ lowest_below (in_three_cells g list d column (row + 1)) n a → r ≡ lowest_below (in_three_cells g list d column (row + 2)) n b
        → r ≡ lowest_below (in_nine_cells g list d column row) n best
    nine-cells column row a b r ea eb er =
        er
        ∙ ap (lowest_below (in_three_cells g list d column (row + 2)) n) (eb ∙ ap (lowest_below (in_three_cells g list d column (row + 1)) n) ea)
        ∙ lowest-three (in_three_cells g list d column row) (in_three_cells g list d column (row + 1)) (in_three_cells g list d column (row + 2)) (in_nine_cells g list d column row) n best
        (λ j h. any (touch column (column_at g list j)) (row_at g list j) (within d list j))
      where
        any : (t : Bool) (b : ℕ) (q : Bool) → (t && eqb (b + 1) row && q || t && eqb (b + 1) (row + 1) && q || t && eqb (b + 1) (row + 2) && q) ≡ (t && touch row b && q)
        any t b q = common-first t (eqb (b + 1) row) (eqb (b + 1) (row + 1)) (eqb (b + 1) (row + 2)) (touch row b) q (touch-three row b)

-- ---- a corner's number changes its cell, or is new
module _ {g : Cells} {list : List Float} {n : ℕ} {heads links : List ℕ} (k : Chained g list n heads links) where
  long : length (cells_of g list n) ≡ n
  long = cells_length g list n k.there

  all_in : (i : ℕ) → i < length (cells_of g list n) → get_or (cells_of g list n) i 0 < total g
  all_in i h = cells_in g list n k.there k.roomy.wide k.roomy.high i (omega (arith, long))

  -- a kept corner stands in the chain of its cell
  pub kept_member : (j : ℕ) → j < n → (c : ℕ) → c ≡ cell_in g (corner_at (corners_of list) j) → Member heads links c j
  kept_member j h c e =
      let here : get_or (cells_of g list n) j 0 ≡ c = cells_at g list n k.there j h ∙ sym e in
      let inside : c < total g = subst (λ (m : ℕ). m < total g) here (all_in j (omega (arith, long))) in
      let room = k.roomy.room in
      let linked = k.linked in
      let high : j < top (cells_of g list n) c (length (cells_of g list n)) = top_above (cells_of g list n) c (length (cells_of g list n)) j (omega (arith, long)) here in
      record {
        cell = omega arith;
        own = omega arith;
        high = subst (λ (m : ℕ). j < m) (sym (k.chains.tops c inside)) high;
        falling =
            chain-falling (total g) (cells_of g list n) heads links (j + 1) c k.chains (omega (arith, long)) inside (λ i a. all_in i);
      }

  pub kept_leaves :
      (j : ℕ) → j < n → (c : ℕ) → c ≡ cell_in g (corner_at (corners_of list) j) → (heads' links' : List ℕ)
      → Unlinked heads links c j heads' links' → Chains (total g) (set (cells_of g list n) j (total g)) heads' links'
  kept_leaves j h c e heads' links' unlinked =
      let here : get_or (cells_of g list n) j 0 ≡ c = cells_at g list n k.there j h ∙ sym e in
      unlinked (total g) (cells_of g list n) k.chains (subst (λ (m : ℕ). m < total g) here (all_in j (omega (arith, long)))) (omega (arith, long)) here

  -- one that left can join any chain
  pub left_joins :
      (j : ℕ) → j < n → j < 4096 → (c : ℕ) → c < total g → (heads' links' : List ℕ) → length heads' ≡ length heads
      → length links' ≡ length links → Chains (total g) (set (cells_of g list n) j (total g)) heads' links' → Joinable heads' links' c j
  left_joins j h small c inside heads' links' hs ls chains =
      let room = k.roomy.room in
      let linked = k.linked in
      let same : length (set (cells_of g list n) j (total g)) ≡ length (cells_of g list n) = length-set (cells_of g list n) j (total g) in
      let own : j < length (cells_of g list n) = omega (arith, long) in
      record {
        cell = omega arith;
        own = omega arith;
        small = small;
        absent =
            λ e. let z : total g ≡ c = sym (get_or-set_same (cells_of g list n) j (total g) 0 own) ∙ top-hit (set (cells_of g list n) j (total g)) c (length (set (cells_of g list n) j (total g))) j (sym (chains.tops c inside) ∙ e ∙ add-one j) in let y : ⊥ = omega arith in y;
        falling =
            chain-falling (total g) (set (cells_of g list n) j (total g)) heads' links' (j + 1) c chains (omega (arith, long)) inside
            (λ i a b. subst (λ (m : ℕ). m < total g) (sym (get_or-set_other (cells_of g list n) j i (total g) 0 (λ q. let z : ⊥ = omega arith in z))) (all_in i (omega arith)));
      }

  pub joined_again :
      (j : ℕ) → j < n → (new : Corner) (c : ℕ) → c ≡ cell_in g new → (heads' links' heads'' links'' : List ℕ) (list' : List Float)
      → length heads'' ≡ length heads → length links'' ≡ length links → length list' ≡ length list
      → corners_of list' ≡ set (corners_of list) j new → Chains (total g) (set (cells_of g list n) j (total g)) heads' links'
      → Linked heads' links' c j heads'' links'' → Chained g list' n heads'' links''
  joined_again j h new c e heads' links' heads'' links'' list' hs ls same put chains linked =
      let room = k.roomy.room in
      let lk = k.linked in
      let th = k.there in
      let cs = cells_of g list n in
      let inside : c < total g = cell_inside g k.roomy new c e in
      let own : j < length cs = omega (arith, long) in
      record {
        roomy = record { wide = k.roomy.wide; high = k.roomy.high; room = omega arith };
        linked = omega arith;
        there = omega arith;
        chains =
            subst (λ (l : List ℕ). Chains (total g) l heads'' links'')
            (set-set cs j (total g) c ∙ ap (set cs j) e ∙ sym (map-set (cell_in g) (take n (corners_of list)) j new) ∙ ap (map (cell_in g)) (sym (take-set-lt n (corners_of list) j new h) ∙ ap (take n) (sym put)))
            (linked (total g) (set cs j (total g)) chains inside (subst (λ (m : ℕ). j < m) (sym (length-set cs j (total g))) own) (get_or-set_same cs j (total g) 0 own));
      }

  -- the next number is in no chain
  pub new_joins : n < 4096 → n < length links → (c : ℕ) → c < total g → Joinable heads links c n
  new_joins small own c inside =
      let room = k.roomy.room in
      let few : get_or heads c 0 ≤ n = cell_few k c inside in
      record { cell = omega arith; own = own; small = small; absent = λ e. let z : ⊥ = omega arith in z; falling = record { room = omega arith; falls = λ j a b. absurd (let z : ⊥ = omega arith in z) } }

  pub joined_new :
      (new : Corner) (c : ℕ) → c ≡ cell_in g new → (heads' links' : List ℕ) (list' : List Float) → length heads' ≡ length heads
      → length links' ≡ length links → length list' ≡ length list → n < length links → 3 * n + 2 < length list
      → corners_of list' ≡ set (corners_of list) n new → Linked heads links c n heads' links' → Chained g list' (n + 1) heads' links'
  joined_new new c e heads' links' list' hs ls same own room' put linked =
      let room = k.roomy.room in
      let cs = cells_of g list n in
      let inside : c < total g = cell_inside g k.roomy new c e in
      let one-longer : take n (corners_of list) ++ new ∷ [] ≡ take (n + 1) (corners_of list') = sym (take-suc-set (corners_of list) n new (omega (arith, length-corners list))) ∙ ap (λ (m : ℕ). take m (set (corners_of list) n new)) (sym (add-one n)) ∙ ap (take (n + 1)) (sym put) in
      record {
        roomy = record { wide = k.roomy.wide; high = k.roomy.high; room = omega arith };
        linked = omega arith;
        there = omega arith;
        chains =
            subst (λ (l : List ℕ). Chains (total g) l heads' links')
            (set_at cs (total g) [] c n long ∙ ap (λ (m : ℕ). cs ++ m ∷ []) e ∙ sym (map_snoc (cell_in g) (take n (corners_of list)) new) ∙ ap (map (cell_in g)) one-longer)
            (linked (total g) (cs ++ total g ∷ []) (chains-more (total g) cs heads links k.chains) inside (omega (arith, long, length-append cs (total g ∷ []))) (get_or_at cs (total g) [] 0 n long));
      }

-- no corner is kept at first
pub none_chained : {g : Cells} {list : List Float} {heads links : List ℕ} → Roomy g heads → ((c : ℕ) → c < total g → get_or heads c 0 ≡ 0) → Chained g list 0 heads links
unfolding top
none_chained roomy zeros =
    record { roomy = roomy; linked = omega arith; there = omega arith; chains = record { tops = zeros; nexts = λ j h. absurd (not-suc-le-zero h) } }

-- what is found in the nine cells is whom the corner meets
pub nine_meets :
    (g : Cells) (list : List Float) (new : Corner) (r2 : Float) (count column row met : ℕ)
    → column ≡ column_in g new.x → row ≡ row_in g new.y
    → met ≡ lowest_below (in_nine_cells g list (record { x = new.x; y = new.y; r2 = r2 }) column row) count count
    → met ≡ lowest_below (λ j. meets_in g r2 new (corner_at (corners_of list) j)) count count
unfolding near within
nine_meets g list new r2 count column row met ec er e =
    e
    ∙ ap (λ (m : ℕ). lowest_below (in_nine_cells g list (record { x = new.x; y = new.y; r2 = r2 }) m row) count count) ec
    ∙ ap (λ (m : ℕ). lowest_below (in_nine_cells g list (record { x = new.x; y = new.y; r2 = r2 }) (column_in g new.x) m) count count) er

-- ---- what fits the heads
pub across_room : (g : Cells) {heads : List ℕ} → Roomy g heads → g.across ≤ length heads
across_room g r = le_trans (le-mul_of_pos_right g.across r.high) r.room

pub down_room : (g : Cells) {heads : List ℕ} → Roomy g heads → g.down ≤ length heads
down_room g r = le_trans (subst (λ (m : ℕ). g.down ≤ m) (mul_comm g.down g.across) (le-mul_of_pos_right g.down r.wide)) r.room

pub cell_room : (g : Cells) {heads : List ℕ} → Roomy g heads → (row a : ℕ) → row < g.down → a < g.across → row * g.across + a < length heads
cell_room g r row a p q = lt_of_lt_of_le (cell_lt g.across g.down row a p q) r.room

-- ---- a corner's cell, by its column and row
pub cell_of : (g : Cells) (new : Corner) (column row : ℕ) → column ≡ column_in g new.x → row ≡ row_in g new.y → row * g.across + column ≡ cell_in g new
cell_of g new column row ec er = ap (λ (m : ℕ). m * g.across + column) er ∙ ap (λ (m : ℕ). row_in g new.y * g.across + m) ec

-- Noted cells: what each way out of a note finds, and a walk of one more of them.
use mathlib.Core.Path.{◌≡◌, refl, sym, ap, ◌∙◌, subst}
use mathlib.Core.Bool.{Bool}
use mathlib.Core.List.{List}
use Prim.Native.Nat.{ℕ, zero, suc, ◌+◌, ◌-◌, ◌*◌, ◌≤◌, ◌<◌}
use native.Mathlib.Nat.{le_refl}
use native.Mathlib.Numerals.{add-one}
use native.Mathlib.Decide.{ℕ_discrete}
use native.Mathlib.Omega.{arith}
use lib.ListN.{length, get_or, set, length-set}
use lib.Seq.{get_or-set_same, get_or-set_other}
use lib.Ieee.{Float}
use Rattle.merge.specs.declared.Cells.{Cells}
use Rattle.merge.specs.declared.Disc.{Disc}
use Rattle.merge.specs.Steps.{within, lowest_below, in_cell, total, cells_of, Chained, Walked, in_one_cell, in_three_cells, in_nine_cells, lowest_noted, Noted, NotedMore, Sought}
use Rattle.merge.proofs.GridLaws.{cell_lt, no-column, past-column, walked-in, empty-in, cell-one, no_row, past_row, three-cells, nine-cells}

-- only the first k notes count
noted-frame :
    (g : Cells) (list : List Float) (n : ℕ) (d : Disc) (notes notes' : List ℕ) (k best : ℕ)
    → ((i : ℕ) → i < k → get_or notes' i 0 ≡ get_or notes i 0) → lowest_noted g list n d notes' k best ≡ lowest_noted g list n d notes k best
unfolding lowest_noted
noted-frame g list n d notes notes' zero best same = refl
noted-frame g list n d notes notes' (suc k) best same =
    ap (λ (c : ℕ). lowest_below (in_cell (cells_of g list n) c (within d list)) n (lowest_noted g list n d notes' k best)) (same k (le_refl (suc k)))
    ∙ ap (lowest_below (in_cell (cells_of g list n) (get_or notes k 0) (within d list)) n) (noted-frame g list n d notes notes' k best (λ i h. same i (let z : i < suc k = omega arith in z)))

noted-next :
    (g : Cells) (list : List Float) (n : ℕ) (d : Disc) (notes : List ℕ) (k best : ℕ)
    → lowest_noted g list n d notes (k + 1) best ≡ lowest_below (in_cell (cells_of g list n) (get_or notes k 0) (within d list)) n (lowest_noted g list n d notes k best)
unfolding lowest_noted
noted-next g list n d notes k best = ap (λ (m : ℕ). lowest_noted g list n d notes m best) (add-one k)

set_before : (notes : List ℕ) (k c i : ℕ) → i < k → get_or (set notes k c) i 0 ≡ get_or notes i 0
set_before notes k c i h = get_or-set_other notes k i c 0 (λ q. let z : ⊥ = omega arith in z)

module _ (g : Cells) (heads notes : List ℕ) (k : ℕ) (noted : Noted g notes k) where
  -- nothing is noted where the cells are not there
  nothing-more : (most : ℕ) (test : List Float → Disc → ℕ → Bool) → ((list : List Float) (n : ℕ) (links : List ℕ) → Chained g list n heads links → (d : Disc) (best : ℕ) → best ≡ lowest_below (test list d) n best) → NotedMore most g heads test notes k notes k
  nothing-more most test none =
      record { few = omega arith; noted = noted; finds = λ list n links h d best. none list n links h d (lowest_noted g list n d notes k best) }

  pub note-no-column : (column row : ℕ) → column ≡ 0 → NotedMore 1 g heads (λ list d. in_one_cell g list d column row) notes k notes k
  note-no-column column row e = nothing-more 1 (λ list d. in_one_cell g list d column row) (λ list n links h d best. no-column h d best column row e)

  pub note-past-column : (column row : ℕ) → g.across < column → NotedMore 1 g heads (λ list d. in_one_cell g list d column row) notes k notes k
  note-past-column column row e = nothing-more 1 (λ list d. in_one_cell g list d column row) (λ list n links h d best. past-column h d best column row e)

  pub note-no-row : (column row : ℕ) → row ≡ 0 → NotedMore 3 g heads (λ list d. in_three_cells g list d column row) notes k notes k
  note-no-row column row e = nothing-more 3 (λ list d. in_three_cells g list d column row) (λ list n links h d best. no_row h d best column row e)

  pub note-past-row : (column row : ℕ) → g.down < row → NotedMore 3 g heads (λ list d. in_three_cells g list d column row) notes k notes k
  note-past-row column row e = nothing-more 3 (λ list d. in_three_cells g list d column row) (λ list n links h d best. past_row h d best column row e)

  -- a cell of the grid
  module _ (column row : ℕ) (low : 0 < column) (high : column ≤ g.across) (inside : row < g.down) (own : k < length notes) where
    cell-there : row * g.across + (column - 1) < total g
    cell-there = cell_lt g.across g.down row (column - 1) inside (omega arith)

    before : (list : List Float) (n : ℕ) (d : Disc) (best : ℕ) → lowest_noted g list n d (set notes k (row * g.across + (column - 1))) k best ≡ lowest_noted g list n d notes k best
    before list n d best = noted-frame g list n d notes (set notes k (row * g.across + (column - 1))) k best (set_before notes k (row * g.across + (column - 1)))

    pub note-empty :
        get_or heads (row * g.across + (column - 1)) 0 ≡ 0
        → NotedMore 1 g heads (λ list d. in_one_cell g list d column row) notes k (set notes k (row * g.across + (column - 1))) k
    note-empty e =
        let c = row * g.across + (column - 1) in
        record {
          few = omega arith;
          noted = record { room = subst (λ (m : ℕ). k ≤ m) (sym (length-set notes k c)) noted.room; inside = λ i h. subst (λ (m : ℕ). m < total g) (sym (set_before notes k c i h)) (noted.inside i h) };
          finds =
              λ list n links h d best. before list n d best ∙ empty-in h d (lowest_noted g list n d notes k best) c cell-there e ∙ cell-one h d (lowest_noted g list n d notes k best) column row low high;
        }

    pub note-full : NotedMore 1 g heads (λ list d. in_one_cell g list d column row) notes k (set notes k (row * g.across + (column - 1))) (k + 1)
    note-full =
        record {
          few = le_refl (k + 1);
          noted = record { room = subst (λ (m : ℕ). k + 1 ≤ m) (sym (length-set notes k (row * g.across + (column - 1)))) (omega arith); inside = λ i h. in-grid i h (ℕ_discrete i k) };
          finds = finds;
        }
      where
        in-grid : (i : ℕ) → i < k + 1 → Dec (i ≡ k) → get_or (set notes k (row * g.across + (column - 1))) i 0 < total g
        in-grid i h (yes q) =
            subst (λ (m : ℕ). m < total g) (sym (ap (λ (m : ℕ). get_or (set notes k (row * g.across + (column - 1))) m 0) q ∙ get_or-set_same notes k (row * g.across + (column - 1)) 0 own)) cell-there
        in-grid i h (no q) =
            let l : i < k = omega arith in
            subst (λ (m : ℕ). m < total g) (sym (set_before notes k (row * g.across + (column - 1)) i l)) (noted.inside i l)

        finds :
            (list : List Float) (n : ℕ) (links : List ℕ) → Chained g list n heads links → (d : Disc) (best : ℕ)
            → lowest_noted g list n d (set notes k (row * g.across + (column - 1))) (k + 1) best ≡ lowest_below (in_one_cell g list d column row) n (lowest_noted g list n d notes k best)
        finds list n links h d best =
            noted-next g list n d (set notes k (row * g.across + (column - 1))) k best
            ∙ ap (λ (c : ℕ). lowest_below (in_cell (cells_of g list n) c (within d list)) n (lowest_noted g list n d (set notes k (row * g.across + (column - 1))) k best)) (get_or-set_same notes k (row * g.across + (column - 1)) 0 own)
            ∙ ap (lowest_below (in_cell (cells_of g list n) (row * g.across + (column - 1)) (within d list)) n) (before list n d best)
            ∙ cell-one h d (lowest_noted g list n d notes k best) column row low high

-- three cells of a row that is there
pub note-three :
    (g : Cells) (heads : List ℕ) (column row : ℕ) → 0 < row → {notes notes1 notes2 notes3 : List ℕ} {k k1 k2 k3 : ℕ}
    → NotedMore 1 g heads (λ list d. in_one_cell g list d column (row - 1)) notes k notes1 k1
    → NotedMore 1 g heads (λ list d. in_one_cell g list d (column + 1) (row - 1)) notes1 k1 notes2 k2
    → NotedMore 1 g heads (λ list d. in_one_cell g list d (column + 2) (row - 1)) notes2 k2 notes3 k3
    → NotedMore 3 g heads (λ list d. in_three_cells g list d column row) notes k notes3 k3
note-three g heads column row low {notes} {notes1} {notes2} {notes3} {k} {k1} {k2} {k3} a b c =
    let fa = a.few in
    let fb = b.few in
    let fc = c.few in
    record {
      few = omega arith;
      noted = c.noted;
      finds =
          λ list n links h d best. three-cells h d (lowest_noted g list n d notes k best) column row (lowest_noted g list n d notes1 k1 best) (lowest_noted g list n d notes2 k2 best) (lowest_noted g list n d notes3 k3 best) low (a.finds list n links h d best) (b.finds list n links h d best) (c.finds list n links h d best);
    }

-- all nine cells, noted and walked
pub nine-noted :
    (g : Cells) (list : List Float) (n : ℕ) (heads links : List ℕ) → Chained g list n heads links → (d : Disc) (best column row : ℕ)
    → {notes notes1 notes2 notes3 : List ℕ} {k1 k2 k3 : ℕ} (r : ℕ)
    → NotedMore 3 g heads (λ list d. in_three_cells g list d column row) notes 0 notes1 k1
    → NotedMore 3 g heads (λ list d. in_three_cells g list d column (row + 1)) notes1 k1 notes2 k2
    → NotedMore 3 g heads (λ list d. in_three_cells g list d column (row + 2)) notes2 k2 notes3 k3
    → Sought list heads links notes3 k3 d best r → r ≡ lowest_below (in_nine_cells g list d column row) n best
unfolding lowest_noted
nine-noted g list n heads links h d best column row {notes} {notes1} {notes2} {notes3} {k1} {k2} {k3} r a b c sought =
    sought g n h c.noted
    ∙ nine-cells h d best column row (lowest_noted g list n d notes1 k1 best) (lowest_noted g list n d notes2 k2 best) (lowest_noted g list n d notes3 k3 best) (a.finds list n links h d best) (b.finds list n links h d best) (c.finds list n links h d best)

-- ---- the walk of the noted cells
pub walk_first : (g : Cells) (list : List Float) (n : ℕ) (d : Disc) (notes : List ℕ) (best : ℕ) → best ≡ lowest_noted g list n d notes 0 best
unfolding lowest_noted
walk_first g list n d notes best = refl

pub walk-next :
    (g : Cells) (list : List Float) (n : ℕ) (heads links : List ℕ) → Chained g list n heads links → (d : Disc) (notes : List ℕ) (k i best found r : ℕ)
    → Noted g notes k → i < k → Walked list links (get_or heads (get_or notes i 0) 0) d found r → found ≡ lowest_noted g list n d notes i best
    → r ≡ lowest_noted g list n d notes (i + 1) best
walk-next g list n heads links h d notes k i best found r noted l walked e =
    walked-in h d found (get_or notes i 0) r (noted.inside i l) walked
    ∙ ap (lowest_below (in_cell (cells_of g list n) (get_or notes i 0) (within d list)) n) e
    ∙ sym (noted-next g list n d notes i best)

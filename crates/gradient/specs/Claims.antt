-- What the coefficients mean: how N, five times the exact response, changes where one cell of the tile is raised by one. The ring may have the cell at several places,
-- and the cross may have it too. The proof is in proofs/Theorems.antt.
use Rattle.std.specs.Prelude.{◌≡◌, ◌⊎◌, cond, List, ℕ, ◌+◌, ◌*◌, ◌≤◌, ◌<◌, eqb, ℤ, pos, ◌+ℤ◌, ◌-ℤ◌, ◌*ℤ◌, length, get_or, set}
use Rattle.std.proofs.Math.IntN.{sub_ℕ}
use Rattle.shapes.specs.Turns.{turns}
use Rattle.pixel_response.specs.Samples.{ring_sum, cross_sum, gain, loss}
use Rattle.gradient.specs.Stencil.{cell_of, ring_of, cross_of}
use Rattle.gradient.specs.Coefficients.{mean_sign, coefficient}

-- N of ring samples s and cross samples c
abbrev pub n_of : (ℕ → ℕ) → (ℕ → ℕ) → ℤ
n_of s c = sub_ℕ (gain s) (loss s c)

-- the difference a - b is not zero, and a' - b' is not on the other side of zero
abbrev pub Keeps : ℕ → ℕ → ℕ → ℕ → Type 0
Keeps a b a' b' = ((a < b) × (a' ≤ b')) ⊎ ((b < a) × (b' ≤ a'))

-- of all thirteen differences under a magnitude
pub record AllKeep (s c s' c' : ℕ → ℕ) : Type 0 where
  pub squares : (q : ℕ) → q < 4 → Keeps (s q + s (q + 8)) (s (q + 4) + s (q + 12)) (s' q + s' (q + 8)) (s' (q + 4) + s' (q + 12))
  pub edges : (e : ℕ) → e < 8 → Keeps (s e) (s (e + 8)) (s' e) (s' (e + 8))
  pub means : Keeps (5 * ring_sum s) (16 * cross_sum c) (5 * ring_sum s') (16 * cross_sum c')

-- the cell p of the tile raised by one
abbrev pub raised_at : ℕ → List ℕ → List ℕ
raised_at p tile = set tile p (get_or tile p 0 + 1)

-- a sum over the first n places that are the cell p
abbrev pub sum_over : ℕ → (ℕ → ℕ) → ℕ → (ℕ → ℤ) → ℤ
sum_over n cell p f = turns n (λ k z. z +ℤ cond (eqb (cell k) p) (f k) (pos 0)) (pos 0)

-- for each ring place five times its coefficient less five times the sign of the means, for each cross place 16 times that sign
abbrev pub RaisingMoves : Type 0
RaisingMoves =
    (tile : List ℕ) (side : ℕ) (ring : List ℤ) (x y p : ℕ) → p < length tile
    → let s = ring_of tile side ring x y in
    let c = cross_of tile side ring x y in
    let s' = ring_of (raised_at p tile) side ring x y in
    let c' = cross_of (raised_at p tile) side ring x y in
    let cell = cell_of side ring x y in
    AllKeep s c s' c'
    → n_of s' c' ≡ n_of s c
    +ℤ (sum_over 16 cell p (λ k. pos 5 *ℤ coefficient s k -ℤ pos 5 *ℤ mean_sign s c)
    +ℤ sum_over 5 (λ k. cell (16 + k)) p (λ k. pos 16 *ℤ mean_sign s c))

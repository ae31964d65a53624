-- A list by its entries, and a list whose first entries are written anew.
use Rattle.std.specs.Prelude.{List, [], ◌∷◌, ◌++◌, ℕ, zero, suc, drop}

-- f 0, f 1, .., f (n - 1)
unfoldable pub tabulated : {A : Type 0} → ℕ → (ℕ → A) → List A
tabulated zero f = []
tabulated (suc n) f = tabulated n f ++ (f n ∷ [])

-- the first n entries are those of f, the others as they were
unfoldable pub overwritten : {A : Type 0} → ℕ → (ℕ → A) → List A → List A
unfolding tabulated
overwritten n f old = tabulated n f ++ drop n old

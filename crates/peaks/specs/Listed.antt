-- Numbers chosen by a test: those of a run, and those of a list.
use Rattle.std.specs.Prelude.{◌≡◌, Bool, cond, List, [], ◌∷◌, ◌++◌, ℕ, zero, suc, ◌+◌, ◌≤◌, ◌<◌, length, get_or}

-- the n numbers from k on that have p, in order
unfoldable pub between : ℕ → ℕ → (ℕ → Bool) → List ℕ
between k zero p = []
between k (suc n) p = between k n p ++ cond (p (k + n)) ((k + n) ∷ []) []

-- those of a list that have p
unfoldable pub picked : List ℕ → (ℕ → Bool) → List ℕ
picked [] p = []
picked (k ∷ l) p = cond (p k) (k ∷ []) [] ++ picked l p

-- what a closure answers of a number, where it answers, is whether that has p: of the n numbers from k on, and of those of a list from `first` on
abbrev pub Tells : (ℕ → Bool → Type 0) → (ℕ → Bool) → ℕ → ℕ → Type 0
Tells answers p k n = (i : ℕ) (r : Bool) → k ≤ i → i < k + n → answers i r → r ≡ p i

abbrev pub TellsListed : (ℕ → Bool → Type 0) → (ℕ → Bool) → List ℕ → ℕ → Type 0
TellsListed answers p list first = (i : ℕ) (r : Bool) → first ≤ i → i < length list → answers (get_or list i 0) r → r ≡ p (get_or list i 0)

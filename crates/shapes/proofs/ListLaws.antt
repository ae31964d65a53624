-- A list by its entries, and a list whose first entries are written anew, one entry after the other.
use mathlib.Core.Path.{◌≡◌, refl, sym, ap, ◌∙◌, subst}
use mathlib.Core.Logic.{⊎_elim}
use mathlib.Core.List.{List, [], ◌∷◌, ◌++◌, append-nil}
use Prim.Native.Nat.{ℕ, zero, suc, ◌+◌, ◌≤◌, ◌<◌}
use native.Mathlib.Nat.{eq-or-lt_of_le, le_of_suc-le-suc, le_refl}
use native.Mathlib.Numerals.{add-one}
use native.Mathlib.Omega.{arith}
use lib.ListN.{length, get_or, set, drop, length-append, get_or-append, drop_of_length-le}
use lib.Seq.{drop-cons, append_snoc, set_at, get_or_at, ext_get_or}
use Rattle.shapes.specs.Lists.{tabulated, overwritten}

-- ---- by its entries
pub length-tabulated : {A : Type 0} (n : ℕ) (f : ℕ → A) → length (tabulated n f) ≡ n
unfolding tabulated
length-tabulated zero f = refl
length-tabulated (suc n) f = length-append (tabulated n f) (f n ∷ []) ∙ ap (λ (k : ℕ). k + 1) (length-tabulated n f) ∙ add-one n

pub get_d-tabulated : {A : Type 0} (n : ℕ) (f : ℕ → A) (i : ℕ) (d : A) → i < n → get_or (tabulated n f) i d ≡ f i
unfolding tabulated
get_d-tabulated zero f i d h = absurd (let z : ⊥ = omega arith in z)
get_d-tabulated (suc n) f i d h =
    ⊎_elim
    (λ e. ap (λ (k : ℕ). get_or (tabulated n f ++ (f n ∷ [])) k d) e ∙ get_or_at (tabulated n f) (f n) [] d n (length-tabulated n f) ∙ ap f (sym e))
    (λ l. get_or-append (tabulated n f) (f n ∷ []) d i (subst (λ (k : ℕ). i < k) (sym (length-tabulated n f)) l) ∙ get_d-tabulated n f i d l)
    (eq-or-lt_of_le (le_of_suc-le-suc h))

pub tabulated-cong : {A : Type 0} (n : ℕ) (f g : ℕ → A) → ((i : ℕ) → i < n → f i ≡ g i) → tabulated n f ≡ tabulated n g
unfolding tabulated
tabulated-cong zero f g e = refl
tabulated-cong {A} (suc n) f g e =
    ap (λ (l : List A). l ++ (f n ∷ [])) (tabulated-cong n f g (λ i l. e i (omega arith))) ∙ ap (λ (x : A). tabulated n g ++ (x ∷ [])) (e n (omega arith))

-- a list of n entries is that of its entries
pub tabulated-by : {A : Type 0} (n : ℕ) (d : A) (list : List A) → length list ≡ n → tabulated n (λ i. get_or list i d) ≡ list
tabulated-by n d list h =
    ext_get_or d (tabulated n (λ i. get_or list i d)) list (length-tabulated n (λ i. get_or list i d) ∙ sym h)
    (λ i l. get_d-tabulated n (λ i. get_or list i d) i d (subst (λ (k : ℕ). i < k) (length-tabulated n (λ i. get_or list i d)) l))

-- an entry within a list, whatever is read past its end
pub get_d-inside : {A : Type 0} (l : List A) (i : ℕ) (d e : A) → i < length l → get_or l i d ≡ get_or l i e
get_d-inside [] i d e h = absurd (let z : ⊥ = omega arith in z)
get_d-inside (x ∷ l) zero d e h = refl
get_d-inside (x ∷ l) (suc i) d e h = get_d-inside l i d e (le_of_suc-le-suc h)

-- ---- written anew
pub overwritten-none : {A : Type 0} (f : ℕ → A) (old : List A) → old ≡ overwritten 0 f old
unfolding overwritten tabulated
overwritten-none f old = refl

module _ {A : Type 0} (n : ℕ) (f : ℕ → A) (old : List A) (h : n < length old) where
  parted : (d : A) → overwritten n f old ≡ tabulated n f ++ (get_or old n d ∷ drop (suc n) old)
  unfolding overwritten
  parted d = ap (λ (l : List A). tabulated n f ++ l) (drop-cons old n d h)

  -- the next entry is still the old one
  pub get_d-overwritten : (d : A) → get_or (overwritten n f old) n d ≡ get_or old n d
  get_d-overwritten d = ap (λ (l : List A). get_or l n d) (parted d) ∙ get_or_at (tabulated n f) (get_or old n d) (drop (suc n) old) d n (length-tabulated n f)

  pub overwritten-more : (v : A) → v ≡ f n → set (overwritten n f old) n v ≡ overwritten (n + 1) f old
  unfolding overwritten tabulated
  overwritten-more v e =
      ap (λ (l : List A). set l n v) (parted v)
      ∙ set_at (tabulated n f) (get_or old n v) (drop (suc n) old) v n (length-tabulated n f)
      ∙ sym (append_snoc (tabulated n f) v (drop (suc n) old))
      ∙ ap (λ (x : A). (tabulated n f ++ (x ∷ [])) ++ drop (suc n) old) e
      ∙ ap (λ (k : ℕ). tabulated k f ++ drop k old) (sym (add-one n))

module _ {A : Type 0} (n : ℕ) (f : ℕ → A) (old : List A) (h : length old ≡ n) where
  pub overwritten-whole : overwritten n f old ≡ tabulated n f
  unfolding overwritten
  overwritten-whole = ap (λ (l : List A). tabulated n f ++ l) (drop_of_length-le old (subst (λ (k : ℕ). k ≤ n) (sym h) (le_refl n))) ∙ append-nil (tabulated n f)

-- with the entries of a list, and no more, it is that list
pub overwritten-by : {A : Type 0} (n : ℕ) (d : A) (list old : List A) → length list ≡ n → length old ≡ n → overwritten n (λ i. get_or list i d) old ≡ list
overwritten-by n d list old h e = overwritten-whole n (λ i. get_or list i d) old e ∙ tabulated-by n d list h

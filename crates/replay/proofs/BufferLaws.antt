-- A list that is written over from the front, and tests of every element and of every number from a place on.
use Rattle.std.proofs.Common.{◌≡◌, refl, sym, ap, ◌∙◌, Bool, true, false, cond, List, [], ◌∷◌, ℕ, zero, suc, ◌+◌, ◌-◌, ◌≤◌, ◌<◌, length, drop, get_or, slice_index, slice_set, arith}
use native.Mathlib.Nat.{not-suc-le-zero, le_of_suc-le-suc, zero-add}
use native.Mathlib.Numerals.{add-one}
use Rattle.replay.specs.Buffers.{over, every, every_at}

over_suc : {A : Type 0} (f : ℕ → A) (i n : ℕ) (l : List A) → n < length l → slice_set (over f i n l) n (f (i + n)) ≡ over f i (suc n) l
unfolding over
over_suc f i n [] h = absurd (not-suc-le-zero h)
over_suc f i zero (x ∷ l) h = ap (λ (k : ℕ). f k ∷ l) (nought i)
  where
    nought : (i : ℕ) → i + 0 ≡ i
    nought i = omega arith
over_suc f i (suc n) (x ∷ l) h =
    ap (λ (k : ℕ). f i ∷ slice_set (over f (suc i) n l) n (f k)) (shifted i n) ∙ ap (λ (t : List _). f i ∷ t) (over_suc f (suc i) n l (le_of_suc-le-suc h))
  where
    shifted : (i n : ℕ) → i + suc n ≡ suc i + n
    shifted i n = omega arith

pub over_more : {A : Type 0} (f : ℕ → A) (n : ℕ) (l : List A) (v : A) → n < length l → v ≡ f n → slice_set (over f 0 n l) n v ≡ over f 0 (n + 1) l
unfolding over
over_more f n l v h e =
    ap (λ (x : _). slice_set (over f 0 n l) n x) (e ∙ ap f (sym (zero-add n)))
    ∙ over_suc f 0 n l h
    ∙ ap (λ (k : ℕ). over f 0 k l) (sym (add-one n))

pub length_over : {A : Type 0} (f : ℕ → A) (i n : ℕ) (l : List A) → length (over f i n l) ≡ length l
unfolding over
length_over f i zero l = refl
length_over f i (suc n) [] = refl
length_over f i (suc n) (x ∷ l) = ap suc (length_over f (suc i) n l)

-- ---- every number
gap : (i n : ℕ) → i < n → n - i ≡ suc (n - suc i)
gap i n h = omega arith

pub every_more : (p : ℕ → Bool) (i n : ℕ) → i < n → p i ≡ true → every p i (n - i) ≡ every p (i + 1) (n - (i + 1))
unfolding every
every_more p i n h e =
    ap (every p i) (gap i n h)
    ∙ ap (λ (b : Bool). cond b (every p (suc i) (n - suc i)) false) e
    ∙ ap (λ (k : ℕ). every p k (n - k)) (sym (add-one i))

pub every_fails : (p : ℕ → Bool) (i n : ℕ) → i < n → p i ≡ false → every p i (n - i) ≡ false
unfolding every
every_fails p i n h e = ap (every p i) (gap i n h) ∙ ap (λ (b : Bool). cond b (every p (suc i) (n - suc i)) false) e

pub every_end : (p : ℕ → Bool) (i n : ℕ) → n ≤ i → every p i (n - i) ≡ true
unfolding every
every_end p i n h = ap (every p i) (none i n h)
  where
    none : (i n : ℕ) → n ≤ i → n - i ≡ 0
    none i n h = omega arith

pub every_start : (p : ℕ → Bool) (n : ℕ) → every p 0 (n - 0) ≡ every p 0 n
every_start p n = ap (every p 0) (whole n)
  where
    whole : (n : ℕ) → n - 0 ≡ n
    whole n = omega arith

-- ---- every element: x is the one at i
next_at : {A : Type 0} (p : ℕ → A → Bool) (i k : ℕ) (l : List A) (x : A) → i < length l → x ≡ get_or l i x → every_at p k (drop i l) ≡ cond (p k x) (every_at p (suc k) (drop (suc i) l)) false
unfolding every_at
next_at p i k [] x h e = absurd (not-suc-le-zero h)
next_at p zero k (a ∷ l) x h e = ap (λ (y : _). cond (p k y) (every_at p (suc k) l) false) (sym e)
next_at p (suc i) k (a ∷ l) x h e = next_at p i k l x (le_of_suc-le-suc h) e

pub all_more : {A : Type 0} (p : ℕ → A → Bool) (i : ℕ) (l : List A) (x : A) → i < length l → x ≡ get_or l i x → p i x ≡ true → every_at p i (drop i l) ≡ every_at p (i + 1) (drop (i + 1) l)
all_more p i l x h g e =
    next_at p i i l x h g
    ∙ ap (λ (b : Bool). cond b (every_at p (suc i) (drop (suc i) l)) false) e
    ∙ ap (λ (k : ℕ). every_at p k (drop k l)) (sym (add-one i))

pub all_fails : {A : Type 0} (p : ℕ → A → Bool) (i : ℕ) (l : List A) (x : A) → i < length l → x ≡ get_or l i x → p i x ≡ false → every_at p i (drop i l) ≡ false
all_fails p i l x h g e = next_at p i i l x h g ∙ ap (λ (b : Bool). cond b (every_at p (suc i) (drop (suc i) l)) false) e

pub all_end : {A : Type 0} (p : ℕ → A → Bool) (i : ℕ) (l : List A) → length l ≤ i → every_at p i (drop i l) ≡ true
unfolding every_at
all_end p i l h = past i i l h
  where
    past : (i k : ℕ) (l : List _) → length l ≤ i → every_at p k (drop i l) ≡ true
    past zero k [] h = refl
    past (suc i) k [] h = refl
    past zero k (a ∷ l) h = absurd (not-suc-le-zero h)
    past (suc i) k (a ∷ l) h = past i k l (le_of_suc-le-suc h)

-- ---- the same of whole numbers
number_here : (l : List ℕ) (i : ℕ) → i < length l → slice_index l i ≡ get_or l i (slice_index l i)
number_here [] i h = absurd (not-suc-le-zero h)
number_here (a ∷ l) zero h = refl
number_here (a ∷ l) (suc i) h = number_here l i (le_of_suc-le-suc h)

pub numbers_more : (p : ℕ → ℕ → Bool) (i : ℕ) (l : List ℕ) → i < length l → p i (slice_index l i) ≡ true → every_at p i (drop i l) ≡ every_at p (i + 1) (drop (i + 1) l)
numbers_more p i l h e = all_more p i l (slice_index l i) h (number_here l i h) e

pub numbers_fail : (p : ℕ → ℕ → Bool) (i : ℕ) (l : List ℕ) → i < length l → p i (slice_index l i) ≡ false → every_at p i (drop i l) ≡ false
numbers_fail p i l h e = all_fails p i l (slice_index l i) h (number_here l i h) e

-- The element at a place by another one: within the list it is set, past its end the list stays.
use Rattle.std.proofs.Common.{◌≡◌, refl, ap, ◌∙◌, List, [], ◌∷◌, ℕ, zero, suc, ◌<◌, ◌≤◌, length, get_or, slice_set}
use native.Mathlib.Nat.{not-suc-le-zero, le_of_suc-le-suc}
use Rattle.std.specs.Int.Bits.{bit_xor, xor_self, xor_assoc, xor_zero_r}
use Rattle.replay.specs.Spoil.{changed_at, flipped, mask_of, byte_of}

pub changed_within : {A : Type 0} (f : A → A) (l : List A) (i : ℕ) (x v : A) → i < length l → x ≡ get_or l i x → v ≡ f x → slice_set l i v ≡ changed_at f i l
unfolding changed_at
changed_within f [] i x v h e p = absurd (not-suc-le-zero h)
changed_within f (a ∷ l) zero x v h e p = ap (λ (y : _). y ∷ l) (p ∙ ap f e)
changed_within f (a ∷ l) (suc i) x v h e p = ap (λ (t : List _). a ∷ t) (changed_within f l i x v (le_of_suc-le-suc h) e p)

pub changed_past : {A : Type 0} (f : A → A) (l : List A) (i : ℕ) → length l ≤ i → l ≡ changed_at f i l
unfolding changed_at
changed_past f [] i h = refl
changed_past f (a ∷ l) zero h = absurd (not-suc-le-zero h)
changed_past f (a ∷ l) (suc i) h = ap (λ (t : List _). a ∷ t) (changed_past f l i (le_of_suc-le-suc h))

-- ---- a bit that is flipped twice is as it was
back : (a m : ℕ) → bit_xor (bit_xor a m) m ≡ a
back a m = xor_assoc a m m ∙ ap (bit_xor a) (xor_self m) ∙ xor_zero_r a

-- the number at i by another one and back again, where f undoes itself
undone : (f : ℕ → ℕ) → ((n : ℕ) → f (f n) ≡ n) → (l : List ℕ) (i : ℕ) → slice_set (slice_set l i (f (get_or l i 0))) i (f (get_or (slice_set l i (f (get_or l i 0))) i 0)) ≡ l
undone f e [] i = refl
undone f e (a ∷ l) zero = ap (λ (n : ℕ). n ∷ l) (e a)
undone f e (a ∷ l) (suc i) = ap (λ (t : List _). a ∷ t) (undone f e l i)

pub flipped_twice : (l : List ℕ) (place bit : ℕ) → flipped (flipped l place bit) place bit ≡ l
unfolding flipped
flipped_twice l place bit = undone (λ n. bit_xor n (mask_of bit)) (λ n. back n (mask_of bit)) l (byte_of place bit)

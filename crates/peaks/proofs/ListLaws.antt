-- Numbers that have a property, in order, cut in two and picked out of more; and a list that grows by them.
use mathlib.Core.Path.{◌≡◌, refl, sym, ap, ◌∙◌, subst}
use mathlib.Core.Logic.{⊎_elim}
use mathlib.Core.Bool.{Bool, true, false, ◌&&◌, cond}
use mathlib.Core.List.{List, [], ◌∷◌, ◌++◌, append-nil, append_assoc}
use Prim.Native.Nat.{ℕ, zero, suc, ◌+◌, ◌-◌, ◌≤◌, ◌<◌}
use native.Mathlib.Nat.{add-zero, add-suc, add_assoc, not-suc-le-zero}
use native.Mathlib.Numerals.{add-one}
use native.Mathlib.Omega.{arith}
use lib.ListN.{length, get_or, set, drop, take, length-append, get_or-append}
use lib.Seq.{take_all, take-suc, take-suc-set, take-set-le, drop-set-lt, take-take, drop-drop, drop-append-le, length-take-le, get_or-append-add, get_or-take, get_or-drop, take_at, drop_at}
use Rattle.peaks.specs.Call.{chosen}
use Rattle.std.specs.Int.{from_bool}
use Rattle.peaks.specs.Listed.{between, picked, TellsListed}
use Rattle.peaks.proofs.PeakLaws.{lt-or-le}

abbrev one : Bool → ℕ → List ℕ
one b k = cond b (k ∷ []) []

grown : (l : List ℕ) (b : Bool) (k n : ℕ) → length l ≤ n → length (l ++ one b k) ≤ suc n
grown l true k n h = omega (arith, length-append l (k ∷ []))
grown l false k n h = omega (arith, length-append l [])

pub bit-most : (b : Bool) → from_bool b ≤ 1
bit-most true = omega arith
bit-most false = omega arith

pub length-taken : (n : ℕ) (list : List ℕ) → n ≤ length list → length (take n list) ≡ n
length-taken n list h = length-take-le n list h

pub taken-at : (n : ℕ) (list : List ℕ) (i : ℕ) → i < n → get_or (take n list) i 0 ≡ get_or list i 0
taken-at n list i h = get_or-take n list i 0 h

pub take-again : (m n : ℕ) (list : List ℕ) → m ≤ n → take m (take n list) ≡ take m list
take-again m n list h = take-take m n list h

module _ (p : ℕ → Bool) where
  pub between_none : (k : ℕ) → between k 0 p ≡ []
  unfolding between
  between_none k = refl

  pub between_more : (k n : ℕ) → between k (n + 1) p ≡ between k n p ++ one (p (k + n)) (k + n)
  unfolding between
  between_more k n = ap (λ (m : ℕ). between k m p) (add-one n)

  pub between-cut : (k a b : ℕ) → between k (a + b) p ≡ between k a p ++ between (k + a) b p
  unfolding between
  between-cut k a zero = ap (λ (n : ℕ). between k n p) (add-zero a) ∙ sym (append-nil (between k a p))
  between-cut k a (suc b) =
      ap (λ (n : ℕ). between k n p) (add-suc a b) ∙ ap (λ (z : List ℕ). z ++ one (p (k + (a + b))) (k + (a + b))) (between-cut k a b)
      ∙ ap (λ (n : ℕ). (between k a p ++ between (k + a) b p) ++ one (p n) n) (sym (add_assoc k a b))
      ∙ append_assoc (between k a p) (between (k + a) b p) (one (p (k + a + b)) (k + a + b))

  pub between-clear : (k n : ℕ) → ((i : ℕ) → k ≤ i → i < k + n → p i ≡ false) → between k n p ≡ []
  unfolding between
  between-clear k zero c = refl
  between-clear k (suc n) c =
      ap (λ (z : Bool). between k n p ++ one z (k + n)) (c (k + n) (omega arith) (omega arith)) ∙ append-nil (between k n p) ∙ between-clear k n (λ i h l. c i h (omega arith))

  pub between-most : (k n : ℕ) → length (between k n p) ≤ n
  unfolding between
  between-most k zero = omega arith
  between-most k (suc n) = grown (between k n p) (p (k + n)) (k + n) n (between-most k n)

  -- each of them is one of the n
  pub between-at : (k n i : ℕ) → i < length (between k n p) → (k ≤ get_or (between k n p) i 0) × (get_or (between k n p) i 0 < k + n)
  unfolding between
  between-at k zero i h = absurd (not-suc-le-zero h)
  between-at k (suc n) i h =
      ⊎_elim (λ l. subst (λ (z : ℕ). (k ≤ z) × (z < k + suc n)) (sym (get_or-append (between k n p) (one (p (k + n)) (k + n)) 0 i l)) (let q = between-at k n i l in (q.0, omega (arith, q.1))))
      (λ l. last (p (k + n)) (i - length (between k n p)) (omega arith) h) (lt-or-le i (length (between k n p)))
    where
      last : (b : Bool) (j : ℕ) → i ≡ length (between k n p) + j → i < length (between k n p ++ one b (k + n)) → (k ≤ get_or (between k n p ++ one b (k + n)) i 0) × (get_or (between k n p ++ one b (k + n)) i 0 < k + suc n)
      last true zero e m = subst (λ (z : ℕ). (k ≤ z) × (z < k + suc n)) (sym (ap (λ (z : ℕ). get_or (between k n p ++ ((k + n) ∷ [])) z 0) e ∙ get_or-append-add (between k n p) ((k + n) ∷ []) 0 0)) (omega arith, omega arith)
      last true (suc j) e m = absurd (let z : ⊥ = omega (arith, length-append (between k n p) ((k + n) ∷ [])) in z)
      last false j e m = absurd (let z : ⊥ = omega (arith, length-append (between k n p) []) in z)

  chosen-between : (k n : ℕ) → chosen (k + n) p ≡ chosen k p ++ between k n p
  unfolding chosen between
  chosen-between k zero = ap (λ (n : ℕ). chosen n p) (add-zero k) ∙ sym (append-nil (chosen k p))
  chosen-between k (suc n) =
      ap (λ (m : ℕ). chosen m p) (add-suc k n) ∙ ap (λ (z : List ℕ). z ++ one (p (k + n)) (k + n)) (chosen-between k n)
      ∙ append_assoc (chosen k p) (between k n p) (one (p (k + n)) (k + n))

  pub chosen-up-to : (k r : ℕ) → k ≤ r → chosen r p ≡ chosen k p ++ between k (r - k) p
  chosen-up-to k r h = ap (λ (n : ℕ). chosen n p) (let e : r ≡ k + (r - k) = omega arith in e) ∙ chosen-between k (r - k)

  pub chosen_none : chosen 0 p ≡ []
  unfolding chosen
  chosen_none = refl

  pub chosen_more : (n : ℕ) → chosen (n + 1) p ≡ chosen n p ++ one (p n) n
  unfolding chosen
  chosen_more n = ap (λ (k : ℕ). chosen k p) (add-one n)

  chosen_is : (n : ℕ) → chosen n p ≡ between 0 n p
  unfolding chosen
  chosen_is n = ap (λ (k : ℕ). chosen k p) (let e : n ≡ 0 + n = omega arith in e) ∙ chosen-between 0 n

  pub chosen-most : (n : ℕ) → length (chosen n p) ≤ n
  chosen-most n = subst (λ (z : List ℕ). length z ≤ n) (sym (chosen_is n)) (between-most 0 n)

  pub chosen-below : (n i : ℕ) → i < length (chosen n p) → get_or (chosen n p) i 0 < n
  chosen-below n i h = let q = (between-at 0 n i (subst (λ (z : List ℕ). i < length z) (chosen_is n) h)).1 in subst (λ (z : List ℕ). get_or z i 0 < n) (sym (chosen_is n)) (omega arith)

  -- ---- picked
  picked-append : (a b : List ℕ) → picked (a ++ b) p ≡ picked a p ++ picked b p
  unfolding picked
  picked-append [] b = refl
  picked-append (k ∷ a) b = ap (λ (z : List ℕ). one (p k) k ++ z) (picked-append a b) ∙ sym (append_assoc (one (p k) k) (picked a p) (picked b p))

  picked_none : picked [] p ≡ []
  unfolding picked
  picked_none = refl

  picked-one : (l : List ℕ) (k : ℕ) → picked (l ++ (k ∷ [])) p ≡ picked l p ++ one (p k) k
  unfolding picked
  picked-one l k = picked-append l (k ∷ []) ∙ ap (λ (z : List ℕ). picked l p ++ z) (append-nil (one (p k) k))

  -- what is picked of those that have q is all that has p, where q follows from p
  pub picked-between : (q : ℕ → Bool) (k n : ℕ) → ((i : ℕ) → k ≤ i → i < k + n → q i ≡ false → p i ≡ false) → picked (between k n q) p ≡ between k n p
  unfolding between picked
  picked-between q k zero f = refl
  picked-between q k (suc n) f =
      picked-append (between k n q) (one (q (k + n)) (k + n)) ∙ ap (λ (z : List ℕ). z ++ picked (one (q (k + n)) (k + n)) p) (picked-between q k n (λ i h l. f i h (omega arith)))
      ∙ ap (λ (z : List ℕ). between k n p ++ z) (last (q (k + n)) refl)
    where
      last : (b : Bool) → q (k + n) ≡ b → picked (one b (k + n)) p ≡ one (p (k + n)) (k + n)
      last true e = append-nil (one (p (k + n)) (k + n))
      last false e = sym (ap (λ (z : Bool). one z (k + n)) (f (k + n) (omega arith) (omega arith) e))

  -- what is picked of those that have q has both
  pub picked_both : (q : ℕ → Bool) (k n : ℕ) → picked (between k n q) p ≡ between k n (λ i. q i && p i)
  unfolding between picked
  picked_both q k zero = refl
  picked_both q k (suc n) =
      picked-append (between k n q) (one (q (k + n)) (k + n)) ∙ ap (λ (z : List ℕ). z ++ picked (one (q (k + n)) (k + n)) p) (picked_both q k n)
      ∙ ap (λ (z : List ℕ). between k n (λ i. q i && p i) ++ z) (last (q (k + n)))
    where
      last : (b : Bool) → picked (one b (k + n)) p ≡ one (b && p (k + n)) (k + n)
      last true = append-nil (one (p (k + n)) (k + n))
      last false = refl

-- ---- a list that grows
-- one number is written behind the first r, and counts or not
pushed : (list front : List ℕ) (r k : ℕ) (b : Bool) → take r list ≡ front → r < length list → take (r + from_bool b) (set list r k) ≡ front ++ one b k
pushed list front r k true e h = ap (λ (n : ℕ). take n (set list r k)) (add-one r) ∙ take-suc-set list r k h ∙ ap (λ (z : List ℕ). z ++ (k ∷ [])) e
pushed list front r k false e h = ap (λ (n : ℕ). take n (set list r k)) (add-zero r) ∙ take-set-le r list r k (let q : r ≤ r = omega arith in q) ∙ e ∙ sym (append-nil front)

-- it counts where it has p
module _ (p : ℕ → Bool) (numbers : List ℕ) (len : ℕ) {c : ℕ} {b : Bool} (count : c ≡ from_bool b) (room : len < length numbers) where
  pub added-more : (front : List ℕ) (from i : ℕ) → b ≡ p (from + i) → take len numbers ≡ front ++ between from i p → take (len + c) (set numbers len (from + i)) ≡ front ++ between from (i + 1) p
  added-more front from i e f =
      ap (λ (n : ℕ). take (len + n) (set numbers len (from + i))) (count ∙ ap from_bool e) ∙ pushed numbers (front ++ between from i p) len (from + i) (p (from + i)) f room
      ∙ append_assoc front (between from i p) (one (p (from + i)) (from + i)) ∙ ap (λ (z : List ℕ). front ++ z) (sym (between_more p from i))

  pub kept-more : (list : List ℕ) (first i k : ℕ) → first ≤ i → i < length list → k ≡ get_or list i 0 → b ≡ p k → take len numbers ≡ take first list ++ picked (drop first (take i list)) p
      → take (len + c) (set numbers len k) ≡ take first list ++ picked (drop first (take (i + 1) list)) p
  kept-more list first i k h l q e f =
      ap (λ (n : ℕ). take (len + n) (set numbers len k)) (count ∙ ap from_bool e) ∙ pushed numbers (take first list ++ picked (drop first (take i list)) p) len k (p k) f room
      ∙ append_assoc (take first list) (picked (drop first (take i list)) p) (one (p k) k)
      ∙ ap (λ (z : List ℕ). take first list ++ z) (sym (picked-one p (drop first (take i list)) k) ∙ ap (λ (z : List ℕ). picked z p) (sym longer))
    where
      longer : drop first (take (i + 1) list) ≡ drop first (take i list) ++ (k ∷ [])
      longer =
          ap (λ (n : ℕ). drop first (take n list)) (add-one i) ∙ ap (drop first) (take-suc list i 0 l) ∙ ap (λ (z : ℕ). drop first (take i list ++ (z ∷ []))) (sym q)
          ∙ drop-append-le first (take i list) (k ∷ []) (subst (λ (n : ℕ). first ≤ n) (sym (length-take-le i list (let u : i ≤ length list = omega arith in u))) h)

-- kept in place: what is written lies before what is still to be read
pub kept-none : (p : ℕ → Bool) (list : List ℕ) (m : ℕ) → m ≤ length list → take m list ≡ take m list ++ picked (drop m (take m list)) p
kept-none p list m h =
    sym (append-nil (take m list)) ∙ ap (λ (z : List ℕ). take m list ++ z) (sym (picked_none p) ∙ ap (λ (z : List ℕ). picked z p) (sym (ap (λ (z : List ℕ). drop m z) (sym (append-nil (take m list))) ∙ drop_at (take m list) [] m (length-take-le m list h))))

pub kept_at : (list list' : List ℕ) (i : ℕ) → drop i list' ≡ drop i list → get_or list' i 0 ≡ get_or list i 0
kept_at list list' i d =
    ap (λ (n : ℕ). get_or list' n 0) (sym (add-zero i)) ∙ sym (get_or-drop i list' 0 0) ∙ ap (λ (z : List ℕ). get_or z 0 0) d ∙ get_or-drop i list 0 0 ∙ ap (λ (n : ℕ). get_or list n 0) (add-zero i)

pub to_come : (list list' : List ℕ) (r i k : ℕ) → r ≤ i → drop i list' ≡ drop i list → drop (i + 1) (set list' r k) ≡ drop (i + 1) list
to_come list list' r i k h d = drop-set-lt (i + 1) list' r k (let q : r < i + 1 = omega arith in q) ∙ sym (drop-drop 1 i list') ∙ ap (drop 1) d ∙ drop-drop 1 i list

-- all passed, where what was listed goes by another name
pub kept-all : (answers : ℕ → Bool → Type 0) (p : ℕ → Bool) {list list' now : List ℕ} (first i : ℕ) → list ≡ list' → length list ≤ i → (TellsListed answers p list first → now ≡ take first list ++ picked (drop first (take i list)) p)
    → TellsListed answers p list' first → now ≡ take first list' ++ picked (drop first list') p
kept-all answers p {list} {list'} {now} first i e h f =
    subst (λ (z : List ℕ). TellsListed answers p z first → now ≡ take first z ++ picked (drop first z) p) e (λ t. f t ∙ ap (λ (z : List ℕ). take first list ++ picked (drop first z) p) (take_all i list h))

-- what is picked of what was added behind a list
pub picked-behind : (front new : List ℕ) {list list' : List ℕ} (p : ℕ → Bool) (n : ℕ) → n ≡ length front → list ≡ front ++ new → list' ≡ take n list ++ picked (drop n list) p → list' ≡ front ++ picked new p
picked-behind front new p n e f g =
    g ∙ ap (λ (z : List ℕ). take n z ++ picked (drop n z) p) f ∙ ap (λ (z : List ℕ). z ++ picked (drop n (front ++ new)) p) (take_at front new n (sym e)) ∙ ap (λ (z : List ℕ). front ++ picked z p) (drop_at front new n (sym e))

-- a number of what was added
pub behind-at : (front new : List ℕ) {list : List ℕ} (n i : ℕ) → n ≡ length front → list ≡ front ++ new → n ≤ i → i < length list → (get_or list i 0 ≡ get_or new (i - n) 0) × (i - n < length new)
behind-at front new n i e f h l = (
  ap (λ (z : List ℕ). get_or z i 0) f ∙ ap (λ (j : ℕ). get_or (front ++ new) j 0) (let q : i ≡ length front + (i - n) = omega arith in q) ∙ get_or-append-add front new (i - n) 0,
  let q = ap length f ∙ length-append front new in omega arith,
)

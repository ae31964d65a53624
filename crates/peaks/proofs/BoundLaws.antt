-- No two peaks lie in one square of side window + 1: so there are no more peaks than squares that cover what the border leaves.
use mathlib.Core.Path.{◌≡◌, refl, sym, ap, ◌∙◌, subst}
use mathlib.Core.Logic.{⊎_elim}
use mathlib.Core.Bool.{Bool, true, false, ◌&&◌, not, cond, false≢true}
use mathlib.Core.List.{List, [], ◌∷◌, ◌++◌, append-nil}
use Prim.Native.Nat.{ℕ, zero, suc, ◌+◌, ◌-◌, ◌*◌, ◌/◌, ◌%◌, ◌≤◌, ◌<◌, min}
use native.Mathlib.Nat.{add-zero, mul_comm, suc-mul, mul-le-mul, mul-le-mul_right, div-add-mod', mod-lt, div-lt_iff_lt-mul, not-suc-le-zero, eq-or-lt_of_le}
use native.Mathlib.Numerals.{add-one}
use native.Mathlib.Omega.{arith}
use lib.Arith.{digits_div, digits_mod}
use lib.Dec.{leb, ltb, eqb}
use lib.ListN.{length, length-append}
use borrow.Author.Tests.{leb-true, ltb-true, eqb-true, eq-eqb, ne_eqb}
use Rattle.peaks.specs.Peak.{Scan, border, inside, is_peak}
use Rattle.peaks.specs.Call.{chosen, peak_at, peaks_of}
use Rattle.peaks.specs.Sound.{Sound}
use Rattle.peaks.specs.Steps.{covers}
use Rattle.shapes.proofs.TestLaws.{first_of, second-of}
use Rattle.peaks.proofs.Theorems.{is-inside, peaks-apart}

-- ---- numbers that f tells apart and keeps below m are at most m
chosen-same : (n : ℕ) (p q : ℕ → Bool) → ((i : ℕ) → i < n → p i ≡ q i) → chosen n p ≡ chosen n q
unfolding chosen
chosen-same zero p q e = refl
chosen-same (suc n) p q e =
    ap (λ (z : List ℕ). z ++ cond (p n) (n ∷ []) []) (chosen-same n p q (λ i h. e i (omega arith))) ∙ ap (λ (z : Bool). chosen n q ++ cond z (n ∷ []) []) (e n (omega arith))

chosen-clear : (n : ℕ) (p : ℕ → Bool) → ((i : ℕ) → i < n → p i ≡ false) → length (chosen n p) ≤ 0
unfolding chosen
chosen-clear zero p e = omega arith
chosen-clear (suc n) p e = subst (λ (z : Bool). length (chosen n p ++ cond z (n ∷ []) []) ≤ 0) (sym (e n (omega arith))) (subst (λ (z : List ℕ). length z ≤ 0) (sym (append-nil (chosen n p))) (chosen-clear n p (λ i h. e i (omega arith))))

module _ (p : ℕ → Bool) (f : ℕ → ℕ) (m : ℕ) where
  -- those that f does not send to m
  abbrev but : ℕ → Bool
  but i = p i && not (eqb (f i) m)

  but-true : (i : ℕ) → but i ≡ true → (p i ≡ true) × (f i ≡ m → ⊥)
  but-true i e = (first_of (p i) (not (eqb (f i) m)) e, λ g. false≢true (sym (ap not (same g)) ∙ second-of (p i) (not (eqb (f i) m)) e))
    where
      same : f i ≡ m → eqb (f i) m ≡ true
      same g = eq-eqb (f i) m g

  but_same : (i : ℕ) → (p i ≡ true → f i ≡ m → ⊥) → p i ≡ but i
  but_same i h = go (p i) refl
    where
      go : (b : Bool) → p i ≡ b → b ≡ (b && not (eqb (f i) m))
      go true e = sym (ap not (ne_eqb (f i) m (h e)))
      go false e = refl

  one_more : (n : ℕ) (b d : Bool) → p n ≡ b → eqb (f n) m ≡ d → ((i j : ℕ) → i < suc n → j < suc n → p i ≡ true → p j ≡ true → f i ≡ f j → i ≡ j)
      → length (chosen n p) ≤ suc (length (chosen n but)) → length (chosen n p ++ cond b (n ∷ []) []) ≤ suc (length (chosen n but ++ cond (b && not d) (n ∷ []) []))
  one_more n false d e g apart h = omega (arith, length-append (chosen n p) [], length-append (chosen n but) [])
  one_more n true false e g apart h = omega (arith, length-append (chosen n p) (n ∷ []), length-append (chosen n but) (n ∷ []))
  one_more n true true e g apart h =
      let q = ap length (chosen-same n p but (λ i l. but_same i (λ u v. let w = apart i n (omega arith) (omega arith) u e (v ∙ sym (eqb-true (f n) m g)) in omega arith))) in
      omega (arith, length-append (chosen n p) (n ∷ []), length-append (chosen n but) [])

  one_less : (n : ℕ) → ((i j : ℕ) → i < n → j < n → p i ≡ true → p j ≡ true → f i ≡ f j → i ≡ j) → length (chosen n p) ≤ suc (length (chosen n but))
  unfolding chosen
  one_less zero apart = omega arith
  one_less (suc n) apart = one_more n (p n) (eqb (f n) m) refl refl apart (one_less n (λ i j h l. apart i j (omega arith) (omega arith)))

not-true-is : (b : Bool) → (b ≡ true → ⊥) → b ≡ false
not-true-is true h = absurd (h refl)
not-true-is false h = refl

told-apart : (m n : ℕ) (p : ℕ → Bool) (f : ℕ → ℕ) → ((i j : ℕ) → i < n → j < n → p i ≡ true → p j ≡ true → f i ≡ f j → i ≡ j) → ((i : ℕ) → i < n → p i ≡ true → f i < m) → length (chosen n p) ≤ m
told-apart zero n p f apart low = chosen-clear n p (λ i h. not-true-is (p i) (λ e. not-suc-le-zero (low i h e)))
told-apart (suc m) n p f apart low =
    let h = one_less p f m n apart in
    let l = told-apart m n (but p f m) f (λ i j u v a b. apart i j u v (but-true p f m i a).0 (but-true p f m j b).0) (λ i u a. let t = but-true p f m i a in let q = low i u t.0 in below (f i) t.1 q) in
    omega arith
  where
    below : (k : ℕ) → (k ≡ m → ⊥) → k < suc m → k < m
    below k e h = ⊎_elim (λ g. absurd (e g)) (λ g. g) (eq-or-lt_of_le (let l : k ≤ m = omega arith in l))

-- ---- lengths of w + 1
same_length : (a b w : ℕ) → a / (w + 1) ≡ b / (w + 1) → a ≤ b + w
same_length a b w e = rest (b / (w + 1) * (w + 1)) (a % (w + 1)) (b % (w + 1)) (sym (div-add-mod' a (w + 1)) ∙ ap (λ (q : ℕ). q * (w + 1) + a % (w + 1)) e) (sym (div-add-mod' b (w + 1))) (mod-lt a {m = w + 1} (omega arith))
  where
    rest : (p q r : ℕ) → a ≡ p + q → b ≡ p + r → q < w + 1 → a ≤ b + w
    rest p q r g h l = omega arith

covered : (a size w : ℕ) → a < size → a / (w + 1) < (size + w) / (w + 1)
covered a size w h =
    (div-lt_iff_lt-mul {k = w + 1} {x = a} {y = (size + w) / (w + 1)} (omega arith)).1
    (rest ((size + w) / (w + 1) * (w + 1)) ((size + w) % (w + 1)) (sym (div-add-mod' (size + w) (w + 1))) (mod-lt (size + w) {m = w + 1} (omega arith)))
  where
    rest : (p q : ℕ) → size + w ≡ p + q → q < w + 1 → a < p
    rest p q e l = omega arith

-- ---- the square of a pixel
module _ (s : Scan) (t : Sound s) where
  abbrev across : ℕ
  across = covers s.width (border s) s.window

  abbrev down : ℕ
  down = covers s.height (border s) s.window

  abbrev column : ℕ → ℕ
  column k = (k % s.width - border s) / (s.window + 1)

  abbrev row : ℕ → ℕ
  row k = (k / s.width - border s) / (s.window + 1)

  abbrev square : ℕ → ℕ
  square k = row k * across + column k

  between-borders : (x y : ℕ) → is_peak s x y ≡ true → (border s ≤ x) × (x + border s < s.width) × (border s ≤ y) × (y + border s < s.height)
  unfolding inside
  between-borders x y e =
      let a = leb (border s) x in
      let b = ltb (x + border s) s.width in
      let c = leb (border s) y in
      let d = ltb (y + border s) s.height in
      let i = is-inside s x y e in
      let abc = first_of (a && b && c) d i in
      let ab = first_of (a && b) c abc in
      (leb-true (border s) x (first_of a b ab), ltb-true (x + border s) s.width (second-of a b ab), leb-true (border s) y (second-of (a && b) c abc), ltb-true (y + border s) s.height (second-of (a && b && c) d i))

  column-low : (k : ℕ) → peak_at s k ≡ true → column k < across
  column-low k e = let b = between-borders (k % s.width) (k / s.width) e in covered (k % s.width - border s) (s.width - 2 * border s) s.window (omega (arith, b.0, b.1))

  row-low : (k : ℕ) → peak_at s k ≡ true → row k < down
  row-low k e = let b = between-borders (k % s.width) (k / s.width) e in covered (k / s.width - border s) (s.height - 2 * border s) s.window (omega (arith, b.2, b.3))

  square-low : (k : ℕ) → peak_at s k ≡ true → square k < across * down
  square-low k e =
      subst (λ (z : ℕ). square k < z) (mul_comm down across)
      (rest (row k * across) (suc (row k) * across) (down * across) (suc-mul (row k) across) (mul-le-mul_right across (let h : suc (row k) ≤ down = row-low k e in h)))
    where
      rest : (p q r : ℕ) → q ≡ p + across → q ≤ r → p + column k < r
      rest p q r u v = let l = column-low k e in omega arith

  near : (a b c : ℕ) → c ≤ a → c ≤ b → (a - c) / (s.window + 1) ≡ (b - c) / (s.window + 1) → a ≤ b + s.window
  near a b c h l e = let q = same_length (a - c) (b - c) s.window e in omega arith

  square-apart : (i j : ℕ) → peak_at s i ≡ true → peak_at s j ≡ true → square i ≡ square j → i ≡ j
  square-apart i j e f g =
      let a = between-borders (i % s.width) (i / s.width) e in
      let b = between-borders (j % s.width) (j / s.width) f in
      let r = sym (digits_div (row i) (column-low i e)) ∙ ap (λ (k : ℕ). k / across) g ∙ digits_div (row j) (column-low j f) in
      let c = sym (digits_mod (row i) (column-low i e)) ∙ ap (λ (k : ℕ). k % across) g ∙ digits_mod (row j) (column-low j f) in
      let same =
      peaks-apart s (i % s.width) (i / s.width) (j % s.width) (j / s.width) e f (near (i % s.width) (j % s.width) (border s) a.0 b.0 c) (near (j % s.width) (i % s.width) (border s) b.0 a.0 (sym c))
      (near (i / s.width) (j / s.width) (border s) a.2 b.2 r) (near (j / s.width) (i / s.width) (border s) b.2 a.2 (sym r)) in
      sym (div-add-mod' i s.width) ∙ ap (λ (y : ℕ). y * s.width + i % s.width) same.1 ∙ ap (λ (x : ℕ). j / s.width * s.width + x) same.0 ∙ div-add-mod' j s.width

  pub most-peaks : length (peaks_of s) ≤ across * down
  unfolding peaks_of
  most-peaks = told-apart (across * down) (s.width * s.height) (peak_at s) square (λ i j h l. square-apart i j) (λ i h. square-low i)

-- the bound is small
pub product-most : (a b w : ℕ) → a ≤ 4096 → b ≤ 4096 → w ≤ 8 → (a + w) / (w + 1) * ((b + w) / (w + 1)) ≤ 16842816
product-most a b w f g h = mul-le-mul {n₂ = 4104} {m₂ = 4104} (side a f) (side b g)
  where
    more : (p r : ℕ) → r ≤ p + r
    more p r = omega arith

    le-mul : (r : ℕ) → r ≤ r * (w + 1)
    le-mul r = subst (λ (z : ℕ). r ≤ z) (mul_comm (w + 1) r) (subst (λ (z : ℕ). r ≤ z) (sym (ap (λ (z : ℕ). z * r) (add-one w) ∙ suc-mul w r)) (more (w * r) r))

    rest : (k p q r : ℕ) → k ≤ 4096 → k + w ≡ p + q → r ≤ p → r ≤ 4104
    rest k p q r l e m = omega arith

    side : (k : ℕ) → k ≤ 4096 → (k + w) / (w + 1) ≤ 4104
    side k l = rest k ((k + w) / (w + 1) * (w + 1)) ((k + w) % (w + 1)) ((k + w) / (w + 1)) l (sym (div-add-mod' (k + w) (w + 1))) (le-mul ((k + w) / (w + 1)))

-- a side cut into lengths of w + 1, the last of them a part
pub rounded-up : (x w : ℕ) → x / (w + 1) + min 1 (x % (w + 1)) ≡ (x + w) / (w + 1)
rounded-up x w = rest (x % (w + 1)) refl
  where
    rest : (r : ℕ) → x % (w + 1) ≡ r → x / (w + 1) + min 1 (x % (w + 1)) ≡ (x + w) / (w + 1)
    rest zero e =
        ap (λ (k : ℕ). x / (w + 1) + k) (let q : min 1 (x % (w + 1)) ≡ 0 = omega (arith, e) in q)
        ∙ sym (ap (λ (k : ℕ). k / (w + 1)) (let q : x + w ≡ x / (w + 1) * (w + 1) + w = omega (arith, e, div-add-mod' x (w + 1)) in q) ∙ digits_div (x / (w + 1)) (let l : w < w + 1 = omega arith in l) ∙ sym (add-zero (x / (w + 1))))
    rest (suc r) e =
        ap (λ (k : ℕ). x / (w + 1) + k) (let q : min 1 (x % (w + 1)) ≡ 1 = omega (arith, e) in q)
        ∙ sym (ap (λ (k : ℕ). k / (w + 1)) (let q : x + w ≡ suc (x / (w + 1)) * (w + 1) + r = omega (arith, e, div-add-mod' x (w + 1), suc-mul (x / (w + 1)) (w + 1)) in q)
        ∙ digits_div (suc (x / (w + 1))) (let l : r < w + 1 = omega (arith, e, mod-lt x {m = w + 1} (omega arith)) in l) ∙ sym (add-one (x / (w + 1))))
